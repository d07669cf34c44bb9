use Rattle.std.proofs.Common.{ap, length}
use Rattle.pl_cursor.proofs.Laying.{layout_kept}
use Rattle.pl_cursor.proofs.layout.Layout.of.Goals as goal

pub returns : goal.returns
returns c =
    layout_kept c.args.reduced.now c.layout-laid.result.now
    (record { stops = c.stops.result; places = c.places.result; width = length c.classes.result.now })
    c.reduced_is_whole.ensures c.layout-laid.ensures c.stops.ensures c.places.ensures
    (ap length c.classes.ensures)
