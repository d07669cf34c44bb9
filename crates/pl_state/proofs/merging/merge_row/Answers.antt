use Rattle.std.proofs.Common.{refl, sym}
use Rattle.pl_rows.specs.Rows.{rows_of}
use Rattle.pl_rows.proofs.Places.{length-rows_of}
use Rattle.pl_state.proofs.Mergings.{up_to_row}
use Rattle.pl_state.proofs.merging.merge_row.Goals as goal

pub returns-clause-up_to : goal.returns-clause-up_to
returns-clause-up_to c =
    up_to_row (rows_of c.args.arity c.args.count c.args.flat.now) c.args.row.now c.args.added c.args.done
    c.bisect-place.result c.behind_row-next.result c.in_ok-more.more _ c.args.count
    c.args.new.now.items c.copy_rows.new.new.items c.append_if.new.new.items c.bisect-place.ensures.from
    c.bisect-place.ensures.to
    (sym (length-rows_of c.args.arity c.args.count c.args.flat.now)) c.bisect-place.ensures.narrowed
    c.in_ok-copy_rows.ensures c.in_ok-more.ensures.words c.in_ok-more.ensures.many refl
    c.behind_row-next.ensures
