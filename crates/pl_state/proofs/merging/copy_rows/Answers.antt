use Rattle.std.proofs.Common.{◌++◌, ap, ◌∙◌}
use Rattle.pl_rows.specs.Rows.{rows_of}
use Rattle.pl_state.proofs.Mergings.{cut_rows, none_between}
use Rattle.pl_state.proofs.merging.copy_rows.Goals as goal

pub returns-then-from-to : goal.returns-then-from-to
returns-then-from-to c =
    none_between (rows_of c.args.arity c.args._count c.args.flat.now) c.args.new.now.items c.args.from
    c.args.to c.if-from-to.true

pub returns : goal.returns
returns c =
    c.in_ok-extend_from_slice.ensures.items ∙ ap (λ w. c.args.new.now.items ++ w)
    (cut_rows c.args.arity c.args._count c.args.from c.args.to c.args.flat.now c.requires.whole
    c.requires.in_order c.requires.within)
