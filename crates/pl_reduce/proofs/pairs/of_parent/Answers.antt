use Rattle.std.proofs.Common.{◌∙◌}
use Rattle.pl_reduce.proofs.Neighbours.{semi_whole, turned_held, turned_smaller}
use Rattle.pl_reduce.proofs.pairs.of_parent.Goals as goal

pub returns-in_default-2-clause-reduction : goal.returns-in_default-2-clause-reduction
returns-in_default-2-clause-reduction g c =
    semi_whole c.args.parent.now c.in-Some.turned.now c.args.by.now (rw c.in-Some.is at c.requires)
    (rw c.in_default-2.is at c.in_ok-kept.ensures.same)

pub project-requires-clause-held : goal.project-requires-clause-held
project-requires-clause-held g c =
    turned_held c.args.parent.now c.in-Some.turned.now c.in-Some-2.kept.classes c.classes-2.result.now
    (rw c.in-Some.is at c.requires)
    (rw c.in-Some-2.is at c.in_ok-kept.ensures.classes) c.classes-2.ensures.classes

pub returns-clause-reduction : goal.returns-clause-reduction
returns-clause-reduction g c =
    turned_smaller c.args.parent.now c.in-Some.turned.now c.args.by.now c.in-Some-2.kept
    c.in_ok-project.field-0 (rw c.in-Some.is at c.requires)
    (rw c.in-Some-2.is at c.in_ok-kept.ensures.classes) (rw c.in-Some-2.is at c.in_ok-kept.ensures.rows)
    (rw c.in-Some-2.is at c.in_ok-kept.ensures.fewer)
    (c.in_ok-project.ensures.classes ∙ c.classes-2.ensures.classes) c.in_ok-project.ensures.rows
    c.in_ok-project.ensures.most
