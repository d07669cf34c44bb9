use Rattle.std.proofs.Common.{ap, map, sym, subst, ◌∙◌}
use Rattle.pl_rows.specs.Rows.{Rows}
use Rattle.pl_join.specs.declared.slot.Slot.TheVariants.{Class}
use Rattle.pl_join.specs.Relation.{AreDistinct}
use Rattle.pl_join.proofs.Copying.{just_below, just_selected}
use Rattle.pl_join.proofs.selection.copied_relation.Goals as goal

pub new-requires-clause-distinct : goal.new-requires-clause-distinct
new-requires-clause-distinct c = subst AreDistinct (sym c.in_ok-classes.ensures) c.requires.distinct

pub new-requires-clause-below : goal.new-requires-clause-below
new-requires-clause-below c =
    just_below c.args.slots.now c.in_ok-classes.classes.items
    (c.requires.just ∙ ap (map Class) (sym c.in_ok-classes.ensures)) c.requires.slots

pub returns-clause-rows : goal.returns-clause-rows
returns-clause-rows c =
    just_selected c.args.table.now.rows c.args.slots.now c.in_ok-classes.classes.items
    c.in_ok-copied.field-0 c.new-2.result
    (c.requires.just ∙ ap (map Class) (sym c.in_ok-classes.ensures))
    (ap (λ (t : Rows). t.rows) c.in_ok-copied.ensures.same) c.new-2.ensures
