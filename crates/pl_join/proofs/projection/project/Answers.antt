use Rattle.std.proofs.Common.{◌≡◌, length, ap, arith, sym, subst}
use Rattle.std.proofs.lemmas.Result.{IfOk-weaker}
use Rattle.pl_join.specs.Relation.{ClassRows, IsProjectionOf}
use Rattle.pl_join.proofs.Assignments.{few_classes, held_below}
use Rattle.pl_join.proofs.Operations.{projected_made, whole_projection}
use Rattle.pl_join.proofs.projection.project.Goals as goal

pub columns_of-requires : goal.columns_of-requires
columns_of-requires g c = rw c.classes-held.ensures.classes c.requires.held

pub picked_rows-requires-clause-few : goal.picked_rows-requires-clause-few
picked_rows-requires-clause-few g c =
    let below = held_below c.args.relation.now.classes c.args.classes.now 64
    c.classes-held.ensures.relation.below c.requires.held in
    omega (
      arith,
      ap length c.as_slice.ensures,
      c.in_ok-columns.ensures.len,
      few_classes c.args.classes.now 64 c.requires.distinct below,
    )

pub new-requires-clause-below : goal.new-requires-clause-below
new-requires-clause-below g c =
    rw c.in_ok-from_slice.ensures.ok
    (held_below c.args.relation.now.classes c.args.classes.now 64 c.classes-held.ensures.relation.below
    c.requires.held)

pub returns-clause-rows : goal.returns-clause-rows
returns-clause-rows g c =
    projected_made c.args.relation.now _ _ c.args.classes.now _ _ _ _ c.in_ok-table.table
    c.classes-held.ensures.relation c.classes-held.ensures.classes c.table.ensures
    c.in_ok-columns.ensures.values c.as_slice.ensures c.in_ok-table.ensures.same
    c.in_ok-from_slice.ensures.ok c.new.ensures

pub returns-then-eq-clause-rows : goal.returns-then-eq-clause-rows
returns-then-eq-clause-rows g c =
    IfOk-weaker _ (λ (r : ClassRows). r ≡ c.args.relation.now) (IsProjectionOf c.args.relation.now)
    (λ r e. subst (IsProjectionOf c.args.relation.now) (sym e) (whole_projection c.args.relation.now))
    c.copied.ensures
