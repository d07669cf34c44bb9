use Rattle.std.proofs.Common.{◌<◌, ◌^◌, ◌↔◌, ℕ, All, Contains, slice_index, subst}
use Rattle.pl_join.specs.Relation.{AreDistinct}
use Rattle.pl_hyper.specs.ClassOrder.{IsClass}
use Rattle.pl_reduce.proofs.planned.planned.Goals as goal

pub returns-clause-plan : goal.returns-clause-plan
returns-clause-plan c =
    let order = c.in_ok-layout.ensures.layout.classes in
    record {
      removal = c.plan_is_a_removal.ensures.removal;
      walkable = c.plan_is_a_removal.ensures.walkable;
      words = subst (λ es. (e : ℕ) → slice_index es e < 2 ^ 64) c.edges.ensures.edges
          c.edges_are_words.ensures;
      order = order;
      once = subst AreDistinct order c.in_ok-layout.ensures.once;
      below = subst (All (λ k. k < 64)) order c.in_ok-layout.ensures.below;
      are_classes = subst (λ os. (k : ℕ) → Contains os k ↔ IsClass c.args.plan.now.edges k) order
          c.in_ok-layout.ensures.members;
      parents_are = c.in_ok-parents.ensures;
    }
