use Rattle.std.proofs.Common.{◌↔◌, ◌∙◌, ℕ, Contains, sym, subst}
use Rattle.pl_hyper.specs.ClassOrder.{IsClass}
use Rattle.pl_reduce.specs.Fixing.{IsRecipe}
use Rattle.pl_reduce.proofs.Endings.{recipe_made, layout_moved}
use Rattle.pl_reduce.proofs.Origins.{join_made}
use Rattle.pl_reduce.proofs.recipe.Recipe.of.Goals as goal

pub fix_all-requires-clause-classes : goal.fix_all-requires-clause-classes
fix_all-requires-clause-classes g c =
    let known = c.in_ok-layout.ensures.plan in
    subst (λ order. (k : ℕ) → Contains order k ↔ IsClass c.args.plan.now.edges k)
    (sym (c.classes.ensures ∙ known.order)) known.are_classes

pub invariant_of-result : goal.invariant_of-result
invariant_of-result g c =
    let plan = c.args.plan.now in
    let edges = c.in_ok-edges.ensures.items ∙ c.edges.ensures.edges in
    let ears = c.in_ok-ears.ensures.items ∙ c.removed.ensures.removed in
    let core = c.in_ok-core.ensures.items ∙ c.core.ensures.core in (
      subst (λ fixed. IsRecipe
          (record {
            edges = c.in_ok-edges.edges.items;
            removed = c.in_ok-ears.ears.items;
            core =
                c.in_ok-core.core.items;
          })
          fixed c.in_ok-layout.layout.classes c.in_ok-layout.parents.items c.in_ok-lent.lent.items
          c.in_ok-turned.turned.items) (sym c.in_ok-lent.ensures.handed)
          (recipe_made plan c.in_ok-edges.edges.items c.in_ok-ears.ears.items c.in_ok-core.core.items
          c.in_ok-layout.layout.classes c.in_ok-layout.parents.items c.deref-3.result.now
          c.deref.result.now c.args.fixed.items c.in_ok-lent.lent.items c.deref-2.result.now
          c.in_ok-turned.turned.items edges ears core
          c.deref-3.ensures.value c.deref.ensures.value c.deref-2.ensures.value c.requires
          c.in_ok-layout.ensures.plan
          c.in_ok-lent.ensures.lent c.in_ok-lent.ensures.pairs c.in_ok-turned.ensures.turned),
      layout_moved plan c.in_ok-edges.edges.items c.in_ok-ears.ears.items c.in_ok-core.core.items
          c.in_ok-layout.layout edges ears core c.in_ok-layout.ensures.layout,
    )

pub returns-clause-recipe : goal.returns-clause-recipe
returns-clause-recipe g c =
    join_made c.args.plan.now c.in_ok-edges.edges.items c.in_ok-ears.ears.items c.in_ok-core.core.items _
    c.args.fixed.items (c.in_ok-edges.ensures.items ∙ c.edges.ensures.edges)
    (c.in_ok-ears.ensures.items ∙ c.removed.ensures.removed)
    (c.in_ok-core.ensures.items ∙ c.core.ensures.core) c.in_ok-lent.ensures.handed
