use Rattle.std.proofs.Common.{◌≡◌, ℕ, List, Some, ◌∷◌, [], length, ap, sym, ◌∙◌, ◌++◌, arith, append_assoc}
use Rattle.std.proofs.Common.{length-append, subst, map}
use Rattle.pl_hyper.specs.declared.ear.Ear.{Ear}
use Rattle.pl_hyper.specs.Ears.{Removal}
use Rattle.pl_join.specs.Keyed.{KeyedRows}
use Rattle.pl_join.specs.Relation.{IsRelation}
use Rattle.pl_reduce.specs.Recipes.{chosen}
use Rattle.pl_reduce.specs.Lent.{keyed_at, lent_of}
use Rattle.pl_reduce.specs.Arranged.{node_for}
use Rattle.pl_reduce.specs.Kept.{node_of}
use Rattle.pl_reduce.proofs.Options.{many_with}
use Rattle.pl_reduce.proofs.Stores.{one_stored_with, next_there, rows_more}
use Rattle.pl_reduce.proofs.storing.store_all.Goals as goal

abbrev plan_of : List ℕ → List Ear → Removal
plan_of edges ears = record { edges = edges; removed = ears; core = [] }

pub store-requires-clause-within : goal.store-requires-clause-within
store-requires-clause-within g c =
    let whole = ap length c.loop-relation.invariant.all in
    let left = ap length c.in-Some.ensures.steps.0 in
    omega (
      arith,
      whole,
      left,
      length-append c.loop-relation.yielded
          c.loop-relation.relation-iterator.rest.items,
      c.loop-relation.invariant.stored.many,
      many_with (map lent_of c.args.lent.now) c.loop-relation.yielded,
      c.len-in-loop-relation.ensures,
      c.requires.few,
    )

pub store-requires-clause-there : goal.store-requires-clause-there
store-requires-clause-there g c = λ none.
    subst (λ n. (q : KeyedRows) × (keyed_at c.args.lent.now n ≡ Some q))
    (omega (arith, c.len-in-loop-relation.ensures))
    (next_there (plan_of c.args.edges.now c.args.ears.now) c.args.lent.now c.args.own.items
    c.loop-relation.yielded c.next.new.self.rest.items c.in-Some.relation c.loop-relation.nodes.items
    c.requires.there
    (ap (λ rest. c.loop-relation.yielded ++ rest) (sym c.in-Some.ensures.steps.0)
    ∙ c.loop-relation.invariant.all) c.loop-relation.invariant.stored none)

pub loop-relation-preserved : goal.loop-relation-preserved
loop-relation-preserved g c =
    let place : c.len-in-loop-relation.result ≡ length c.loop-relation.nodes.items =
    omega (arith, c.len-in-loop-relation.ensures) in
    record {
      all = append_assoc c.loop-relation.yielded (c.in-Some.relation ∷ []) c.next.new.self.rest.items
          ∙ ap (λ rest. c.loop-relation.yielded ++ rest) (sym c.in-Some.ensures.steps.0)
          ∙ c.loop-relation.invariant.all;
      stored = rw c.in_ok-push.ensures.items
          (one_stored_with (plan_of c.args.edges.now c.args.ears.now) c.args.lent.now c.loop-relation.yielded
          c.loop-relation.nodes.items c.in-Some.relation c.in_ok-node.node
          c.loop-relation.invariant.stored
          (subst (λ n. IsRelation (chosen c.in-Some.relation (lent_of (keyed_at c.args.lent.now n)))) place
          c.in_ok-node.ensures.relation)
          (subst (λ n. node_of c.in_ok-node.node ≡ node_for (plan_of c.args.edges.now c.args.ears.now) n
          (chosen c.in-Some.relation (lent_of (keyed_at c.args.lent.now n)))) place
          c.in_ok-node.ensures.stored));
      cost = (let more = rows_more c.loop-relation.yielded c.in-Some.relation in
          omega (arith, more, c.store.ensures.cost, c.loop-relation.invariant.cost));
      rise = omega (arith, c.store.ensures.rise, c.loop-relation.invariant.rise);
    }
