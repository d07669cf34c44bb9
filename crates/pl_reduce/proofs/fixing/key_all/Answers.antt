use Rattle.std.proofs.Common.{◌≡◌, ℕ, ◌∷◌, [], length, List, ap, sym, ◌∙◌, ◌++◌, arith, append_assoc}
use Rattle.std.proofs.Common.{length-append, subst}
use Rattle.pl_hyper.specs.declared.ear.Ear.{Ear}
use Rattle.pl_hyper.specs.Ears.{Removal}
use Rattle.pl_reduce.specs.Fixing.{IsKeyedOf}
use Rattle.pl_reduce.proofs.Keyings.{one_keyed}
use Rattle.pl_reduce.proofs.fixing.key_all.Goals as goal

abbrev plan_of : List ℕ → List Ear → Removal
plan_of edges ears = record { edges = edges; removed = ears; core = [] }

pub key_some-requires-clause-within : goal.key_some-requires-clause-within
key_some-requires-clause-within g c =
    let whole = ap length c.loop-relation.invariant.all in
    let left = ap length c.in-Some.ensures.steps.0 in
    omega (
      arith,
      whole,
      left,
      length-append c.loop-relation.yielded
          c.loop-relation.relation-iterator.rest.items,
      c.loop-relation.invariant.keyed.many,
      c.len-in-loop-relation.ensures,
      c.requires.few,
    )

pub loop-relation-preserved : goal.loop-relation-preserved
loop-relation-preserved g c =
    let place : c.len-in-loop-relation.result ≡ length c.loop-relation.lent.items =
    omega (arith, c.len-in-loop-relation.ensures) in
    record {
      all = append_assoc c.loop-relation.yielded (c.in-Some.relation ∷ []) c.next.new.self.rest.items
          ∙ ap (λ rest. c.loop-relation.yielded ++ rest) (sym c.in-Some.ensures.steps.0)
          ∙ c.loop-relation.invariant.all;
      keyed = rw c.in_ok-push.ensures.items
          (one_keyed (plan_of c.args.edges.now c.args.ears.now) c.loop-relation.yielded
          c.loop-relation.lent.items c.in-Some.relation c.in_ok-keyed.keyed
          c.loop-relation.invariant.keyed
          (subst (λ n. IsKeyedOf (plan_of c.args.edges.now c.args.ears.now) n c.in-Some.relation
          c.in_ok-keyed.keyed) place c.in_ok-keyed.ensures.keyed));
      rise = omega (arith, c.key_some.ensures.rise, c.loop-relation.invariant.rise);
    }
