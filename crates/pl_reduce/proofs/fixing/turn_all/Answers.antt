use Rattle.std.proofs.Common.{sym, subst, slice_index, arith}
use Rattle.std.proofs.lemmas.List.{length_push}
use Rattle.pl_reduce.specs.Lent.{keyed_at}
use Rattle.pl_reduce.specs.Fixing.{IsTurnedOf}
use Rattle.pl_reduce.proofs.Keyings.{one_turned}
use Rattle.pl_reduce.proofs.fixing.turn_all.Goals as goal

pub loop-node-preserved : goal.loop-node-preserved
loop-node-preserved g c = rw c.in_ok-push.ensures.items (record {
  many = omega (arith, length_push c.loop-node.turned.items c.in_ok-keyed.keyed, c.loop-node.invariant.many);
  turned = one_turned c.args.parents.now c.args.lent.now c.loop-node.turned.items c.in_ok-keyed.keyed
      c.loop-node.invariant.turned
      (subst (λ n. IsTurnedOf (keyed_at c.args.lent.now (slice_index c.args.parents.now n))
      c.in_ok-keyed.keyed) (sym c.loop-node.invariant.many) c.in_ok-keyed.ensures.turned);
  rise = omega (arith, c.turn.ensures.rise, c.loop-node.invariant.rise);
})
