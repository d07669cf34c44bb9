use Rattle.std.proofs.Common.{None, arith, refl}
use Rattle.std.proofs.lemmas.List.{length_push}
use Rattle.pl_reduce.proofs.Origins.{none_there, none_pushed}
use Rattle.pl_reduce.proofs.handed.no_origins.Goals as goal

pub loop-node-init : goal.loop-node-init
loop-node-init c = rw c.in_ok-origins.ensures.items (record { many = refl; none = none_there })

pub loop-node-preserved : goal.loop-node-preserved
loop-node-preserved c = rw c.in_ok-push.ensures.items (record {
  many = omega (arith, length_push c.loop-node.origins.items None, c.loop-node.invariant.many);
  none = none_pushed c.loop-node.origins.items c.loop-node.invariant.none;
})
