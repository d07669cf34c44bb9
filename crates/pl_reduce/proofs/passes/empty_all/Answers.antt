use Rattle.std.proofs.Common.{◌∙◌, Some, refl, arith, subst}
use Rattle.std.proofs.lemmas.List.{length-set}
use Rattle.pl_reduce.specs.Passes.{AreEmptied}
use Rattle.pl_reduce.specs.Lent.{nodes_with}
use Rattle.pl_reduce.proofs.Emptied.{emptied_none}
use Rattle.pl_reduce.proofs.Options.{with_emptied, there_set}
use Rattle.pl_reduce.proofs.passes.empty_all.Goals as goal

pub loop-node-init : goal.loop-node-init
loop-node-init c =
    record {
      many = refl;
      there = c.requires;
      emptied = emptied_none
          (nodes_with c.args.lent.now c.args.own.now.items);
    }

pub loop-node-preserved : goal.loop-node-preserved
loop-node-preserved c = record {
  many = length-set c.loop-node.own.items c.loop-node.node (Some c.in_ok-emptied.emptied)
      ∙ c.loop-node.invariant.many;
  there = there_set c.args.lent.now c.loop-node.own.items c.loop-node.node c.in_ok-emptied.emptied
      c.loop-node.invariant.there;
  emptied = with_emptied c.args.lent.now c.args.own.now.items c.loop-node.own.items c.loop-node.node
      c.in_ok-emptied.emptied c.loop-node.invariant.emptied
      (omega (arith, c.loop-node-test.true, c.len-node-end.ensures, c.loop-node.invariant.many))
      (rw c.deref.ensures.value at c.in_ok-emptied.ensures);
}

pub returns-clause-emptied : goal.returns-clause-emptied
returns-clause-emptied c =
    subst (AreEmptied (nodes_with c.args.lent.now c.args.own.now.items)
    (nodes_with c.args.lent.now c.loop-node.own.items))
    (omega (arith, c.loop-node-test.false, c.loop-node.auto.node-end, c.len-node-end.ensures))
    c.loop-node.invariant.emptied
