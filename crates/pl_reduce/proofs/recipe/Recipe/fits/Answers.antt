use Rattle.std.proofs.Common.{rules, arith}
use Rattle.pl_reduce.proofs.Overs.{all_over, each_over, one_more_over}
use Rattle.pl_reduce.proofs.recipe.Recipe.fits.Goals as goal

pub returns-then-not-branch : goal.returns-then-not-branch
returns-then-not-branch c = (
  λ h. absurd (search (rules, h)),
  λ fixed. (let over = c.in_ok-is_over_node_of.ensures.1
      (each_over c.args.plan.now c.args.relations.now c.loop-node.node fixed c.loop-node-test.true) in
      absurd (search (rules, over))),
)

pub loop-node-preserved : goal.loop-node-preserved
loop-node-preserved c = one_more_over c.args.plan.now c.args.relations.now c.loop-node.node
    c.loop-node.invariant (c.in_ok-is_over_node_of.ensures.0 (search rules))

pub returns : goal.returns
returns c = (
  λ h. all_over c.args.plan.now c.args.relations.now
      (grind (arith, c.if-is_empty.ensures, c.core.ensures.core))
      (grind (arith, c.if-relations-removed.false, c.removed.ensures.removed))
      (λ k l. c.loop-node.invariant k (omega (arith, l, c.loop-node-test.false))),
  λ fixed. search rules,
)
