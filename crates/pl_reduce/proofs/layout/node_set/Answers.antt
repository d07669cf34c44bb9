use Rattle.std.proofs.Common.{◌-◌, ◌≡◌, refl, ap, ◌∙◌, sym, arith, suc}
use Rattle.pl_hyper.specs.ClassOrder.{class_order}
use Rattle.pl_reduce.specs.Nodes.{node_at}
use Rattle.pl_reduce.proofs.Laying.{root_set, ear_set}
use Rattle.pl_reduce.proofs.layout.node_set.Goals as goal

pub returns-then-node-eq0 : goal.returns-then-node-eq0
returns-then-node-eq0 c = λ nodes are.
    root_set c.args.plan.now (class_order c.args.plan.now) c.edges-edges.result.now c.core.result.now
    c.held_by.result refl c.edges-edges.ensures.edges c.core.ensures.core c.held_by.ensures nodes are
    ∙ ap (λ n. (node_at nodes n).relation.classes) (sym c.if-node-eq0.true)

pub returns : goal.returns
returns c = λ nodes are.
    let next : suc (c.args.node - 1) ≡ c.args.node = omega (arith, c.if-node-eq0.false) in
    ear_set c.args.plan.now c.edges-edges.result.now c.removed.result.now (c.args.node - 1)
    c.edges-edges.ensures.edges c.removed.ensures.removed
    (omega (arith, c.if-node-eq0.false, c.requires)) nodes are
    ∙ ap (λ n. (node_at nodes n).relation.classes) next
