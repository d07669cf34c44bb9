use Rattle.std.proofs.Common.{[]}
use Rattle.std.proofs.lemmas.Result.{IfOk-weaker}
use Rattle.pl_reduce.proofs.Wholes.{run_is, there_arranged, cost_of_one, cost_of_two, cost_of_all}
use Rattle.pl_reduce.proofs.reducer.reduce_nodes.Goals as goal

pub returns-in_err-arrange_all-clause-cost : goal.returns-in_err-arrange_all-clause-cost
returns-in_err-arrange_all-clause-cost g c =
    cost_of_one c.args.lent.now c.args.own.items c.args.steps.now c.arrange_all.new.steps c.requires.filled
    c.arrange_all.ensures.cost

pub reduce_all-requires-clause-there : goal.reduce_all-requires-clause-there
reduce_all-requires-clause-there g c = there_arranged c.args.classes.now c.args.lent.now c.args.own.items
    c.arrange_all.new.own.items c.in_ok-arrange_all.ensures.arranged c.requires.there

pub returns-in_err-reduce_all-clause-cost : goal.returns-in_err-reduce_all-clause-cost
returns-in_err-reduce_all-clause-cost g c =
    cost_of_two c.args.classes.now c.args.lent.now c.args.own.items c.arrange_all.new.own.items
    c.args.steps.now c.arrange_all.new.steps c.reduce_all.new.steps c.requires.filled
    c.in_ok-arrange_all.ensures.arranged c.arrange_all.ensures.cost c.reduce_all.ensures.cost

pub returns-clause-cost : goal.returns-clause-cost
returns-clause-cost g c =
    cost_of_all c.args.classes.now c.args.lent.now c.args.own.items c.arrange_all.new.own.items
    c.reduce_all.new.own.items c.args.steps.now c.arrange_all.new.steps c.reduce_all.new.steps
    c.store_all.new.steps c.requires.filled
    c.in_ok-arrange_all.ensures.arranged c.in_ok-reduce_all.ensures.passed.reduced c.arrange_all.ensures.cost
    c.reduce_all.ensures.cost c.store_all.ensures.cost

pub returns-clause-run : goal.returns-clause-run
returns-clause-run g c =
    IfOk-weaker c.store_all.result _ _
    (λ stored are. run_is (record { edges = c.args.edges.now; removed = c.args.ears.now; core = [] })
    c.args.classes.now c.args.lent.now c.args.own.items c.arrange_all.new.own.items
    c.reduce_all.new.own.items stored.items
    c.in_ok-arrange_all.ensures.arranged c.in_ok-reduce_all.ensures.passed are)
    c.store_all.ensures.stored
