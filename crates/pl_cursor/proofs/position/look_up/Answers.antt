use Rattle.std.proofs.Common.{arith}
use Rattle.std.proofs.lemmas.List.{length-take-le}
use Rattle.pl_reduce.specs.Nodes.{node_at}
use Rattle.pl_cursor.specs.Answers.{stage_at}
use Rattle.pl_cursor.specs.Stages.{stages_of}
use Rattle.pl_reduce.specs.Layout.{stop_at}
use Rattle.pl_cursor.proofs.Stops.{at_stop, looked_up}
use Rattle.pl_cursor.proofs.position.look_up.Goals as goal

pub write_key-requires-clause-len : goal.write_key-requires-clause-len
write_key-requires-clause-len g c =
    let there = at_stop c.args.reduced.now c.args.layout.now c.args.t c.args.answer.now c.requires.layout
    c.requires.depth in
    rw c.node_classes-classes.ensures
    (omega (arith, length-take-le _ _ there.narrow, there.few, there.narrow, c.requires.key))

pub write_key-requires-clause-within : goal.write_key-requires-clause-within
write_key-requires-clause-within g c =
    let there = at_stop c.args.reduced.now c.args.layout.now c.args.t c.args.answer.now c.requires.layout
    c.requires.depth in
    rw (c.node_classes-classes.ensures, c.requires.answer) there.within

pub returns-clause-found : goal.returns-clause-found
returns-clause-found g c =
    let there = at_stop c.args.reduced.now c.args.layout.now c.args.t c.args.answer.now c.requires.layout
    c.requires.depth in
    looked_up (stage_at (stages_of c.args.reduced.now) c.args.t) c.args.answer.now c.write_key.new.key
    (node_at c.args.reduced.now.nodes (stop_at c.args.layout.now.stops.now c.args.t).node).relation.classes _
    (stop_at c.args.layout.now.stops.now c.args.t).width c.find.result.from c.find.result.to _
    there.keys there.narrow (rw c.node_classes-classes.ensures at c.write_key.ensures) there.key there.rows
    (rw c.indexed.ensures at c.find.ensures.rows) (rw c.indexed.ensures at c.find.ensures.all)
