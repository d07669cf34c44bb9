use Rattle.std.proofs.Common.{◌+◌, refl}
use Rattle.pl_task.specs.States.{state_of}
use Rattle.pl_valid.proofs.RunLemmas.{run_begun, run_more, run_refused, none_left}
use Rattle.pl_valid.proofs.judging.judge.Goals as goal

pub loop-i-init : goal.loop-i-init
loop-i-init c = (
  run_begun c.args.task.now c.args.lines.now (state_of c.in_ok-atoms.atoms.keys)
      c.in_ok-atoms.ensures,
  c.new-types.ensures c.args.task.now,
)

pub returns-in-Some : goal.returns-in-Some
returns-in-Some c =
    run_refused c.args.task.now c.args.lines.now c.loop-i.i c.index-lines-i.result
    (state_of c.loop-i.atoms.keys) c.in-Some.reason (c.loop-i.i + 1)
    c.loop-i-test.true c.index-lines-i.is c.loop-i.invariant.0
    (rw c.in-Some.is at c.in_ok-refusal.ensures.refusal) refl

pub loop-i-preserved : goal.loop-i-preserved
loop-i-preserved c = (
  run_more c.args.task.now c.args.lines.now c.loop-i.i c.index-lines-i.result (state_of c.loop-i.atoms.keys)
      (state_of c.execute_line.new.atoms.keys)
      c.loop-i-test.true c.index-lines-i.is c.loop-i.invariant.0
      (none_left c.in_ok-refusal.refusal _ _ c.in_ok-refusal.ensures.refusal c.in_default.not-Some),
  c.in_ok-refusal.ensures.types,
)
