use Rattle.std.proofs.Common.{inl, inr}
use Rattle.pl_task.proofs.StepLemmas.{few_objects}
use Rattle.pl_hooks.proofs.Trials.{state_held}
use Rattle.pl_bfs.proofs.Sifted.{follows_seen}
use Rattle.pl_bfs.proofs.SiftedTrials.{left_out, taken_in, turned_away}
use Rattle.pl_bfs.proofs.new_trying.try_new.Goals as goal

pub apply-requires-clause-state : goal.apply-requires-clause-state
apply-requires-clause-state c = state_held c.args.task.now c.args.registry.now c.args.n c.state.result.now
    c.requires.states c.requires.number c.state.ensures

pub is_new-requires-clause-follows : goal.is_new-requires-clause-follows
is_new-requires-clause-follows c =
    let (k, notes) = c.requires.seen in
    follows_seen c.args.task.now k c.args.registry.now c.args.sieve.now.novelty c.args.n
    (record { schema = c.args.step.schema; args = c.args.step.args.now }) c.state.result.now
    c.in_ok-next.next
    c.state.ensures c.requires.number c.in_ok-next.ensures.state notes

pub path_then-requires-clause-step : goal.path_then-requires-clause-step
path_then-requires-clause-step c = few_objects c.args.task.now
    (record { schema = c.args.step.schema; args = c.args.step.args.now }) c.requires.step

pub returns-then-not-branch : goal.returns-then-not-branch
returns-then-not-branch c = record {
  tries = λ k notes.
      inl (left_out c.args.task.now k c.args.registry.now c.args.registry.now c.args.sieve.now
      c.is_new.new.self c.args.n _ c.state.result.now c.in_ok-next.next c.holds.result
      c.state.ensures c.in_ok-next.ensures.kept c.in_ok-next.ensures.state c.holds.ensures c.if-holds.false
      c.in_ok-is_new.field-0 c.if-not-branch.true (c.in_ok-is_new.ensures.sifts k notes));
}

pub add-requires-clause-step : goal.add-requires-clause-step
add-requires-clause-step c = few_objects c.args.task.now
    (record { schema = c.args.step.schema; args = c.args.step.args.now }) c.requires.step

pub returns-in-Ok : goal.returns-in-Ok
returns-in-Ok c = record {
  tries = λ k notes.
      inr (taken_in c.args.task.now k c.args.registry.now c.add.new.self c.args.sieve.now c.is_new.new.self
      c.args.n _ c.state.result.now c.in_ok-next.next c.holds.result
      c.state.ensures c.in_ok-next.ensures.kept c.in_ok-next.ensures.state c.holds.ensures c.if-holds.false
      c.in_ok-is_new.field-0 c.if-not-branch.false (c.in_ok-is_new.ensures.sifts k notes)
      c.in-Ok.field-0 c.in-Ok.ensures);
}

pub returns-in-Err-Full : goal.returns-in-Err-Full
returns-in-Err-Full c = record {
  tries = λ k notes. turned_away c.args.task.now k c.args.registry.now c.add.new.self c.args.sieve.now
      c.is_new.new.self c.args.n _ c.state.result.now c.in_ok-next.next c.holds.result
      c.state.ensures c.in_ok-next.ensures.kept c.in_ok-next.ensures.state c.holds.ensures c.if-holds.false
      c.in_ok-is_new.field-0 c.if-not-branch.false (c.in_ok-is_new.ensures.sifts k notes)
      c.in-Err-Full.field-0 c.in-Err-Full.field-0-is c.in-Err-Full.ensures;
}
