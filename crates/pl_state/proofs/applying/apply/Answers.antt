use Rattle.std.proofs.Common.{sym, subst, List, ℕ}
use Rattle.pl_task.specs.Instance.{Instance}
use Rattle.pl_task.specs.States.{State, result_of}
use Rattle.pl_state.specs.Layout.{IsLayoutOf}
use Rattle.pl_state.specs.StateOf.{state_in}
use Rattle.pl_state.specs.Changing.{AreEffects}
use Rattle.pl_state.proofs.Applyings.{step_read, result_is, others_stay}
use Rattle.pl_state.proofs.StatesOfWords.{layout_state, state_in-whole}
use Rattle.pl_state.proofs.applying.apply.Goals as goal

pub changed_words-requires-clause-deletes : goal.changed_words-requires-clause-deletes
changed_words-requires-clause-deletes c =
    let step : Instance = record { schema = c.args.step.schema; args = c.args.step.args.now } in
    let read = step_read c.args.task.now step c.as_slice.result.now c.index-as_slice-step.result
    c.requires.step c.as_slice.ensures c.index-as_slice-step.is in
    subst (AreEffects c.args.task.now c.args.step.args.now) (sym c.as_slice-deletes.ensures) read.deletes

pub changed_words-requires-clause-adds : goal.changed_words-requires-clause-adds
changed_words-requires-clause-adds c =
    let step : Instance = record { schema = c.args.step.schema; args = c.args.step.args.now } in
    let read = step_read c.args.task.now step c.as_slice.result.now c.index-as_slice-step.result
    c.requires.step c.as_slice.ensures c.index-as_slice-step.is in
    subst (AreEffects c.args.task.now c.args.step.args.now) (sym c.as_slice-adds.ensures) read.adds

pub returns-clause-layout : goal.returns-clause-layout
returns-clause-layout c =
    let step : Instance = record { schema = c.args.step.schema; args = c.args.step.args.now } in
    let read = step_read c.args.task.now step c.as_slice.result.now c.index-as_slice-step.result
    c.requires.step c.as_slice.ensures c.index-as_slice-step.is in
    subst (IsLayoutOf c.args.task.now
    (result_of c.args.task.now (state_in c.args.task.now c.args.state.now) step)) (sym c.of.ensures)
    (subst (λ (w : List ℕ). IsLayoutOf c.args.task.now
    (result_of c.args.task.now (state_in c.args.task.now w) step) c.in_ok-words.words.items)
    c.words.ensures
    (subst (λ (s : State). IsLayoutOf c.args.task.now s c.in_ok-words.words.items)
    (result_is c.args.task.now (state_in c.args.task.now c.words.result.now) step c.index-as_slice-step.result
    c.as_slice-deletes.result.now c.as_slice-adds.result.now read.found
    c.as_slice-deletes.ensures c.as_slice-adds.ensures)
    c.in_ok-words.ensures))

pub returns-clause-kept : goal.returns-clause-kept
returns-clause-kept c =
    let step : Instance = record { schema = c.args.step.schema; args = c.args.step.args.now } in
    layout_state c.args.task.now (result_of c.args.task.now (state_in c.args.task.now c.args.state.now) step)
    c.of.result (returns-clause-layout c)

pub returns-clause-state : goal.returns-clause-state
returns-clause-state c =
    let step : Instance = record { schema = c.args.step.schema; args = c.args.step.args.now } in
    let read = step_read c.args.task.now step c.as_slice.result.now c.index-as_slice-step.result
    c.requires.step c.as_slice.ensures c.index-as_slice-step.is in
    state_in-whole c.args.task.now
    (result_of c.args.task.now (state_in c.args.task.now c.args.state.now) step) c.of.result
    (returns-clause-layout c)
    (λ a other. others_stay c.args.task.now c.args.state.now step c.index-as_slice-step.result a read other)
