use Rattle.pl_task.proofs.StepLemmas.{few_objects}
use Rattle.pl_hooks.proofs.Trials.{state_held, sound_for, taken_or_held}
use Rattle.pl_hooks.proofs.trying.try_step.Goals as goal

pub apply-requires-clause-state : goal.apply-requires-clause-state
apply-requires-clause-state g c = state_held c.args.task.now c.args.registry.now c.args.n c.state.result.now
    c.requires.states c.requires.number c.state.ensures

pub path_then-requires-clause-step : goal.path_then-requires-clause-step
path_then-requires-clause-step g c = few_objects c.args.task.now
    (record { schema = c.args.step.schema; args = c.args.step.args.now }) c.requires.step

pub cut-requires-clause-sound : goal.cut-requires-clause-sound
cut-requires-clause-sound g c = sound_for g.F.Fn c.args.task.now c.args.pruner.now.task.now
    c.args.pruner.now.cut c.requires.same c.requires.sound

pub returns-in-Ok : goal.returns-in-Ok
returns-in-Ok g c =
    taken_or_held g.F.Fn c.args.task.now c.args.pruner.now.cut c.args.registry.now c.add.new.self c.args.n _
    c.state.result.now c.in_ok-next.next
    c.holds.result c.cut.result c.state.ensures c.in_ok-next.ensures.kept c.in_ok-next.ensures.state
    c.holds.ensures c.if-holds.false
    c.cut.ensures.answers c.if-cut.false c.in-Ok.field-0 c.in-Ok.ensures
