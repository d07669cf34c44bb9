use Rattle.pl_state.proofs.StatesOfWords.{one_layout, layouts_apart, layout_state, state_in-layout, one_state}
use Rattle.pl_state.proofs.laws.layout_is_one.Goals as goal

pub returns-clause-one : goal.returns-clause-one
returns-clause-one c = one_layout c.args._task.now

pub returns-clause-apart : goal.returns-clause-apart
returns-clause-apart c = layouts_apart c.args._task.now

pub returns-clause-state : goal.returns-clause-state
returns-clause-state c =
    λ s words h. (layout_state c.args._task.now s words h, state_in-layout c.args._task.now s words h)

pub returns-clause-same : goal.returns-clause-same
returns-clause-same c = one_state c.args._task.now
