use Rattle.pl_task.proofs.StateLemmas.{agreeing_states, state_of-members, changed-added}
use Rattle.pl_task.proofs.laws.states_are_sets.Goals as goal

pub returns : goal.returns
returns c = record { one = agreeing_states; members = state_of-members; adds = changed-added }
