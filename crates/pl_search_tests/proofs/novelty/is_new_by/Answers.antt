use Rattle.std.proofs.Common.{inr, subst}
use Rattle.pl_task.specs.declared.task.Task.{Task}
use Rattle.pl_task.specs.States.{State}
use Rattle.pl_state.specs.StateOf.{state_in}
use Rattle.pl_novel.specs.AtomSets.{IsSetOf}
use Rattle.pl_novel.specs.Noting.{Noted, NotesState, AreAllNoted}
use Rattle.pl_search_tests.proofs.novelty.is_new_by.Goals as goal

-- where a state was noted, all its sets are
noted_wholly : (task : Task) (s : State) (old new : Noted) → NotesState task s old new
    → AreAllNoted task new s
noted_wholly task s old new notes set is = (notes.sets_are set).1
    (inr (subst (λ w. IsSetOf task w s set) notes.same_width is))

pub note_step-requires-clause-follows : goal.note_step-requires-clause-follows
note_step-requires-clause-follows c = record {
  parent = state_in c.args.task.now c.in_ok-before.before;
  leads = c.in_ok-next.ensures.state;
  parent_noted = noted_wholly c.args.task.now (state_in c.args.task.now c.in_ok-before.before)
      c.args.novelty.now c.note.new.self c.in_ok-note.ensures.noted;
}
