use Rattle.std.proofs.Common.{refl, inl}
use Rattle.std.proofs.lemmas.Result.{on_ok_weaker}
use Rattle.pl_state.specs.StateOf.{state_in}
use Rattle.pl_novel.specs.Keys.{keys_added}
use Rattle.pl_novel.proofs.StepSets.{notes_doubles}
use Rattle.pl_novel.proofs.adding.note_added.Goals as goal

pub returns-then-width-lt2-clause-ok : goal.returns-then-width-lt2-clause-ok
returns-then-width-lt2-clause-ok c =
    inl (record {
      low = c.if-width-lt2.true;
      keys_are = c.in_ok-number_added.ensures.ok.new_is;
      pairs_are =
          refl;
    })

pub returns-clause-ok : goal.returns-clause-ok
returns-clause-ok c =
    on_ok_weaker c.note_pairs_with.result
    (notes_doubles c.args.task.now (state_in c.args.task.now c.args.state.now) c.args.width
    (keys_added c.args.task.now (record { schema = c.args.step.schema; args = c.args.step.args.now }))
    c.args.atoms.now.keys c.args.pairs.now.keys c.number_added.new.atoms.keys c.number_state.new.atoms.keys
    c.note_pairs_with.new.pairs.keys c.number_state.new.numbers.items c.number_added.new.numbers.items
    c.as_slice.result.now c.as_slice-2.result.now c.if-width-lt2.false c.in_ok-number_added.ensures.ok
    c.in_ok-number_state.ensures.ok c.as_slice.ensures.value c.as_slice-2.ensures.value)
    c.note_pairs_with.ensures.ok
