use Rattle.std.proofs.Common.{◌∙◌, sym, subst}
use Rattle.pl_novel.specs.Keys.{has_grown, IsKept}
use Rattle.pl_novel.proofs.NotedSets.{taken_back, are_noted}
use Rattle.pl_novel.proofs.Growing.{kept_on, notes, answers}
use Rattle.pl_novel.proofs.NotingLemmas.{state_grows}
use Rattle.pl_novel.proofs.novelty.Novelty.note.Goals as goal

pub returns-in-Err-clause-sets : goal.returns-in-Err-clause-sets
returns-in-Err-clause-sets c =
    let keys = taken_back c.self.inside.atoms.keys c.number_state.new.atoms.keys c.truncate.new.self.keys
    c.len-atoms.result c.number_state.ensures.extends c.len-atoms.ensures.len c.truncate.ensures.keys in
    are_noted c.self.inside.k c.truncate.new.self.keys c.self.inside.doubles.keys
    (subst (λ ks. IsKept c.self.inside.k ks c.self.inside.doubles.keys) (sym keys) c.self.invariant)

pub returns-in-Err-note_pairs-clause-sets : goal.returns-in-Err-note_pairs-clause-sets
returns-in-Err-note_pairs-clause-sets c =
    let keys = taken_back c.self.inside.atoms.keys c.number_state.new.atoms.keys
    c.truncate-in-Err-note_pairs-2.new.self.keys c.len-atoms.result c.number_state.ensures.extends
    c.len-atoms.ensures.len
    c.truncate-in-Err-note_pairs-2.ensures.keys in
    let pairs = taken_back c.self.inside.doubles.keys c.note_pairs.new.pairs.keys
    c.truncate-in-Err-note_pairs.new.self.keys c.len-doubles.result c.note_pairs.ensures.extends
    c.len-doubles.ensures.len
    c.truncate-in-Err-note_pairs.ensures.keys in
    are_noted c.self.inside.k c.truncate-in-Err-note_pairs-2.new.self.keys
    c.truncate-in-Err-note_pairs.new.self.keys
    (subst (λ ps. IsKept c.self.inside.k c.truncate-in-Err-note_pairs-2.new.self.keys ps) (sym pairs)
    (subst (λ ks. IsKept c.self.inside.k ks c.self.inside.doubles.keys) (sym keys) c.self.invariant))

pub invariant_of-self-2 : goal.invariant_of-self-2
invariant_of-self-2 c =
    let grows = state_grows _ _ _ _ _ _ _ _ c.self.invariant c.in-Ok.ensures.ok _ c.as_slice.ensures.value
    c.in-Ok-note_pairs.ensures.ok in
    kept_on _ _ _ _ _ _ _ c.self.invariant grows

pub returns-clause-yes : goal.returns-clause-yes
returns-clause-yes c =
    let grows = state_grows _ _ _ _ _ _ _ _ c.self.invariant c.in-Ok.ensures.ok _ c.as_slice.ensures.value
    c.in-Ok-note_pairs.ensures.ok in
    answers _ _ _ _ _ _ _ c.self.invariant grows _ c.has_grown.result c.self.view_is
    (c.has_grown.ensures
    ∙ (λ i. has_grown (c.len-atoms.ensures.len i) (c.len.ensures.len i) (c.len-doubles.ensures.len i)
    (c.len-2.ensures.len i)))

pub returns-clause-noted : goal.returns-clause-noted
returns-clause-noted c =
    let grows = state_grows _ _ _ _ _ _ _ _ c.self.invariant c.in-Ok.ensures.ok _ c.as_slice.ensures.value
    c.in-Ok-note_pairs.ensures.ok in
    notes _ _ _ _ _ _ _ c.self.invariant grows _ c.self.view_is

pub returns-clause-sets : goal.returns-clause-sets
returns-clause-sets c =
    let grows = state_grows _ _ _ _ _ _ _ _ c.self.invariant c.in-Ok.ensures.ok _ c.as_slice.ensures.value
    c.in-Ok-note_pairs.ensures.ok in
    are_noted _ _ _ (kept_on _ _ _ _ _ _ _ c.self.invariant grows)
