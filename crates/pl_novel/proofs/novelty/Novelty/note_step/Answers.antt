use Rattle.std.proofs.Common.{◌∙◌, sym, subst}
use Rattle.pl_novel.specs.Keys.{has_grown, IsKept}
use Rattle.pl_novel.proofs.NotedSets.{taken_back, are_noted}
use Rattle.pl_novel.proofs.Growing.{kept_on, notes, answers}
use Rattle.pl_novel.proofs.StepSets.{step_grows}
use Rattle.pl_novel.proofs.novelty.Novelty.note_step.Goals as goal

pub returns-in-Err-clause-sets : goal.returns-in-Err-clause-sets
returns-in-Err-clause-sets c =
    let keys = taken_back c.self.inside.atoms.keys c.note_added.new.atoms.keys c.truncate-in-Err.new.self.keys
    c.len-atoms.result c.note_added.ensures.atoms c.len-atoms.ensures.len
    c.truncate-in-Err.ensures.keys in
    let pairs = taken_back c.self.inside.doubles.keys c.note_added.new.pairs.keys c.truncate.new.self.keys
    c.len-pairs.result c.note_added.ensures.pairs c.len-pairs.ensures.len c.truncate.ensures.keys in
    are_noted c.self.inside.k c.truncate-in-Err.new.self.keys c.truncate.new.self.keys
    (subst (λ ps. IsKept c.self.inside.k c.truncate-in-Err.new.self.keys ps) (sym pairs)
    (subst (λ ks. IsKept c.self.inside.k ks c.self.inside.doubles.keys) (sym keys) c.self.invariant))

pub invariant_of-self-2 : goal.invariant_of-self-2
invariant_of-self-2 c =
    let grows = step_grows _ _ _ _ _ _ _ _ _ c.self.invariant c.requires.step c.self.view_is
    c.requires.follows c.in-Ok.ensures.ok in
    kept_on _ _ _ _ _ _ _ c.self.invariant grows

pub returns-clause-yes : goal.returns-clause-yes
returns-clause-yes c =
    let grows = step_grows _ _ _ _ _ _ _ _ _ c.self.invariant c.requires.step c.self.view_is
    c.requires.follows c.in-Ok.ensures.ok in
    answers _ _ _ _ _ _ _ c.self.invariant grows _ c.has_grown.result c.self.view_is
    (c.has_grown.ensures
    ∙ (λ i. has_grown (c.len-atoms.ensures.len i) (c.len.ensures.len i) (c.len-pairs.ensures.len i)
    (c.len-2.ensures.len i)))

pub returns-clause-noted : goal.returns-clause-noted
returns-clause-noted c =
    let grows = step_grows _ _ _ _ _ _ _ _ _ c.self.invariant c.requires.step c.self.view_is
    c.requires.follows c.in-Ok.ensures.ok in
    notes _ _ _ _ _ _ _ c.self.invariant grows _ c.self.view_is

pub returns-clause-sets : goal.returns-clause-sets
returns-clause-sets c =
    let grows = step_grows _ _ _ _ _ _ _ _ _ c.self.invariant c.requires.step c.self.view_is
    c.requires.follows c.in-Ok.ensures.ok in
    are_noted _ _ _ (kept_on _ _ _ _ _ _ _ c.self.invariant grows)
