-- Whether a state is new: what the noted sets say of it, and what they are after it.
use Rattle.std.proofs.Common.{◌≡◌, ◌⊎◌, ◌↔◌, ◌<◌, ◌≤◌, ℕ, Bool, true, false, IsTrue, List, [], ◌∷◌, length}
use Rattle.std.proofs.Common.{get_or, drop, Any, Contains, Option, Some, None, refl, sym, ap, ◌∙◌, subst, inl}
use Rattle.std.proofs.Common.{inr, arith}
use Rattle.std.proofs.lemmas.Bool.{cases_Bool, false≢true}
use Rattle.std.specs.Prelude.{bytes_eq, is_some}
use Rattle.pl_task.specs.declared.data.Atom.{Atom}
use Rattle.pl_task.specs.declared.task.Task.{Task}
use Rattle.pl_task.specs.Instance.{Instance}
use Rattle.pl_task.specs.States.{State, result_of}
use Rattle.pl_state.specs.StateOf.{state_in}
use Rattle.pl_registry.specs.Novelty.{IsNovel}
use Rattle.pl_registry.specs.Registered.{Register, registered_at, Finds}
use Rattle.pl_registry.specs.Held.{states_held}
use Rattle.pl_registry.proofs.Holding.{held_is_known}
use Rattle.pl_registry.proofs.Lists.{Contains-nil, Contains-cons_cases, Contains-cons_first}
use Rattle.pl_registry.proofs.Lists.{Contains-cons_rest}
use Rattle.pl_novel.specs.AtomSets.{key_of, IsSetOf}
use Rattle.pl_novel.specs.Keys.{atom_by}
use Rattle.pl_novel.specs.Noting.{Noted, IsNoted, HasNewSet, NotesState, FollowsNoted}
use Rattle.pl_novel.specs.Laws.{AreSetsSeen, NewSetsAreNovel, NotingIsSeeing, NothingIsSeen}
use Rattle.pl_bfs.specs.declared.sieve.Sieve.{Sieve}
use Rattle.pl_bfs.specs.Sifting.{NotesSeen, TellsHeld, IsFoundNew, IsFoundStale}
use Rattle.std.proofs.lemmas.Slice.Eq.{bytes_eq-Decides}

-- whether a set is noted is decided
atom_same_or_not : (a b : Atom) → (a ≡ b) ⊎ (a ≡ b → ⊥)
atom_same_or_not a b = elim (cases_Bool (bytes_eq (key_of a) (key_of b))) [
  | inl same ↦ inl (ap atom_by ((bytes_eq-Decides (key_of a) (key_of b)).0 same))
  | inr other ↦ inr (λ e. false≢true (sym other ∙ (bytes_eq-Decides (key_of a) (key_of b)).1 (ap key_of e)))
]

set_same_or_not : (s t : List Atom) → (s ≡ t) ⊎ (s ≡ t → ⊥)
set_same_or_not [] [] = inl refl
set_same_or_not [] (b ∷ t) = inr (λ e. (let many = ap length e in omega (arith, many)))
set_same_or_not (a ∷ s) [] = inr (λ e. (let many = ap length e in omega (arith, many)))
set_same_or_not (a ∷ s) (b ∷ t) = both (atom_same_or_not a b) (set_same_or_not s t)
  where
    both : (a ≡ b) ⊎ (a ≡ b → ⊥) → (s ≡ t) ⊎ (s ≡ t → ⊥) → (a ∷ s ≡ b ∷ t) ⊎ (a ∷ s ≡ b ∷ t → ⊥)
    both (inl e) (inl f) = inl (λ i. e i ∷ f i)
    both (inr d) rest = inr (λ e. d (ap (λ zs. get_or zs 0 a) e))
    both (inl e) (inr d) = inr (λ f. d (ap (drop 1) f))

noted_or_not : (sets : List (List Atom)) (set : List Atom) → Contains sets set ⊎ (Contains sets set → ⊥)
noted_or_not [] set = inr (Contains-nil set)
noted_or_not (s ∷ sets) set = here (set_same_or_not s set) (noted_or_not sets set)
  where
    here : (s ≡ set) ⊎ (s ≡ set → ⊥) → Contains sets set ⊎ (Contains sets set → ⊥) → Contains (s ∷ sets) set
        ⊎ (Contains (s ∷ sets) set → ⊥)
    here (inl e) rest = inl (subst (Contains (s ∷ sets)) e (Contains-cons_first s sets))
    here (inr d) (inl there) = inl (Contains-cons_rest s sets set there)
    here (inr d) (inr none) =
        inr (λ h. elim (Contains-cons_cases s sets set h) [ inl e ↦ d e | inr there ↦ none there ])

-- where a state has no set that is not noted, noting it changes nothing of what is seen
stale_unseen : (task : Task) (seen : List State) (s : State) (old new : Noted) → AreSetsSeen task old seen
    → (HasNewSet task old s → ⊥) → NotesState task s old new →
    AreSetsSeen task new seen
stale_unseen task seen s old new sets stale notes set = (to, from)
  where
    noted : IsNoted old set ⊎ IsSetOf task old.width s set → IsNoted old set
    noted (inl there) = there
    noted (inr its) = elim (noted_or_not old.sets set) [
      | inl there ↦ there
      | inr none ↦ absurd (stale (record { set = set; of_state = its; unnoted = none }))
    ]

    to : IsNoted new set → Any (λ t. IsSetOf task new.width t set) seen
    to h = subst (λ w. Any (λ t. IsSetOf task w t set) seen) (sym notes.same_width)
        ((sets set).0 (noted ((notes.sets_are set).0 h)))

    from : Any (λ t. IsSetOf task new.width t set) seen → IsNoted new set
    from h = (notes.sets_are set).1
        (inl ((sets set).1 (subst (λ w. Any (λ t. IsSetOf task w t set) seen) notes.same_width h)))

module _ (task : Task) (k : ℕ) (now : Register) (words : List ℕ) (before after : Sieve) (answer : Bool)
    (novel : NewSetsAreNovel task)
    (yes_where : IsTrue answer ↔ HasNewSet task before.novelty (state_in task words))
    (noting : NotesState task (state_in task words) before.novelty after.novelty)
    (notes : NotesSeen task k (states_held task now) before.novelty) where
  same_width : after.novelty.width ≡ k
  same_width = noting.same_width ∙ notes.width

  pub found_new : NotingIsSeeing task → answer ≡ true → after.left_out ≡ before.left_out
      → IsFoundNew task k now words before after
  found_new seeing met same = record {
    novel = subst (λ w. IsNovel task w (states_held task now) (state_in task words)) notes.width
        ((novel before.novelty (states_held task now) (state_in task words) notes.some notes.few notes.sets).0
        (yes_where.0 met));
    notes = record {
      width = same_width;
      some = (let a = noting.same_width in let b = notes.some in omega (arith, a, b));
      few = (let a = noting.same_width in let b = notes.few in omega (arith, a, b));
      sets = (seeing before.novelty after.novelty (states_held task now)
          (state_in task words) notes.sets noting).1;
    };
    same = same;
  }

  none_new : answer ≡ false → HasNewSet task before.novelty (state_in task words) → ⊥
  none_new missed h = false≢true (sym missed ∙ yes_where.1 h)

  pub found_stale : answer ≡ false → TellsHeld now words before.left_out after.left_out
      → IsFoundStale task k now words before after
  found_stale missed told = record {
    stale = λ is. none_new missed
        ((novel before.novelty (states_held task now) (state_in task words) notes.some notes.few notes.sets).1
        (subst (λ w. IsNovel task w (states_held task now) (state_in task words)) (sym notes.width) is));
    notes = record {
      width = same_width;
      some = (let a = noting.same_width in let b = notes.some in omega (arith, a, b));
      few = (let a = noting.same_width in let b = notes.few in omega (arith, a, b));
      sets = stale_unseen task (states_held task now) (state_in task words) before.novelty after.novelty
          notes.sets (none_new missed) noting;
    };
    told = told;
  }

-- a first state that is seen
pub first_seen : (task : Task) (k : ℕ) (s : State) (old new : Noted) → NotingIsSeeing task
    → NothingIsSeen task → 1 ≤ k → k ≤ 2 → old.width ≡ k → old.sets ≡ [] →
    NotesState task s old new → NotesSeen task k (s ∷ []) new
first_seen task k s old new seeing none low high width sets noting = record {
  width = noting.same_width ∙ width;
  some = (let a = noting.same_width in omega (arith, a, width, low));
  few = (let a = noting.same_width in omega (arith, a, width, high));
  sets = (seeing old new [] s (none old sets) noting).0;
}

-- the step of a state seen leads to the state, so that it follows one whose sets are all noted
pub follows_seen : (task : Task) (k : ℕ) (now : Register) (noted : Noted) (n : ℕ) (step : Instance)
    (from next : List ℕ) → from ≡ (registered_at now.entries n).words → n < length now.entries →
    state_in task next ≡ result_of task (state_in task from) step
    → NotesSeen task k (states_held task now) noted → FollowsNoted task noted (state_in task next) step
follows_seen task k now noted n step from next read there leads notes = record {
  parent = state_in task from;
  leads = leads;
  parent_noted = λ set is.
      (let (i, l, e) = held_is_known task now from n (there, sym read) in
      (notes.sets set).1 (i, state_in task from, l, e, is));
}

-- a state was left out before
pub told_before : (now : Register) (words : List ℕ) (before : Bool) → before ≡ true
    → TellsHeld now words before before
told_before now words before met = inr (inr (met, met))

-- whether a state is registered, as it was looked up
pub told_unheld : (now : Register) (words : List ℕ) (before : Bool) (found : Option ℕ) → Finds now words found
    → is_some found ≡ false → TellsHeld now words before true
told_unheld now words before (Some i) finds is = absurd (false≢true (sym is))
told_unheld now words before None finds is = inr (inl (finds, refl))

pub told_held : (now : Register) (words : List ℕ) (before : Bool) (found : Option ℕ) → Finds now words found
    → is_some found ≡ true → TellsHeld now words before before
told_held now words before (Some i) finds is = inl (i, finds, refl)
told_held now words before None finds is = absurd (false≢true is)
