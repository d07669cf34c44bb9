-- Noted sets that grow by sets of a state until all of them are noted, over the keys and pairs before and
-- after.
use Rattle.std.proofs.Common.{◌≡◌, ◌⊎◌, ◌↔◌, ◌<◌, ◌≤◌, ℕ, Bool, true, false, List, [], map, length, get_or}
use Rattle.std.proofs.Common.{nat_lt, ◌||◌, IsTrue, refl, sym, ap, ◌∙◌, subst, inl, inr, All, Contains}
use Rattle.std.proofs.lemmas.Bool.{cases_Bool, ltb-true, ltb-false}
use Rattle.std.proofs.lemmas.List.Elements.{All-contains, All-weaker, Contains-get_or, Contains-append_left}
use Rattle.std.proofs.lemmas.List.Elements.{Contains-append_right, Contains-append_cases}
use Rattle.pl_task.specs.declared.data.Atom.{Atom}
use Rattle.pl_task.specs.declared.task.Task.{Task}
use Rattle.pl_task.specs.States.{State}
use Rattle.pl_registry.proofs.Lists.{Contains-map, Contains-map_cases}
use Rattle.pl_novel.specs.AtomSets.{IsSetOf}
use Rattle.pl_novel.specs.Noting.{Noted, HasNewSet, NotesState}
use Rattle.pl_novel.specs.Keys.{key_at, with_all, one_set, set_by, noted_by, IsPairIn, IsKept, Extends}
use Rattle.pl_novel.specs.Keys.{has_grown}
use Rattle.pl_novel.proofs.Lists.{AreOnce, all_members, all_keep, all_once, all_extends, extends_by}
use Rattle.pl_novel.proofs.Lists.{extends_has, grown_fresh, not_grown}
use Rattle.pl_novel.proofs.Pairs.{same_keys}
use Rattle.pl_novel.proofs.NotedSets.{pair_on, set_on, one_pair, first_of, not_one_and_two}
use Rattle.std.proofs.lemmas.Bool.{or_parts}

-- what holds of the old values and of those that were added holds of all
all_of : (P : List ℕ → Type 0) (old new values : List (List ℕ)) → new ≡ with_all old values → All P old
    → All P values → All P new
all_of P old new values is a b i d l =
    elim (all_members old values (get_or new i d)
    (subst (λ ks. Contains ks (get_or new i d)) is (Contains-get_or new i d l))) [
      | inl before ↦ All-contains P old (get_or new i d) a before
      | inr added ↦ All-contains P values (get_or new i d) b added
    ]

less_from : (a b : ℕ) → nat_lt a b ≡ true → a < b
less_from a b h = ltb-true a b h

not_less_from : (a b : ℕ) → nat_lt a b ≡ false → b ≤ a
not_less_from a b h = ltb-false a b h

-- a noted set stays noted
pub sets_kept : (width : ℕ) (old_keys old_pairs keys pairs more_pairs : List (List ℕ))
    → IsKept width old_keys old_pairs → Extends old_keys keys → pairs ≡ with_all old_pairs more_pairs →
    (set : List Atom) → Contains (noted_by width old_keys old_pairs).sets set
    → Contains (noted_by width keys pairs).sets set
sets_kept width old_keys old_pairs keys pairs more_pairs kept e are set h =
    elim (Contains-append_cases (map one_set old_keys) (map (set_by old_keys) old_pairs) set h) [
      | inl one ↦ (let (key, m, f) = Contains-map_cases one_set old_keys set one in
          Contains-append_left (map one_set keys) (map (set_by keys) pairs) set
          (subst (Contains (map one_set keys)) f
          (Contains-map one_set keys key (extends_has old_keys keys key e m))))
      | inr two ↦ (let (pair, m, f) = Contains-map_cases (set_by old_keys) old_pairs set two in
          Contains-append_right (map one_set keys) (map (set_by keys) pairs) set
          (subst (Contains (map (set_by keys) pairs))
          (set_on old_keys keys pair e (All-contains (IsPairIn old_keys) old_pairs pair kept.pairs_in m) ∙ f)
          (Contains-map (set_by keys) pairs pair
          (subst (λ ps. Contains ps pair) (sym are) (all_keep old_pairs more_pairs pair m)))))
    ]

-- the keys and pairs that were added, and what they stand for
pub record IsGrowth (task : Task) (s : State) (width : ℕ)
    (old_keys old_pairs keys pairs : List (List ℕ)) : Type 0 where
  pub more_keys : List (List ℕ)
  pub more_pairs : List (List ℕ)
  pub keys_are : keys ≡ with_all old_keys more_keys
  pub pairs_are : pairs ≡ with_all old_pairs more_pairs
  pub atoms : All (λ key. 0 < length key) more_keys
  pub pairs_in : All (IsPairIn keys) more_pairs
  pub ones : (key : List ℕ) → Contains more_keys key → IsSetOf task width s (one_set key)
  pub twos : (pair : List ℕ) → Contains more_pairs pair → IsSetOf task width s (set_by keys pair)
  pub single : width ≡ 1 → more_pairs ≡ []
  pub all : (set : List Atom) → IsSetOf task width s set → Contains (noted_by width keys pairs).sets set

module _ (task : Task) (s : State) (width : ℕ) (old_keys old_pairs keys pairs : List (List ℕ))
    (kept : IsKept width old_keys old_pairs)
    (grows : IsGrowth task s width old_keys old_pairs keys pairs) where
  keys_extend : Extends old_keys keys
  keys_extend = extends_by old_keys (with_all old_keys grows.more_keys) keys
      (all_extends old_keys grows.more_keys) (sym grows.keys_are)

  -- what the type keeps, it keeps
  pub kept_on : IsKept width keys pairs
  kept_on = record {
    some = kept.some;
    few = kept.few;
    atoms = all_of (λ key. 0 < length key) old_keys keys grows.more_keys grows.keys_are kept.atoms
        grows.atoms;
    keys_once = subst AreOnce (sym grows.keys_are) (all_once old_keys grows.more_keys kept.keys_once);
    pairs_once = subst AreOnce (sym grows.pairs_are) (all_once old_pairs grows.more_pairs kept.pairs_once);
    pairs_in = all_of (IsPairIn keys) old_pairs pairs grows.more_pairs grows.pairs_are
        (All-weaker (IsPairIn old_keys) (IsPairIn keys) (λ p. pair_on old_keys keys p keys_extend) old_pairs
        kept.pairs_in) grows.pairs_in;
    single = λ one. grows.pairs_are ∙ ap (with_all old_pairs) (grows.single one) ∙ kept.single one;
  }

  old_pair_in : (pair : List ℕ) → Contains old_pairs pair → IsPairIn old_keys pair
  old_pair_in pair h = All-contains (IsPairIn old_keys) old_pairs pair kept.pairs_in h

  -- the noted sets are those that were and sets of the state
  sets_from : (set : List Atom) → Contains (noted_by width keys pairs).sets set
      → Contains (noted_by width old_keys old_pairs).sets set ⊎ IsSetOf task width s set
  sets_from set h = elim (Contains-append_cases (map one_set keys) (map (set_by keys) pairs) set h) [
    | inl one ↦ (let (key, m, e) = Contains-map_cases one_set keys set one in
        elim (all_members old_keys grows.more_keys key (subst (λ ks. Contains ks key) grows.keys_are m)) [
          | inl before ↦ inl
              (Contains-append_left (map one_set old_keys) (map (set_by old_keys) old_pairs) set
              (subst (Contains (map one_set old_keys)) e (Contains-map one_set old_keys key before)))
          | inr added ↦ inr (subst (IsSetOf task width s) e (grows.ones key added))
        ])
    | inr two ↦ (let (pair, m, e) = Contains-map_cases (set_by keys) pairs set two in
        elim (all_members old_pairs grows.more_pairs pair (subst (λ ps. Contains ps pair) grows.pairs_are m)) [
          | inl before ↦ inl
              (Contains-append_right (map one_set old_keys) (map (set_by old_keys) old_pairs) set
              (subst (Contains (map (set_by old_keys) old_pairs))
              (sym (set_on old_keys keys pair keys_extend (old_pair_in pair before)) ∙ e)
              (Contains-map (set_by old_keys) old_pairs pair before)))
          | inr added ↦ inr (subst (IsSetOf task width s) e (grows.twos pair added))
        ])
  ]

  sets_stay : (set : List Atom) → Contains (noted_by width old_keys old_pairs).sets set
      → Contains (noted_by width keys pairs).sets set
  sets_stay set h = sets_kept width old_keys old_pairs keys pairs grows.more_pairs kept keys_extend
      grows.pairs_are set h

  pub notes : (old : Noted) → noted_by width old_keys old_pairs ≡ old
      → NotesState task s old (noted_by width keys pairs)
  notes old is = subst (λ n. NotesState task s n (noted_by width keys pairs)) is
      (record {
        same_width = refl;
        sets_are = λ set. (
          λ h. sets_from set h,
          λ h. elim h [
            | inl before ↦ sets_stay set before
            | inr now ↦ grows.all set now
          ],
        );
      })

  -- a new key is a new set
  new_one : length old_keys < length keys → HasNewSet task (noted_by width old_keys old_pairs) s
  new_one more =
      let fresh = grown_fresh old_keys grows.more_keys
      (subst (λ ks. length old_keys < length ks) grows.keys_are more) in
      record {
        set = one_set fresh.value;
        of_state = grows.ones fresh.value fresh.among;
        unnoted = λ h.
            elim (Contains-append_cases (map one_set old_keys) (map (set_by old_keys) old_pairs)
            (one_set fresh.value) h) [
              | inl one ↦ (let (key, m, e) = Contains-map_cases one_set old_keys (one_set fresh.value) one in
                  fresh.fresh (subst (Contains old_keys)
                  (same_keys key fresh.value (All-contains (λ k. 0 < length k) old_keys key kept.atoms m)
                  (All-contains (λ k. 0 < length k) grows.more_keys fresh.value grows.atoms fresh.among)
                  (ap first_of e)) m))
              | inr two ↦ (let (pair, m, e) = Contains-map_cases (set_by old_keys) old_pairs
                  (one_set fresh.value) two in
                  not_one_and_two fresh.value (key_at old_keys (get_or pair 0 0))
                  (key_at old_keys (get_or pair 1 0)) (sym e))
            ];
      }

  -- and so is a new pair
  new_two : length old_pairs < length pairs → HasNewSet task (noted_by width old_keys old_pairs) s
  new_two more =
      let fresh = grown_fresh old_pairs grows.more_pairs
      (subst (λ ps. length old_pairs < length ps) grows.pairs_are more) in
      record {
        set = set_by keys fresh.value;
        of_state = grows.twos fresh.value fresh.among;
        unnoted = λ h.
            elim (Contains-append_cases (map one_set old_keys) (map (set_by old_keys) old_pairs)
            (set_by keys fresh.value) h) [
              | inl one ↦ (let (key, m, e) = Contains-map_cases one_set old_keys
                  (set_by keys fresh.value) one in
                  not_one_and_two key (key_at keys (get_or fresh.value 0 0))
                  (key_at keys (get_or fresh.value 1 0)) e)
              | inr two ↦ (let (pair, m, e) = Contains-map_cases (set_by old_keys) old_pairs
                  (set_by keys fresh.value) two in
                  fresh.fresh (subst (Contains old_pairs)
                  (one_pair keys pair fresh.value kept_on.keys_once kept_on.atoms
                  (pair_on old_keys keys pair keys_extend (old_pair_in pair m))
                  (All-contains (IsPairIn keys) grows.more_pairs fresh.value grows.pairs_in fresh.among)
                  (set_on old_keys keys pair keys_extend (old_pair_in pair m) ∙ e)) m))
            ];
      }

  -- where neither is there, all sets of the state were noted
  none_new : length keys ≤ length old_keys → length pairs ≤ length old_pairs
      → HasNewSet task (noted_by width old_keys old_pairs) s → ⊥
  none_new few_keys few_pairs h =
      let same_keys_are : keys ≡ old_keys = grows.keys_are
      ∙ not_grown old_keys grows.more_keys
      (subst (λ ks. length ks ≤ length old_keys) grows.keys_are few_keys) in
      let same_pairs_are : pairs ≡ old_pairs = grows.pairs_are
      ∙ not_grown old_pairs grows.more_pairs
      (subst (λ ps. length ps ≤ length old_pairs) grows.pairs_are few_pairs) in
      h.unnoted (subst (λ ps. Contains (noted_by width old_keys ps).sets h.set) same_pairs_are
      (subst (λ ks. Contains (noted_by width ks pairs).sets h.set) same_keys_are
      (grows.all h.set h.of_state)))

  new_where_grown : (grown : Bool) → grown ≡ has_grown (length old_keys) (length keys) (length old_pairs)
      (length pairs) →
      IsTrue grown ↔ HasNewSet task (noted_by width old_keys old_pairs) s
  new_where_grown grown is = (
    λ h. elim (cases_Bool (nat_lt (length old_keys) (length keys))) [
      | inl more ↦ new_one (less_from (length old_keys) (length keys) more)
      | inr not_so ↦ new_two
          (less_from (length old_pairs) (length pairs)
          (ap (λ b. b || nat_lt (length old_pairs) (length pairs)) (sym not_so) ∙ sym is ∙ h))
    ],
    λ h. elim (cases_Bool grown) [
      | inl yes_so ↦ yes_so
      | inr not_so ↦ (let (a, b) = or_parts (nat_lt (length old_keys) (length keys))
          (nat_lt (length old_pairs) (length pairs)) (sym is ∙ not_so) in
          absurd (none_new (not_less_from (length old_keys) (length keys) a)
          (not_less_from (length old_pairs) (length pairs) b) h))
    ],
  )

  -- some set was new just where a count has grown
  pub answers : (old : Noted) (grown : Bool) → noted_by width old_keys old_pairs ≡ old
      → grown ≡ has_grown (length old_keys) (length keys) (length old_pairs) (length pairs) →
      IsTrue grown ↔ HasNewSet task old s
  answers old grown seen is = subst (λ n. IsTrue grown ↔ HasNewSet task n s) seen (new_where_grown grown is)
