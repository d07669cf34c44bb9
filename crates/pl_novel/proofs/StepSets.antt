-- The sets of a state that have an atom which a step adds, and those that have none.
use Rattle.std.proofs.Common.{◌≡◌, ◌⊎◌, ◌<◌, ◌≤◌, ◌==◌, ◌||◌, ◌&&◌, not, eq-eqb, ℕ, Bool, true, false, List}
use Rattle.std.proofs.Common.{[], ◌∷◌, ◌++◌, map, length, get_or, IsTrue, refl, sym, ap, ◌∙◌, subst, inl, inr}
use Rattle.std.proofs.Common.{All, Contains, arith}
use Rattle.std.specs.List.{flat_map, list_any}
use Rattle.std.specs.declared.cmp.Ordering.TheVariants.{Less}
use Rattle.std.proofs.lemmas.Bool.{cases_Bool, false≢true}
use Rattle.std.proofs.lemmas.Bool.Decides.{eqb_tells}
use Rattle.std.proofs.lemmas.Cmp.{nat_list_cmp_total}
use Rattle.std.proofs.lemmas.List.Elements.{All-nil, All-append, All-contains, All-head, All-tail}
use Rattle.std.proofs.lemmas.List.Elements.{Contains-get_or, Contains-append_left, Contains-append_right}
use Rattle.std.proofs.lemmas.List.Elements.{Contains-append_cases}
use Rattle.std.proofs.lemmas.List.Folds.{list_any_at}
use Rattle.std.proofs.lemmas.Map.Keys.{sorted_tail}
use Rattle.std.proofs.lemmas.Option.{slice_get_within, get_or_from_slice_get}
use Rattle.pl_rows.specs.Rows.{row_cmp, IsAscending}
use Rattle.pl_task.specs.declared.data.Atom.{Atom}
use Rattle.pl_task.specs.declared.data.Lifted.{Lifted}
use Rattle.pl_task.specs.declared.task.Task.{Task}
use Rattle.pl_task.specs.Instance.{Instance}
use Rattle.pl_task.specs.States.{State, IsStep, atom_at, changed, changed_by, state_of}
use Rattle.pl_task.specs.WellFormed.{changes, is_of_predicate}
use Rattle.pl_task.proofs.StateLemmas.{state_of-members, changed-added}
use Rattle.pl_state.specs.StateOf.{is_fluent_in}
use Rattle.pl_registry.proofs.Lists.{Contains-nil, Contains-cons_cases, Contains-cons_first}
use Rattle.pl_registry.proofs.Lists.{Contains-cons_rest, Contains-map, Contains-map_cases}
use Rattle.pl_novel.specs.AtomSets.{key_of, IsSetOf}
use Rattle.pl_novel.specs.Noting.{Noted, FollowsNoted}
use Rattle.pl_novel.specs.Keys.{atom_by, key_at, key_under, keys_added, keys_added_by, pair_of, pairs_around}
use Rattle.pl_novel.specs.Keys.{pairs_with, with_all, one_set, two_set, set_by, noted_by, IsPairIn, IsKept}
use Rattle.pl_novel.specs.Keys.{Extends, AreNumbered, AreStateNumbers, NotesSingles, NotesDoubles, NotesAdded}
use Rattle.pl_novel.proofs.Lists.{AreOnce, all_have, all_once, all_append, all_extends, extends_by}
use Rattle.pl_novel.proofs.Pairs.{first_below, never_below_itself, one_is_set, one_all, two_all, key_back}
use Rattle.pl_novel.proofs.Pairings.{around_first, around_other}
use Rattle.pl_novel.proofs.Numberings.{numbered_extends}
use Rattle.pl_novel.proofs.NotedSets.{key_kept, one_number}
use Rattle.pl_novel.proofs.Numberings.{longer}
use Rattle.pl_novel.proofs.StateSets.{has_key, one_in, two_in}
use Rattle.pl_novel.proofs.Growing.{IsGrowth, sets_kept}
use Rattle.pl_novel.proofs.Seeing.{fluent_back}
use Rattle.std.proofs.lemmas.Bool.{or_right}

Contains-flat_map : {X Y : Type 0} (f : X → List Y) (xs : List X) (x : X) (y : Y) → Contains xs x
    → Contains (f x) y → Contains (flat_map f xs) y
Contains-flat_map f [] x y h m = absurd (Contains-nil x h)
Contains-flat_map f (a ∷ xs) x y h m = elim (Contains-cons_cases a xs x h) [
  | inl e ↦ Contains-append_left (f a) (flat_map f xs) y (subst (λ b. Contains (f b) y) (sym e) m)
  | inr r ↦ Contains-append_right (f a) (flat_map f xs) y (Contains-flat_map f xs x y r m)
]

Contains-from_flat_map : {X Y : Type 0} (f : X → List Y) (xs : List X) (y : Y) → Contains (flat_map f xs) y
    → (x : X) × Contains xs x × Contains (f x) y
Contains-from_flat_map f [] y h = absurd (Contains-nil y h)
Contains-from_flat_map f (a ∷ xs) y h = elim (Contains-append_cases (f a) (flat_map f xs) y h) [
  | inl m ↦ (a, Contains-cons_first a xs, m)
  | inr r ↦ (let (x, c, m) = Contains-from_flat_map f xs y r in (x, Contains-cons_rest a xs x c, m))
]

-- two of the numbers, the key of the first below that of the second
record IsNumberPair (keys : List (List ℕ)) (numbers pair : List ℕ) : Type 0 where
  low : ℕ
  high : ℕ
  low_in : Contains numbers low
  high_in : Contains numbers high
  below : row_cmp (key_at keys low) (key_at keys high) ≡ Less
  is : pair ≡ pair_of low high

-- a number that is not the first is one of the rest
later_one : (n m : ℕ) (numbers : List ℕ) → (m ≡ n → ⊥) → Contains (m ∷ numbers) n → Contains numbers n
later_one n m numbers other h = elim (Contains-cons_cases m numbers n h) [
  | inl same ↦ absurd (other same)
  | inr rest ↦ rest
]

module _ (keys : List (List ℕ)) where
  lesser_first : (m : ℕ) (numbers : List ℕ) (n : ℕ) → IsAscending (map (key_at keys) (m ∷ numbers))
      → Contains numbers n → row_cmp (key_at keys m) (key_at keys n) ≡ Less
  lesser_first m numbers n s h = first_below (key_at keys m) (map (key_at keys) numbers) (key_at keys n) s
      (Contains-map (key_at keys) numbers n h)

  never_both : (n m : ℕ) → row_cmp (key_at keys n) (key_at keys m) ≡ Less
      → row_cmp (key_at keys m) (key_at keys n) ≡ Less → ⊥
  never_both n m a b = never_below_itself (key_at keys n)
      (nat_list_cmp_total.trans (key_at keys n) (key_at keys m) (key_at keys n) a b)

  rest_ascends : (m : ℕ) (numbers : List ℕ) → IsAscending (map (key_at keys) (m ∷ numbers))
      → IsAscending (map (key_at keys) numbers)
  rest_ascends m numbers s = sorted_tail row_cmp (key_at keys m) (map (key_at keys) numbers) s

  -- the pairs around a number of the list are pairs of its numbers
  around_pair : (numbers : List ℕ) (n : ℕ) (pair : List ℕ) → IsAscending (map (key_at keys) numbers)
      → Contains numbers n → Contains (pairs_around numbers n) pair → IsNumberPair keys numbers pair
  around_pair [] n pair s here h = absurd (Contains-nil n here)
  around_pair (m ∷ numbers) n pair s here h = elim (eqb_tells m n) [
    | inl (t, same) ↦
        (let (x, x_in, e) = Contains-map_cases (pair_of n) numbers pair
        (subst (λ l. Contains l pair) (around_first n m numbers same) h) in
        record {
          low = m;
          high = x;
          low_in = Contains-cons_first m numbers;
          high_in = Contains-cons_rest m numbers x x_in;
          below = lesser_first m numbers x s x_in;
          is = sym e ∙ ap (λ k. pair_of k x) (sym same);
        })
    | inr (f, other) ↦ elim
        (Contains-cons_cases (pair_of m n) (pairs_around numbers n) pair
        (subst (λ l. Contains l pair) (around_other n m numbers other) h)) [
          | inl is ↦ record {
            low = m;
            high = n;
            low_in = Contains-cons_first m numbers;
            high_in = here;
            below = lesser_first m numbers n s (later_one n m numbers other here);
            is = sym is;
          }
          | inr later ↦ (let p = around_pair numbers n pair (rest_ascends m numbers s)
              (later_one n m numbers other here) later in
              record {
                low = p.low;
                high = p.high;
                low_in = Contains-cons_rest m numbers p.low p.low_in;
                high_in =
                    Contains-cons_rest m numbers p.high p.high_in;
                below = p.below;
                is = p.is;
              })
        ]
  ]

  -- and all those that have it
  around_has_low : (numbers : List ℕ) (n m : ℕ) → IsAscending (map (key_at keys) numbers) → Contains numbers n
      → Contains numbers m → row_cmp (key_at keys m) (key_at keys n) ≡ Less →
      Contains (pairs_around numbers n) (pair_of m n)
  around_has_low [] n m s here there less = absurd (Contains-nil n here)
  around_has_low (x ∷ numbers) n m s here there less = elim (eqb_tells x n) [
    | inl (t, same) ↦ elim (Contains-cons_cases x numbers m there) [
      | inl is ↦ absurd
          (never_below_itself (key_at keys n)
          (subst (λ k. row_cmp (key_at keys k) (key_at keys n) ≡ Less) (sym is ∙ same) less))
      | inr rest ↦ absurd
          (never_both m x (subst (λ k. row_cmp (key_at keys m) (key_at keys k) ≡ Less) (sym same) less)
          (lesser_first x numbers m s rest))
    ]
    | inr (f, other) ↦ subst (λ l. Contains l (pair_of m n)) (sym (around_other n x numbers other))
        (elim (Contains-cons_cases x numbers m there) [
          | inl is ↦ subst (λ k. Contains (pair_of x n ∷ pairs_around numbers n) (pair_of k n)) is
              (Contains-cons_first (pair_of x n) (pairs_around numbers n))
          | inr rest ↦ Contains-cons_rest (pair_of x n) (pairs_around numbers n) (pair_of m n)
              (around_has_low numbers n m (rest_ascends x numbers s)
              (later_one n x numbers other here) rest less)
        ])
  ]

  around_has_high : (numbers : List ℕ) (n m : ℕ) → IsAscending (map (key_at keys) numbers)
      → Contains numbers n → Contains numbers m → row_cmp (key_at keys n) (key_at keys m) ≡ Less →
      Contains (pairs_around numbers n) (pair_of n m)
  around_has_high [] n m s here there less = absurd (Contains-nil n here)
  around_has_high (x ∷ numbers) n m s here there less = elim (eqb_tells x n) [
    | inl (t, same) ↦ subst (λ l. Contains l (pair_of n m)) (sym (around_first n x numbers same))
        (elim (Contains-cons_cases x numbers m there) [
          | inl is ↦ absurd
              (never_below_itself (key_at keys n)
              (subst (λ k. row_cmp (key_at keys n) (key_at keys k) ≡ Less) (sym is ∙ same) less))
          | inr rest ↦ Contains-map (pair_of n) numbers m rest
        ])
    | inr (f, other) ↦ elim (Contains-cons_cases x numbers m there) [
      | inl is ↦ absurd
          (never_both n x (subst (λ k. row_cmp (key_at keys n) (key_at keys k) ≡ Less) (sym is) less)
          (lesser_first x numbers n s (later_one n x numbers other here)))
      | inr rest ↦ subst (λ l. Contains l (pair_of n m)) (sym (around_other n x numbers other))
          (Contains-cons_rest (pair_of x n) (pairs_around numbers n) (pair_of n m)
          (around_has_high numbers n m (rest_ascends x numbers s) (later_one n x numbers other here) rest
          less))
    ]
  ]

and_first : (a b : Bool) → (a && b) ≡ true → a ≡ true
and_first true b h = refl
and_first false b h = absurd (false≢true h)

-- the pairs of numbers that were lent
pub notes_doubles : (task : Task) (s : State) (width : ℕ)
    (added old_keys old_pairs between keys pairs : List (List ℕ))
    (numbers added_numbers lent lent_added : List ℕ) → 2 ≤ width →
    AreNumbered old_keys [] added between added_numbers
    → AreStateNumbers task s (length task.predicates) between keys numbers → lent ≡ numbers
    → lent_added ≡ added_numbers →
    pairs ≡ with_all old_pairs (pairs_with lent lent_added)
    → NotesAdded task s width added old_keys old_pairs keys pairs
notes_doubles task s width added old_keys old_pairs between keys pairs numbers added_numbers lent lent_added
    high of_added of_state is same made = inr (record {
      high = high;
      between = between;
      added_numbers = added_numbers;
      numbers = numbers;
      of_added = of_added;
      of_state = of_state;
      pairs_are = made ∙ (λ i. with_all old_pairs (pairs_with (is i) (same i)));
    })

-- what the key of an added atom says
record IsAddedKey (task : Task) (s : State) (key : List ℕ) : Type 0 where
  some : 0 < length key
  fluent : is_fluent_in task (atom_by key).predicate ≡ true
  held : s (atom_by key) ≡ true

module _ (task : Task) (s : State) (step : Instance) (width : ℕ)
    (old_keys old_pairs keys pairs : List (List ℕ)) (kept : IsKept width old_keys old_pairs)
    (is_step : IsStep task step)
    (follows : FollowsNoted task (noted_by width old_keys old_pairs) s step) where
  abbrev adds : List Lifted
  adds = is_step.schema.add

  abbrev added : List (List ℕ)
  added = keys_added task step

  added_are : added ≡ map (key_under step.args) adds
  added_are = ap (keys_added_by step.args) is_step.found

  after : s ≡ changed follows.parent (map (atom_at step.args) is_step.schema.delete)
      (map (atom_at step.args) adds)
  after = follows.leads ∙ ap (changed_by follows.parent step.args) is_step.found

  -- an added atom is fluent, and true afterwards
  fluent_effect : (e : Lifted) → Contains adds e → is_fluent_in task e.predicate ≡ true
  fluent_effect e (i, l, is) =
      let named = list_any_at (is_of_predicate e.predicate) adds i e l
      (ap (is_of_predicate e.predicate) is ∙ (eqb_itself e.predicate)) in
      let changed_here = or_right (list_any (is_of_predicate e.predicate) is_step.schema.delete)
      (list_any (is_of_predicate e.predicate) adds) named in
      fluent_back task e.predicate
      (list_any_at (changes e.predicate) task.schemas step.schema is_step.schema
      (slice_get_within task.schemas step.schema is_step.schema is_step.found)
      (ap (changes e.predicate)
      (get_or_from_slice_get task.schemas step.schema is_step.schema is_step.schema is_step.found)
      ∙ changed_here))
    where
      eqb_itself : (n : ℕ) → (n == n) ≡ true
      eqb_itself n = eq-eqb n n refl

  added_says : (key : List ℕ) → Contains added key → IsAddedKey task s key
  added_says key h =
      let (e, m, is) = Contains-map_cases (key_under step.args) adds key
      (subst (λ l. Contains l key) added_are h) in
      subst (IsAddedKey task s) is (record {
        some = omega arith;
        fluent = fluent_effect e m;
        held = (λ i. after i (atom_at step.args e))
            ∙ changed-added follows.parent (map (atom_at step.args) is_step.schema.delete)
            (map (atom_at step.args) adds) (atom_at step.args e)
            (Contains-map (atom_at step.args) adds e m);
      })

  -- a true atom is added, or was true before
  added_or_before : (a : Atom) → s a ≡ true → Contains added (key_of a) ⊎ (follows.parent a ≡ true)
  added_or_before a held = elim (cases_Bool (state_of (map (atom_at step.args) adds) a)) [
    | inl there ↦ (let (e, m, is) = Contains-map_cases (atom_at step.args) adds a
        ((state_of-members (map (atom_at step.args) adds) a).0 there) in
        inl (subst (λ l. Contains l (key_of a)) (sym added_are)
        (subst (Contains (map (key_under step.args) adds)) (ap key_of is)
        (Contains-map (key_under step.args) adds e m))))
    | inr gone ↦ inr
        (and_first (follows.parent a) (not (state_of (map (atom_at step.args) is_step.schema.delete) a))
        (ap (λ b. b || (follows.parent a && not (state_of (map (atom_at step.args) is_step.schema.delete) a)))
        (sym gone) ∙ (λ i. sym after i a) ∙ held))
  ]

  one_added : (key : List ℕ) → Contains added key → IsSetOf task width s (one_set key)
  one_added key h =
      let says = added_says key h in
      record {
        atoms = one_is_set width (atom_by key) kept.some;
        fluent = one_all (λ (a : Atom). is_fluent_in task a.predicate ≡ true) (atom_by key) says.fluent;
        has = one_all (λ a. IsTrue (s a)) (atom_by key) says.held;
      }

  added_atoms : All (λ key. 0 < length key) added
  added_atoms i d l = (added_says (get_or added i d) (Contains-get_or added i d l)).some

  -- a set that the state before it has was noted
  was_noted : (more_pairs : List (List ℕ)) → Extends old_keys keys → pairs ≡ with_all old_pairs more_pairs
      → (set : List Atom) → IsSetOf task width s set → All (λ a. IsTrue (follows.parent a)) set →
      Contains (noted_by width keys pairs).sets set
  was_noted more_pairs e are set is before =
      sets_kept width old_keys old_pairs keys pairs more_pairs kept e are set
      (follows.parent_noted set (record { atoms = is.atoms; fluent = is.fluent; has = before }))

  module _ (h : NotesSingles width added old_keys old_pairs keys pairs) where
    singles_extend : Extends old_keys keys
    singles_extend = extends_by old_keys (with_all old_keys added) keys (all_extends old_keys added)
        (sym h.keys_are)

    singles_all : (set : List Atom) → IsSetOf task width s set → Contains (noted_by width keys pairs).sets set
    singles_all [] is = absurd (let l = is.atoms.some in omega (arith, l))
    singles_all (a ∷ []) is = elim (added_or_before a (All-head (λ x. IsTrue (s x)) a [] is.has)) [
      | inl now ↦ Contains-append_left (map one_set keys) (map (set_by keys) pairs) (a ∷ [])
          (Contains-map one_set keys (key_of a)
          (subst (λ ks. Contains ks (key_of a)) (sym h.keys_are)
          (all_have old_keys added (key_of a) now)))
      | inr before ↦ was_noted [] singles_extend h.pairs_are (a ∷ []) is
          (one_all (λ x. IsTrue (follows.parent x)) a before)
    ]
    singles_all (a ∷ b ∷ set) is = absurd (let l = is.atoms.few in let m = h.low in omega (arith, l, m))

    singles_grow : IsGrowth task s width old_keys old_pairs keys pairs
    singles_grow = record {
      more_keys = added;
      more_pairs = [];
      keys_are = h.keys_are;
      pairs_are = h.pairs_are;
      atoms = added_atoms;
      pairs_in = All-nil (IsPairIn keys);
      ones = one_added;
      twos = λ pair m. absurd (Contains-nil pair m);
      single = λ one. refl;
      all = singles_all;
    }

  module _ (h : NotesDoubles task s width added old_keys old_pairs keys pairs) where
    abbrev state_keys : List (List ℕ)
    state_keys = h.of_state.keys

    keys_are : keys ≡ with_all old_keys (added ++ state_keys)
    keys_are = h.of_state.numbered.new_is ∙ ap (λ ks. with_all ks state_keys) h.of_added.new_is
        ∙ sym (all_append old_keys added state_keys)

    doubles_extend : Extends old_keys keys
    doubles_extend = extends_by old_keys (with_all old_keys (added ++ state_keys)) keys
        (all_extends old_keys (added ++ state_keys)) (sym keys_are)

    between_extend : Extends h.between keys
    between_extend = numbered_extends h.between state_keys keys [] h.numbers h.of_state.numbered

    once : AreOnce keys
    once = subst AreOnce (sym keys_are) (all_once old_keys (added ++ state_keys) kept.keys_once)

    read_all : map (key_at keys) h.numbers ≡ state_keys
    read_all = ap (map (key_at keys)) h.of_state.numbered.more_is ∙ h.of_state.numbered.reads

    ascends : IsAscending (map (key_at keys) h.numbers)
    ascends = subst IsAscending (sym read_all) h.of_state.of_state.ascending

    within : All (λ n. n < length keys) h.numbers
    within = subst (All (λ n. n < length keys)) (sym h.of_state.numbered.more_is) h.of_state.numbered.within

    added_within : All (λ n. n < length h.between) h.added_numbers
    added_within = subst (All (λ n. n < length h.between)) (sym h.of_added.more_is) h.of_added.within

    added_read : map (key_at h.between) h.added_numbers ≡ added
    added_read = ap (map (key_at h.between)) h.of_added.more_is ∙ h.of_added.reads

    -- a key of the state has a number in the list
    number_of_state : (key : List ℕ) → Contains state_keys key → (n : ℕ) × Contains h.numbers n
        × (key_at keys n ≡ key)
    number_of_state key m = Contains-map_cases (key_at keys) h.numbers key
        (subst (λ l. Contains l key) (sym read_all) m)

    number_within : (n : ℕ) → Contains h.numbers n → n < length keys
    number_within n m = All-contains (λ k. k < length keys) h.numbers n within m

    -- and a number has a key of the state
    number_key : (n : ℕ) → Contains h.numbers n → Contains state_keys (key_at keys n)
    number_key n m = subst (λ l. Contains l (key_at keys n)) read_all
        (Contains-map (key_at keys) h.numbers n m)

    added_number_within : (n : ℕ) → Contains h.added_numbers n → n < length h.between
    added_number_within n m = All-contains (λ k. k < length h.between) h.added_numbers n added_within m

    added_on : (n : ℕ) → Contains h.added_numbers n → key_at keys n ≡ key_at h.between n
    added_on n m = key_kept h.between keys n between_extend (added_number_within n m)

    -- the number of an added atom is one of those of the state
    added_in : (n : ℕ) → Contains h.added_numbers n → Contains h.numbers n
    added_in n m =
        let here : Contains added (key_at keys n) =
        subst (Contains added) (sym (added_on n m))
        (subst (λ l. Contains l (key_at h.between n)) added_read
        (Contains-map (key_at h.between) h.added_numbers n m)) in
        let says = added_says (key_at keys n) here in
        let of_state : Contains state_keys (key_at keys n) =
        subst (Contains state_keys) (key_back (key_at keys n) says.some)
        (has_key task s state_keys h.of_state.of_state (atom_by (key_at keys n)) says.fluent says.held) in
        let (k, k_in, reads) = number_of_state (key_at keys n) of_state in
        let few = longer h.between keys between_extend in
        let low = added_number_within n m in
        subst (Contains h.numbers)
        (one_number keys k n once (number_within k k_in) (omega (arith, few, low)) reads) k_in

    -- the number of the key of an added atom
    number_of_added : (key : List ℕ) → Contains added key → (n : ℕ) × Contains h.added_numbers n
        × (key_at keys n ≡ key)
    number_of_added key m =
        let (n, n_in, reads) = Contains-map_cases (key_at h.between) h.added_numbers key
        (subst (λ l. Contains l key) (sym added_read) m) in
        (n, n_in, added_on n n_in ∙ reads)

    new_pair : (pair : List ℕ) → Contains (pairs_with h.numbers h.added_numbers) pair
        → IsNumberPair keys h.numbers pair
    new_pair pair m =
        let (n, n_in, around) = Contains-from_flat_map (pairs_around h.numbers) h.added_numbers pair m in
        around_pair keys h.numbers n pair ascends (added_in n n_in) around

    new_pair_in : (pair : List ℕ) → IsNumberPair keys h.numbers pair → IsPairIn keys pair
    new_pair_in pair p = record {
      first = p.low;
      second = p.high;
      is = p.is;
      first_in = number_within p.low p.low_in;
      second_in = number_within p.high p.high_in;
      below = p.below;
    }

    new_pair_set : (pair : List ℕ) → IsNumberPair keys h.numbers pair
        → IsSetOf task width s (set_by keys pair)
    new_pair_set pair p =
        subst (λ q. IsSetOf task width s (set_by keys q)) (sym p.is)
        (two_in task s state_keys h.of_state.of_state width (key_at keys p.low) (key_at keys p.high) h.high
        (number_key p.low p.low_in) (number_key p.high p.high_in) p.below)

    -- a pair of which one number is that of an added atom is noted
    pair_noted : (pair : List ℕ) (n : ℕ) → Contains h.added_numbers n
        → Contains (pairs_around h.numbers n) pair → Contains (noted_by width keys pairs).sets
        (set_by keys pair)
    pair_noted pair n n_in around =
        Contains-append_right (map one_set keys) (map (set_by keys) pairs) (set_by keys pair)
        (Contains-map (set_by keys) pairs pair (subst (λ ps. Contains ps pair) (sym h.pairs_are)
        (all_have old_pairs (pairs_with h.numbers h.added_numbers) pair
        (Contains-flat_map (pairs_around h.numbers) h.added_numbers n pair n_in around))))

    two_noted : (a b : Atom) → row_cmp (key_of a) (key_of b) ≡ Less → Contains state_keys (key_of a)
        → Contains state_keys (key_of b) → Contains added (key_of a) ⊎ Contains added (key_of b) →
        Contains (noted_by width keys pairs).sets (a ∷ b ∷ [])
    two_noted a b less a_in b_in (inl now) =
        let (n, n_in, reads) = number_of_added (key_of a) now in
        let (m, m_in, is) = number_of_state (key_of b) b_in in
        subst (Contains (noted_by width keys pairs).sets) (λ i. two_set (reads i) (is i))
        (pair_noted (pair_of n m) n n_in (around_has_high keys h.numbers n m ascends (added_in n n_in) m_in
        (subst (λ k. row_cmp k (key_at keys m) ≡ Less) (sym reads)
        (subst (λ k. row_cmp (key_of a) k ≡ Less) (sym is) less))))
    two_noted a b less a_in b_in (inr now) =
        let (n, n_in, reads) = number_of_added (key_of b) now in
        let (m, m_in, is) = number_of_state (key_of a) a_in in
        subst (Contains (noted_by width keys pairs).sets) (λ i. two_set (is i) (reads i))
        (pair_noted (pair_of m n) n n_in (around_has_low keys h.numbers n m ascends (added_in n n_in) m_in
        (subst (λ k. row_cmp k (key_at keys n) ≡ Less) (sym is)
        (subst (λ k. row_cmp (key_of a) k ≡ Less) (sym reads) less))))

    doubles_all : (set : List Atom) → IsSetOf task width s set → Contains (noted_by width keys pairs).sets set
    doubles_all [] is = absurd (let l = is.atoms.some in omega (arith, l))
    doubles_all (a ∷ []) is =
        let m = has_key task s state_keys h.of_state.of_state a
        (All-head (λ (x : Atom). is_fluent_in task x.predicate ≡ true) a [] is.fluent)
        (All-head (λ x. IsTrue (s x)) a [] is.has) in
        Contains-append_left (map one_set keys) (map (set_by keys) pairs) (a ∷ [])
        (Contains-map one_set keys (key_of a)
        (subst (λ ks. Contains ks (key_of a)) (sym h.of_state.numbered.new_is)
        (all_have h.between state_keys (key_of a) m)))
    doubles_all (a ∷ b ∷ []) is =
        let a_true = All-head (λ x. IsTrue (s x)) a (b ∷ []) is.has in
        let b_true = All-head (λ x. IsTrue (s x)) b [] (All-tail (λ x. IsTrue (s x)) a (b ∷ []) is.has) in
        let a_in = has_key task s state_keys h.of_state.of_state a
        (All-head (λ (x : Atom). is_fluent_in task x.predicate ≡ true) a (b ∷ []) is.fluent) a_true in
        let b_in = has_key task s state_keys h.of_state.of_state b
        (All-head (λ (x : Atom). is_fluent_in task x.predicate ≡ true) b []
        (All-tail (λ (x : Atom). is_fluent_in task x.predicate ≡ true) a (b ∷ []) is.fluent)) b_true in
        let less = is.atoms.ascending 0 1 a (omega arith) (omega arith) in
        elim (added_or_before a a_true) [
          | inl now ↦ two_noted a b less a_in b_in (inl now)
          | inr before ↦ elim (added_or_before b b_true) [
            | inl now ↦ two_noted a b less a_in b_in (inr now)
            | inr too ↦ was_noted (pairs_with h.numbers h.added_numbers) doubles_extend h.pairs_are
                (a ∷ b ∷ []) is (two_all (λ x. IsTrue (follows.parent x)) a b before too)
          ]
        ]
    doubles_all (a ∷ b ∷ c ∷ set) is =
        absurd (let l = is.atoms.few in let m = kept.few in omega (arith, l, m))

    doubles_grow : IsGrowth task s width old_keys old_pairs keys pairs
    doubles_grow = record {
      more_keys = added ++ state_keys;
      more_pairs = pairs_with h.numbers h.added_numbers;
      keys_are = keys_are;
      pairs_are = h.pairs_are;
      atoms = All-append (λ key. 0 < length key) added state_keys added_atoms h.of_state.of_state.atoms;
      pairs_in = λ i d l. new_pair_in (get_or (pairs_with h.numbers h.added_numbers) i d)
          (new_pair (get_or (pairs_with h.numbers h.added_numbers) i d)
          (Contains-get_or (pairs_with h.numbers h.added_numbers) i d l));
      ones = λ key m. elim (Contains-append_cases added state_keys key m) [
        | inl now ↦ one_added key now
        | inr there ↦ one_in task s state_keys h.of_state.of_state width key kept.some there
      ];
      twos = λ pair m. new_pair_set pair (new_pair pair m);
      single = λ one. absurd (let m = h.high in omega (arith, m, one));
      all = doubles_all;
    }

  -- all sets of the state are noted, and no others
  all_grows : NotesAdded task s width added old_keys old_pairs keys pairs
      → IsGrowth task s width old_keys old_pairs keys pairs
  all_grows (inl h) = singles_grow h
  all_grows (inr h) = doubles_grow h

-- the same, where what the step follows is said of the noted sets as callers see them
pub step_grows : (task : Task) (s : State) (step : Instance) (width : ℕ)
    (old_keys old_pairs keys pairs : List (List ℕ)) (old : Noted) → IsKept width old_keys old_pairs
    → IsStep task step → noted_by width old_keys old_pairs ≡ old → FollowsNoted task old s step
    → NotesAdded task s width (keys_added task step) old_keys old_pairs keys pairs
    → IsGrowth task s width old_keys old_pairs keys pairs
step_grows task s step width old_keys old_pairs keys pairs old kept is_step seen follows notes =
    all_grows task s step width old_keys old_pairs keys pairs kept is_step
    (subst (λ n. FollowsNoted task n s step) (sym seen) follows) notes
