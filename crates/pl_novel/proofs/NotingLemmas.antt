-- What noting the sets of a state leaves and answers, over the keys and pairs before and after.
use Rattle.std.proofs.Common.{◌≡◌, ◌<◌, ℕ, List, [], ◌∷◌, map, length, get_or, sym, ap, ◌∙◌, subst, inl, inr}
use Rattle.std.proofs.Common.{All, Contains, arith}
use Rattle.std.proofs.lemmas.List.Elements.{All-contains, All-head, All-tail, Contains-get_or}
use Rattle.std.proofs.lemmas.List.Elements.{Contains-append_left, Contains-append_right}
use Rattle.std.proofs.lemmas.List.Elements.{Contains-append_cases}
use Rattle.std.proofs.lemmas.Map.Keys.{sorted_tail}
use Rattle.pl_rows.specs.Rows.{row_cmp, IsAscending}
use Rattle.pl_task.specs.declared.data.Atom.{Atom}
use Rattle.pl_task.specs.declared.task.Task.{Task}
use Rattle.pl_task.specs.States.{State}
use Rattle.pl_registry.proofs.Lists.{Contains-nil, Contains-map, Contains-map_cases}
use Rattle.pl_novel.specs.Keys.{key_at, pairs_by, pairs_under, pair_of, with_all, one_set, two_set, set_by}
use Rattle.pl_novel.specs.Keys.{noted_by, IsPairIn, IsKept, AreStateNumbers, Extends}
use Rattle.pl_novel.proofs.Lists.{all_have, map-pairs_under, pairs_under-map, pairs_under-low}
use Rattle.pl_novel.proofs.Lists.{pairs_under-high}
use Rattle.pl_novel.proofs.Growing.{IsGrowth}
use Rattle.pl_novel.proofs.Numberings.{numbered_extends}
use Rattle.pl_novel.proofs.Pairs.{first_below}
use Rattle.pl_novel.proofs.StateSets.{state_sets, set_in_state, state_has_set, one_or_two}

-- pairs of numbers whose keys ascend
pair_in : (keys : List (List ℕ)) (numbers pair : List ℕ) → All (λ n. n < length keys) numbers
    → IsAscending (map (key_at keys) numbers) → Contains (pairs_by pair_of numbers) pair → IsPairIn keys pair
pair_in keys [] pair within s h = absurd (Contains-nil pair h)
pair_in keys (n ∷ numbers) pair within s h =
    elim (Contains-append_cases (map (pair_of n) numbers) (pairs_by pair_of numbers) pair h) [
      | inl here ↦ (let (m, in_rest, e) = Contains-map_cases (pair_of n) numbers pair here in
          record {
            first = n;
            second = m;
            is = sym e;
            first_in = All-head (λ k. k < length keys) n numbers within;
            second_in = All-contains (λ k. k < length keys) numbers m
                (All-tail (λ k. k < length keys) n numbers within) in_rest;
            below = first_below (key_at keys n) (map (key_at keys) numbers) (key_at keys m) s
                (Contains-map (key_at keys) numbers m in_rest);
          })
      | inr later ↦ pair_in keys numbers pair (All-tail (λ k. k < length keys) n numbers within)
          (sorted_tail row_cmp (key_at keys n) (map (key_at keys) numbers) s) later
    ]

module _ (task : Task) (s : State) (width : ℕ) (old_keys old_pairs keys : List (List ℕ)) (numbers : List ℕ)
    (pairs : List (List ℕ)) (kept : IsKept width old_keys old_pairs)
    (are : AreStateNumbers task s (length task.predicates) old_keys keys numbers) (lent : List ℕ)
    (same : lent ≡ numbers)
    (made : pairs ≡ with_all old_pairs (pairs_under width pair_of lent)) where
  paired : pairs ≡ with_all old_pairs (pairs_under width pair_of numbers)
  paired = made ∙ ap (λ ns. with_all old_pairs (pairs_under width pair_of ns)) same

  keys_extend : Extends old_keys keys
  keys_extend = numbered_extends old_keys are.keys keys [] numbers are.numbered

  read_all : map (key_at keys) numbers ≡ are.keys
  read_all = ap (map (key_at keys)) are.numbered.more_is ∙ are.numbered.reads

  within : All (λ n. n < length keys) numbers
  within = subst (All (λ n. n < length keys)) (sym are.numbered.more_is) are.numbered.within

  pair_sets : map (set_by keys) (pairs_under width pair_of numbers) ≡ pairs_under width two_set are.keys
  pair_sets = map-pairs_under width (set_by keys) pair_of numbers
      ∙ sym (pairs_under-map width two_set (key_at keys) numbers) ∙ ap (pairs_under width two_set) read_all

  new_pair_in : (pair : List ℕ) → Contains (pairs_under width pair_of numbers) pair → IsPairIn keys pair
  new_pair_in pair h = elim (one_or_two width kept.some) [
    | inl low ↦ absurd
        (Contains-nil pair (subst (λ l. Contains l pair) (pairs_under-low width pair_of numbers low) h))
    | inr high ↦ pair_in keys numbers pair within (subst IsAscending (sym read_all) are.of_state.ascending)
        (subst (λ l. Contains l pair) (pairs_under-high width pair_of numbers high) h)
  ]

  all_pairs_in : All (IsPairIn keys) (pairs_under width pair_of numbers)
  all_pairs_in i d l = new_pair_in (get_or (pairs_under width pair_of numbers) i d)
      (Contains-get_or (pairs_under width pair_of numbers) i d l)

  state_noted : (set : List Atom) → Contains (state_sets width are.keys) set
      → Contains (noted_by width keys pairs).sets set
  state_noted set h =
      elim (Contains-append_cases (map one_set are.keys) (pairs_under width two_set are.keys) set h) [
        | inl one ↦ (let (key, m, e) = Contains-map_cases one_set are.keys set one in
            Contains-append_left (map one_set keys) (map (set_by keys) pairs) set
            (subst (Contains (map one_set keys)) e
            (Contains-map one_set keys key
            (subst (λ ks. Contains ks key) (sym are.numbered.new_is) (all_have old_keys are.keys key m)))))
        | inr two ↦ (let (pair, m, e) = Contains-map_cases (set_by keys)
            (pairs_under width pair_of numbers) set
            (subst (λ l. Contains l set) (sym pair_sets) two) in
            Contains-append_right (map one_set keys) (map (set_by keys) pairs) set
            (subst (Contains (map (set_by keys) pairs)) e
            (Contains-map (set_by keys) pairs pair
            (subst (λ ps. Contains ps pair) (sym paired)
            (all_have old_pairs (pairs_under width pair_of numbers) pair m)))))
      ]

  -- all sets of the state are noted, and no others
  pub state_grows : IsGrowth task s width old_keys old_pairs keys pairs
  state_grows = record {
    more_keys = are.keys;
    more_pairs = pairs_under width pair_of numbers;
    keys_are = are.numbered.new_is;
    pairs_are = paired;
    atoms = are.of_state.atoms;
    pairs_in = all_pairs_in;
    ones = λ key h. set_in_state task s are.keys are.of_state width (one_set key) kept.some
        (Contains-append_left (map one_set are.keys) (pairs_under width two_set are.keys) (one_set key)
        (Contains-map one_set are.keys key h));
    twos = λ pair h. set_in_state task s are.keys are.of_state width (set_by keys pair) kept.some
        (Contains-append_right (map one_set are.keys) (pairs_under width two_set are.keys) (set_by keys pair)
        (subst (λ l. Contains l (set_by keys pair)) pair_sets
        (Contains-map (set_by keys) (pairs_under width pair_of numbers) pair h)));
    single = λ one. pairs_under-low width pair_of numbers (omega (arith, one));
    all = λ set h. state_noted set (state_has_set task s are.keys are.of_state width set kept.few h);
  }
