-- The pairs of the turns: what a pair is, and that turns rise along the list.
use Rattle.std.proofs.Common.{◌≡◌, ◌⊎◌, ◌-◌, ◌<◌, ◌≤◌, ℕ, zero, suc, List, ◌++◌, length, slice_index}
use Rattle.std.proofs.Common.{Contains, refl, ap, ◌∙◌, subst, inl, inr, arith, length-append}
use Rattle.std.proofs.lemmas.List.{get_or_append_left, get_or-append_right}
use Rattle.std.proofs.lemmas.List.Elements.{Contains-get_or, Contains-append_cases, Contains-append_left}
use Rattle.std.proofs.lemmas.List.Elements.{Contains-append_right}
use Rattle.pl_task.specs.Instance.{Instance}
use Rattle.pl_registry.specs.StateSpace.{StateSpace}
use Rattle.pl_registry.specs.SearchRecord.{Entry, Pair, pair_by, entry_at, pair_at, pairs_of, pairs_below}
use Rattle.pl_registry.proofs.Lists.{Contains-nil, Contains-map, Contains-map_cases}

-- the pair is of the entry expanded in its turn and of a step of its state
pub record IsPairOf (space : StateSpace) (entries : List Entry) (expanded : List ℕ) (p : Pair) : Type 0 where
  pub entry_is : p.entry ≡ slice_index expanded p.turn
  pub step_of : Contains (space.steps (entry_at entries p.entry).state) p.step
  pub target_is : p.target ≡ space.result (entry_at entries p.entry).state p.step

pub pair_of_turn : (space : StateSpace) (entries : List Entry) (expanded : List ℕ) (j : ℕ) (p : Pair)
    → Contains (pairs_of space entries expanded j) p →
    (p.turn ≡ j) × IsPairOf space entries expanded p
pair_of_turn space entries expanded j p h =
    let i = slice_index expanded j in
    let (step, m, e) = Contains-map_cases (pair_by space entries j i)
    (space.steps (entry_at entries i).state) p h in
    subst (λ (q : Pair). (q.turn ≡ j) × IsPairOf space entries expanded q) e
    (refl, record { entry_is = refl; step_of = m; target_is = refl })

pub pair_below : (space : StateSpace) (entries : List Entry) (expanded : List ℕ) (n : ℕ) (p : Pair)
    → Contains (pairs_below space entries expanded n) p →
    (p.turn < n) × IsPairOf space entries expanded p
pair_below space entries expanded zero p h = absurd (Contains-nil p h)
pair_below space entries expanded (suc j) p h =
    elim (Contains-append_cases (pairs_below space entries expanded j)
    (pairs_of space entries expanded j) p h) [
      | inl front ↦ (let (t, is) = pair_below space entries expanded j p front in (omega arith, is))
      | inr last ↦ (let (t, is) = pair_of_turn space entries expanded j p last in (omega (arith, t), is))
    ]

-- the pairs of a turn are among those of the turns below a greater one
pub turn_within : (space : StateSpace) (entries : List Entry) (expanded : List ℕ) (n j : ℕ) (p : Pair) → j < n
    → Contains (pairs_of space entries expanded j) p →
    Contains (pairs_below space entries expanded n) p
turn_within space entries expanded zero j p l h = absurd (omega arith)
turn_within space entries expanded (suc n) j p l h = elim (last_or_less j n l) [
  | inl less ↦ Contains-append_left (pairs_below space entries expanded n)
      (pairs_of space entries expanded n) p (turn_within space entries expanded n j p less h)
  | inr e ↦ Contains-append_right (pairs_below space entries expanded n) (pairs_of space entries expanded n) p
      (subst (λ k. Contains (pairs_of space entries expanded k) p) e h)
]
  where
    last_or_less : (j n : ℕ) → j < suc n → (j < n) ⊎ (j ≡ n)
    last_or_less j n l = grind arith

-- a step of the entry expanded in a turn makes a pair of that turn
pub step_in_turn : (space : StateSpace) (entries : List Entry) (expanded : List ℕ) (j : ℕ) (step : Instance) →
    Contains (space.steps (entry_at entries (slice_index expanded j)).state) step →
    Contains (pairs_of space entries expanded j) (pair_by space entries j (slice_index expanded j) step)
step_in_turn space entries expanded j step h =
    Contains-map (pair_by space entries j (slice_index expanded j))
    (space.steps (entry_at entries (slice_index expanded j)).state) step h

pub within_or_past : (k n : ℕ) → (k < n) ⊎ (n ≤ k)
within_or_past k n = grind arith

-- the turn of a pair behind those below turn j is j
pub turn_behind : (space : StateSpace) (entries : List Entry) (expanded : List ℕ) (j k : ℕ)
    → length (pairs_below space entries expanded j) ≤ k →
    k < length (pairs_below space entries expanded (suc j))
    → (pair_at (pairs_below space entries expanded (suc j)) k).turn ≡ j
turn_behind space entries expanded j k l h =
    let front = pairs_below space entries expanded j in
    let last = pairs_of space entries expanded j in
    let within : k - length front < length last = omega (arith, length-append front last) in
    let read : pair_at (front ++ last) k ≡ pair_at last (k - length front) =
    get_or-append_right front last (length front) k _ refl l in
    ap (λ (p : Pair). p.turn) read
    ∙ (pair_of_turn space entries expanded j (pair_at last (k - length front))
    (Contains-get_or last (k - length front) _ within)).0

-- the turn of a pair among those below turn j is below j
pub turn_before : (space : StateSpace) (entries : List Entry) (expanded : List ℕ) (j k : ℕ)
    → k < length (pairs_below space entries expanded j) →
    (pair_at (pairs_below space entries expanded j) k).turn < j
turn_before space entries expanded j k l =
    (pair_below space entries expanded j (pair_at (pairs_below space entries expanded j) k)
    (Contains-get_or (pairs_below space entries expanded j) k _ l)).0

pub same_before : (space : StateSpace) (entries : List Entry) (expanded : List ℕ) (j k : ℕ)
    → k < length (pairs_below space entries expanded j) →
    pair_at (pairs_below space entries expanded (suc j)) k ≡ pair_at (pairs_below space entries expanded j) k
same_before space entries expanded j k l = get_or_append_left (pairs_below space entries expanded j)
    (pairs_of space entries expanded j) _ k l

-- turns rise along the list
pub turns_rise : (space : StateSpace) (entries : List Entry) (expanded : List ℕ) (n i k : ℕ) → i ≤ k
    → k < length (pairs_below space entries expanded n) →
    (pair_at (pairs_below space entries expanded n) i).turn
    ≤ (pair_at (pairs_below space entries expanded n) k).turn
turns_rise space entries expanded zero i k l h = absurd (omega arith)
turns_rise space entries expanded (suc j) i k l h =
    elim (within_or_past k (length (pairs_below space entries expanded j))) [
      | inl front ↦ (
          let a = ap (λ (p : Pair). p.turn) (same_before space entries expanded j i (omega arith)) in
          let b = ap (λ (p : Pair). p.turn) (same_before space entries expanded j k front) in
          let c = turns_rise space entries expanded j i k l front in
          omega (arith, a, b, c))
      | inr behind ↦ elim (within_or_past i (length (pairs_below space entries expanded j))) [
        | inl front ↦ (
            let a = ap (λ (p : Pair). p.turn) (same_before space entries expanded j i front) in
            let b = turn_before space entries expanded j i front in
            let c = turn_behind space entries expanded j k behind h in
            omega (arith, a, b, c))
        | inr past ↦ (
            let a = turn_behind space entries expanded j i past (omega arith) in
            let c = turn_behind space entries expanded j k behind h in
            omega (arith, a, c))
      ]
    ]
