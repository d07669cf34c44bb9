-- The probes of the two passes: three for each row of a node and of its parent, so at most three times all
-- rows for each node.
use Rattle.std.proofs.Common.{◌≡◌, ◌≢◌, ◌⊎◌, ◌+◌, ◌*◌, ◌<◌, ◌≤◌, ℕ, zero, suc, List, [], length, get_or, take}
use Rattle.std.proofs.Common.{slice_index, ap, subst, refl, ◌-◌, inl, inr, arith}
use Rattle.std.specs.List.{sum_by}
use Rattle.std.proofs.lemmas.List.{get_or-take, length-take}
use Rattle.std.proofs.lemmas.List.Sums.{sum_by_more_le, get_or-le-sum_by}
use Rattle.pl_join.specs.Relation.{ClassRows}
use Rattle.pl_reduce.specs.Passes.{Remains, AreParents, AreReduced, rows_at, total_rows, up_probes}
use Rattle.pl_reduce.specs.Passes.{down_probes}

-- two elements are within the sum
two_within : {X : Type 0} (f : X → ℕ) (xs : List X) (i j : ℕ) (d : X) → i < j → j < length xs
    → f (get_or xs i d) + f (get_or xs j d) ≤ sum_by f xs
two_within f xs i j d l m =
    let low : f (get_or (take j xs) i d) ≤ sum_by f (take j xs) =
    get_or-le-sum_by f (take j xs) i d (omega (arith, length-take j xs)) in
    let same = get_or-take j xs i d l in
    let most = sum_by_more_le f xs j d m in
    omega (arith, same_number f (get_or (take j xs) i d) (get_or xs i d) same)
  where
    same_number : {X : Type 0} (f : X → ℕ) (x y : X) → x ≡ y → f x ≡ f y
    same_number f x y e = ap f e

pair_within : (given : List ClassRows) (i j : ℕ) → i ≢ j → i < length given → j < length given
    → rows_at given i + rows_at given j ≤ total_rows given
pair_within given i j apart l m = elim (less_or i j apart) [
  | inl low ↦ two_within (λ (relation : ClassRows). length relation.rows) given i j _ low m
  | inr high ↦ (let within = two_within (λ (relation : ClassRows). length relation.rows) given j i
      (record { classes = []; rows = [] }) high l in omega (arith, within))
]
  where
    less_or : (i j : ℕ) → i ≢ j → (i < j) ⊎ (j < i)
    less_or i j n = grind arith

not_itself : (j p : ℕ) → Remains (suc j) p → p ≢ suc j
not_itself j p (inl e) s = omega arith
not_itself j p (inr l) s = omega arith

triple : (j total : ℕ) → 3 * suc j * total ≡ 3 * j * total + 3 * total
triple j total = grind arith

pub both_passes : (given : List ClassRows) (parents : List ℕ) (last : ℕ) → AreParents parents given
    → last < length given → up_probes given parents last + down_probes given parents
    last ≤ 3 * last * total_rows given
both_passes given parents zero are l = omega arith
both_passes given parents (suc j) are l =
    let so_far = both_passes given parents j are (omega arith) in
    let pair = pair_within given (slice_index parents (suc j)) (suc j)
    (not_itself j (slice_index parents (suc j)) (are.remain (suc j) (omega arith) l))
    (are.within (suc j) (omega arith) l) l in
    let times = triple j (total_rows given) in
    omega (arith, so_far, pair, times)

-- ---- what the loops of the two passes take

up_rises : (given : List ClassRows) (parents : List ℕ) (j more : ℕ)
    → up_probes given parents j ≤ up_probes given parents (j + more)
up_rises given parents j zero = let e : j + 0 ≡ j = omega arith in rw e (omega arith)
up_rises given parents j (suc more) =
    let before = up_rises given parents j more in
    let e : j + suc more ≡ suc (j + more) = omega arith in
    rw e (omega (arith, before))

pub up_most : (given : List ClassRows) (parents : List ℕ) (j last : ℕ) → j ≤ last
    → up_probes given parents j ≤ up_probes given parents last
up_most given parents j last l =
    let e : j + (last - j) ≡ last = omega arith in
    subst (λ n. up_probes given parents j ≤ up_probes given parents n) e (up_rises given parents j (last - j))

-- one node more of the pass to the root
pub up_cost : (given old : List ClassRows) (parents : List ℕ) (j start before after : ℕ)
    → AreReduced given old → before ≤ start + up_probes given parents j
    → after ≤ before + 2 * rows_at old (slice_index parents (j + 1)) + rows_at old (j + 1)
    → after ≤ start + up_probes given parents (j + 1)
up_cost given old parents j start before after is so_far step =
    let parent = is.fewer (slice_index parents (j + 1)) in
    let node = is.fewer (j + 1) in
    let e : j + 1 ≡ suc j = omega arith in
    let unfolded : up_probes given parents (j + 1) ≡ up_probes given parents
    j + (2 * rows_at given (slice_index parents (j + 1)) + rows_at given (j + 1)) = rw e refl in
    omega (arith, so_far, step, parent, node, unfolded)

-- one node more of the pass back
pub down_cost : (given old : List ClassRows) (parents : List ℕ) (j node start before after : ℕ) → node ≡ j + 1
    → AreReduced given old → before + down_probes given parents node ≤ start
    → after ≤ before + 2 * rows_at old node + rows_at old (slice_index parents node)
    → after + down_probes given parents j ≤ start
down_cost given old parents j node start before after e is so_far step =
    let parent = is.fewer (slice_index parents node) in
    let here = is.fewer node in
    let s : node ≡ suc j = omega (arith, e) in
    let unfolded : down_probes given parents node ≡ down_probes given parents
    j + (2 * rows_at given node + rows_at given (slice_index parents node)) = rw s refl in
    omega (arith, so_far, step, parent, here, unfolded)

-- all together
pub most_of_all : (given : List ClassRows) (parents : List ℕ) (last start steps : ℕ)
    → AreParents parents given → length given ≡ last + 1
    → steps ≤ start + up_probes given parents last + down_probes given parents last
    → steps ≤ start + 3 * (length given - 1) * total_rows given
most_of_all given parents last start steps are many most =
    let both = both_passes given parents last are (omega (arith, many)) in
    let e : length given - 1 ≡ last = omega (arith, many) in
    rw e (omega (arith, both, most))

pub most_of_up : (given : List ClassRows) (parents : List ℕ) (j last start steps : ℕ)
    → AreParents parents given → length given ≡ last + 1 → j ≤ last
    → steps ≤ start + up_probes given parents j → steps ≤ start + 3 * (length given - 1) * total_rows given
most_of_up given parents j last start steps are many l most =
    let up = up_most given parents j last l in
    most_of_all given parents last start steps are many (omega (arith, most, up))

-- by the count of the relations: after a turn of the pass to the root
pub turn_cost : (given old : List ClassRows) (parents : List ℕ) (j last many start before after : ℕ)
    → AreParents parents given → length given ≡ many → many ≡ last + 1 → j < last → AreReduced given old
    → before ≤ start + up_probes given parents j
    → after ≤ before + 2 * rows_at old (slice_index parents (j + 1)) + rows_at old (j + 1)
    → after ≤ start + 3 * (many - 1) * total_rows given
turn_cost given old parents j last many start before after are e l low is so_far step =
    subst (λ m. after ≤ start + 3 * (m - 1) * total_rows given) e
    (most_of_up given parents (j + 1) last start after are (omega (arith, e, l)) (omega (arith, low))
    (up_cost given old parents j start before after is so_far step))

-- and after some turns of both passes
pub turns_cost : (given : List ClassRows) (parents : List ℕ) (last many start after : ℕ)
    → AreParents parents given → length given ≡ many → many ≡ last + 1
    → after ≤ start + up_probes given parents last + down_probes given parents last
    → after ≤ start + 3 * (many - 1) * total_rows given
turns_cost given parents last many start after are e l most =
    subst (λ m. after ≤ start + 3 * (m - 1) * total_rows given) e
    (most_of_all given parents last start after are (omega (arith, e, l)) most)
