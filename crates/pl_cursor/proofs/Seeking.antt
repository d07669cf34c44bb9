-- Where the answers past a tuple stand.
use Rattle.std.proofs.Common.{◌≡◌, ◌+◌, ◌-◌, ◌<◌, ◌≤◌, ℕ, Bool, true, false, List, [], ◌∷◌, ◌++◌, length}
use Rattle.std.proofs.Common.{get_or, take, drop, filter, Contains, slice_get, slice_range, Some, ◌⊎◌, inl}
use Rattle.std.proofs.Common.{inr, refl, sym, ap, ◌∙◌, subst, arith}
use Rattle.std.specs.declared.cmp.Ordering.{Ordering}
use Rattle.std.specs.declared.cmp.Ordering.TheVariants.{Less, Equal, Greater}
use Rattle.std.specs.Ordering.{is_lt, is_le, ordering_reverse}
use Rattle.std.specs.List.{flat_map}
use Rattle.std.proofs.lemmas.Bool.{cases_Bool, cases_lt, false≢true}
use Rattle.std.proofs.lemmas.Cmp.{tied_itself, nat_list_cmp_total}
use Rattle.std.proofs.lemmas.List.{take_all, drop_at, length-append, length-take, length-take-le, length-drop}
use Rattle.std.proofs.lemmas.List.Concat.{flat_map-append}
use Rattle.std.proofs.Math.Seq.{take-add}
use Rattle.std.proofs.lemmas.List.Elements.{filter-append}
use Rattle.std.proofs.lemmas.Map.Keys.{Less-from_sorted}
use Rattle.std.proofs.lemmas.Map.Lookups.{exact_bytes}
use Rattle.std.proofs.lemmas.Option.{slice_get_within, get_or_from_slice_get, slice_get-get_or}
use Rattle.pl_reduce.proofs.Filters.{filter_none, filter_whole}
use Rattle.pl_cursor.proofs.Ranges.{range_holds, range_place, range_split}
use Rattle.pl_rows.specs.Rows.{row_cmp, is_below}
use Rattle.pl_rows.proofs.Canonical.{Contains-cons_first, Contains-cons_rest}
use Rattle.pl_cursor.specs.Answers.{Stage, IsStage, answers, through, matching, grown, key_of, is_past}
use Rattle.pl_cursor.specs.Answers.{AreFirstIn, IsSought}
use Rattle.pl_cursor.proofs.Descent.{through-first}
use Rattle.pl_cursor.proofs.Ascent.{same_front, front_decides}
use Rattle.pl_cursor.proofs.Chains.{members}
use Rattle.pl_cursor.proofs.Fronts.{matching-split, length-matching, length-grown_matching, length-key_of}
use Rattle.pl_cursor.proofs.Fronts.{chain-front}

-- ---- orders

is_lt-Less : (o : Ordering) → is_lt o ≡ true → o ≡ Less
is_lt-Less Less h = refl
is_lt-Less Equal h = absurd (false≢true h)
is_lt-Less Greater h = absurd (false≢true h)

-- what is not below is the same or above
not_below : (xs ys : List ℕ) → is_lt (row_cmp xs ys) ≡ false → (xs ≡ ys) ⊎ (row_cmp ys xs ≡ Less)
not_below xs ys h = by (row_cmp xs ys) refl h
  where
    by : (o : Ordering) → row_cmp xs ys ≡ o → is_lt o ≡ false → (xs ≡ ys) ⊎ (row_cmp ys xs ≡ Less)
    by Less e h = absurd (false≢true (sym h))
    by Equal e h = inl (exact_bytes xs ys e)
    by Greater e h = inr (nat_list_cmp_total.antisymm ys xs ∙ ap ordering_reverse e)

pub is_past-below : (inclusive : Bool) (past row : List ℕ) → row_cmp row past ≡ Less
    → is_past inclusive past row ≡ false
is_past-below true past row h = ap is_le (nat_list_cmp_total.antisymm past row ∙ ap ordering_reverse h)
is_past-below false past row h = ap is_lt (nat_list_cmp_total.antisymm past row ∙ ap ordering_reverse h)

pub is_past-above : (inclusive : Bool) (past row : List ℕ) → row_cmp past row ≡ Less
    → is_past inclusive past row ≡ true
is_past-above true past row h = ap is_le h
is_past-above false past row h = ap is_lt h

-- ---- a test on what a list of lists joins

pub filter-flat_map_none : {X Y : Type 0} (p : Y → Bool) (F : X → List Y) (xs : List X)
    → ((x : X) → Contains xs x → filter p (F x) ≡ []) → filter p (flat_map F xs) ≡ []
filter-flat_map_none p F [] h = refl
filter-flat_map_none p F (x ∷ xs) h =
    let here : filter p (F x) ≡ [] = h x (Contains-cons_first x xs) in
    let rest : filter p (flat_map F xs) ≡ [] = filter-flat_map_none p F xs
    (λ y m. h y (Contains-cons_rest x xs y m)) in
    filter-append p (F x) (flat_map F xs) ∙ (λ i. here i ++ rest i)

pub filter-flat_map_all : {X Y : Type 0} (p : Y → Bool) (F : X → List Y) (xs : List X)
    → ((x : X) → Contains xs x → filter p (F x) ≡ F x) → filter p (flat_map F xs) ≡ flat_map F xs
filter-flat_map_all p F [] h = refl
filter-flat_map_all p F (x ∷ xs) h =
    let here : filter p (F x) ≡ F x = h x (Contains-cons_first x xs) in
    let rest : filter p (flat_map F xs) ≡ flat_map F xs = filter-flat_map_all p F xs
    (λ y m. h y (Contains-cons_rest x xs y m)) in
    filter-append p (F x) (flat_map F xs) ∙ (λ i. here i ++ rest i)

-- ---- a row of a stage against a tuple, by what the stage's rows bring

-- what it brings decides
pub grown-order : (stage : Stage) (values part row : List ℕ) → Contains (matching stage values) row
    → row_cmp (grown stage values row) (values ++ part) ≡ row_cmp row (key_of stage.keys values ++ part)
grown-order stage values part row h =
    let key : List ℕ = key_of stage.keys values in
    same_front values (drop (length stage.keys) row) part
    ∙ sym (same_front key (drop (length stage.keys) row) part)
    ∙ ap (λ r. row_cmp r (key ++ part)) (matching-split stage values row h)

pub order-grown : (stage : Stage) (values part row : List ℕ) → Contains (matching stage values) row
    → row_cmp (values ++ part) (grown stage values row) ≡ row_cmp (key_of stage.keys values ++ part) row
order-grown stage values part row h =
    let key : List ℕ = key_of stage.keys values in
    same_front values part (drop (length stage.keys) row)
    ∙ sym (same_front key part (drop (length stage.keys) row))
    ∙ ap (λ r. row_cmp (key ++ part) r) (matching-split stage values row h)

-- a prefix of the key and what a row may bring is a whole row
pub whole_row : (stage : Stage) (before brought : ℕ) (values part row : List ℕ) → IsStage stage before brought
    → length part ≡ brought → Contains (matching stage values) row
    → take (length (key_of stage.keys values ++ part)) row ≡ row
whole_row stage before brought values part row is wide h =
    take_all (length (key_of stage.keys values ++ part)) row
    (omega (
      arith,
      length-append (key_of stage.keys values) part,
      length-key_of stage.keys values,
      length-matching stage before brought values row is h,
    ))

-- an answer through a row begins with the values that the row makes
answer-front : (stages : List Stage) (stage : Stage) (before brought : ℕ) (values row x : List ℕ) →
    IsStage stage before brought → length values ≡ before → Contains (matching stage values) row →
    Contains (answers stages (grown stage values row)) x → take (before + brought) x ≡ grown stage values row
answer-front stages stage before brought values row x is long held h =
    ap (λ n. take n x) (sym (length-grown_matching stage before brought values row is long held))
    ∙ chain-front stages (grown stage values row) x ((members stages (grown stage values row) x).0 h)

-- the answers through a row that is below are below
pub answers-below : (inclusive : Bool) (stages : List Stage) (stage : Stage) (before brought : ℕ)
    (values past part row : List ℕ) → IsStage stage before brought → length values ≡ before
    → take (before + brought) past ≡ values ++ part → Contains (matching stage values) row
    → row_cmp row (key_of stage.keys values ++ part) ≡ Less
    → filter (is_past inclusive past) (answers stages (grown stage values row)) ≡ []
answers-below inclusive stages stage before brought values past part row is long front held less =
    filter_none (is_past inclusive past) (answers stages (grown stage values row)) fails
  where
    fails : (x : List ℕ) → Contains (answers stages (grown stage values row)) x
        → is_past inclusive past x ≡ false
    fails x h =
        let begins = answer-front stages stage before brought values row x is long held h in
        is_past-below inclusive past x
        (front_decides (before + brought) x past
        ((λ i. row_cmp (begins i) (front i)) ∙ grown-order stage values part row held ∙ less))

-- and those through a row that is above are above
pub answers-above : (inclusive : Bool) (stages : List Stage) (stage : Stage) (before brought : ℕ)
    (values past part row : List ℕ) → IsStage stage before brought → length values ≡ before
    → take (before + brought) past ≡ values ++ part → Contains (matching stage values) row
    → row_cmp (key_of stage.keys values ++ part) row ≡ Less
    → filter (is_past inclusive past) (answers stages (grown stage values row)) ≡ answers stages
    (grown stage values row)
answers-above inclusive stages stage before brought values past part row is long front held less =
    filter_whole (is_past inclusive past) (answers stages (grown stage values row)) passes
  where
    passes : (x : List ℕ) → Contains (answers stages (grown stage values row)) x
        → is_past inclusive past x ≡ true
    passes x h =
        let begins = answer-front stages stage before brought values row x is long held h in
        is_past-above inclusive past x
        (front_decides (before + brought) past x
        ((λ i. row_cmp (front i) (begins i)) ∙ order-grown stage values part row held ∙ less))

-- the row that brings just the tuple's values gives the tuple's front
pub grown-same : (stage : Stage) (values part row : List ℕ) → row ≡ key_of stage.keys values ++ part
    → grown stage values row ≡ values ++ part
grown-same stage values part row e =
    ap (λ r. values ++ r) (ap (drop (length stage.keys)) e
    ∙ drop_at (key_of stage.keys values) part (length stage.keys) (length-key_of stage.keys values))

-- ---- the rows of a stage against a tuple

-- of the rows from one place up to another those before a place are below, and those after it above
module _ (stage : Stage) (before brought : ℕ) (values part : List ℕ) (from to place : ℕ)
    (is : IsStage stage before brought) (wide : length part ≡ brought)
    (found : slice_range stage.rows from to ≡ matching stage values)
    (first : AreFirstIn (is_below (key_of stage.keys values ++ part)) stage.rows from to place) where
  range_matches : (i : ℕ) (row : List ℕ) → from ≤ i → i < to → slice_get stage.rows i ≡ Some row
      → Contains (matching stage values) row
  range_matches i row l h at = subst (λ rows. Contains rows row) found
      (range_holds stage.rows from to i row l h at)

  below_first : (i : ℕ) (row : List ℕ) → from ≤ i → i < to → slice_get stage.rows i ≡ Some row → i < place
      → row_cmp row (key_of stage.keys values ++ part) ≡ Less
  below_first i row l h at earlier =
      let whole = whole_row stage before brought values part row is wide (range_matches i row l h at) in
      is_lt-Less (row_cmp row (key_of stage.keys values ++ part))
      (ap (λ r. is_lt (row_cmp r (key_of stage.keys values ++ part))) (sym whole)
      ∙ (first i row l h at).1 earlier)

  not_below_first : (i : ℕ) (row : List ℕ) → from ≤ i → i < to → slice_get stage.rows i ≡ Some row → place ≤ i
      → is_lt (row_cmp row (key_of stage.keys values ++ part)) ≡ false
  not_below_first i row l h at later =
      let whole = whole_row stage before brought values part row is wide (range_matches i row l h at) in
      elim (cases_Bool (is_lt (row_cmp row (key_of stage.keys values ++ part)))) [
        | inr e ↦ e
        | inl e ↦ (let earlier = (first i row l h at).0
            (ap (λ r. is_lt (row_cmp r (key_of stage.keys values ++ part))) whole ∙ e) in
            absurd (omega arith))
      ]

  above_later : (i : ℕ) (row : List ℕ) → from ≤ place → i < to → slice_get stage.rows i ≡ Some row → place < i
      → row_cmp (key_of stage.keys values ++ part) row ≡ Less
  above_later i row l h at later =
      let within : i < length stage.rows = slice_get_within stage.rows i row at in
      let other : List ℕ = get_or stage.rows place [] in
      let there : slice_get stage.rows place ≡ Some other = slice_get-get_or stage.rows place []
      (omega arith) in
      let here : get_or stage.rows i [] ≡ row = get_or_from_slice_get stage.rows i row [] at in
      let less : row_cmp other row ≡ Less = rw here at
      (Less-from_sorted row_cmp stage.rows place i [] is.rows.ascending later within) in
      elim (not_below other (key_of stage.keys values ++ part)
      (not_below_first place other l (omega arith) there (omega arith))) [
        | inl e ↦ subst (λ r. row_cmp r row ≡ Less) e less
        | inr g ↦ nat_list_cmp_total.trans (key_of stage.keys values ++ part) other row g less
      ]

  above_here : (row : List ℕ) → from ≤ place → place < to → slice_get stage.rows place ≡ Some row
      → (row ≡ key_of stage.keys values ++ part → ⊥) → row_cmp (key_of stage.keys values ++ part) row ≡ Less
  above_here row l h at apart =
      elim (not_below row (key_of stage.keys values ++ part)
      (not_below_first place row l h at (omega arith))) [
        | inl e ↦ absurd (apart e)
        | inr g ↦ g
      ]

-- ---- a stage is sought

-- the answers through the rows before the place are not past the tuple
through-before : (inclusive : Bool) (stages : List Stage) (stage : Stage) (before brought : ℕ)
    (values past part : List ℕ) (from to place : ℕ) → IsStage stage before brought → length values ≡ before
    → length part ≡ brought → take (before + brought) past ≡ values ++ part
    → slice_range stage.rows from to ≡ matching stage values
    → AreFirstIn (is_below (key_of stage.keys values ++ part)) stage.rows from to place → place ≤ to
    → filter (is_past inclusive past) (through stages stage values (slice_range stage.rows from place)) ≡ []
through-before inclusive stages stage before brought values past part from to place is long wide front found
    first high =
    filter-flat_map_none (is_past inclusive past) (λ row. answers stages (grown stage values row))
    (slice_range stage.rows from place) none
  where
    none : (row : List ℕ) → Contains (slice_range stage.rows from place) row
        → filter (is_past inclusive past) (answers stages (grown stage values row)) ≡ []
    none row h =
        let (i, l, earlier, at) = range_place stage.rows from place row h in
        answers-below inclusive stages stage before brought values past part row is long front
        (range_matches stage before brought values part from to place is wide found first i row l
        (omega arith) at)
        (below_first stage before brought values part from to place is wide found first i row l
        (omega arith) at earlier)

-- those through rows that are above are
through-above : (inclusive : Bool) (stages : List Stage) (stage : Stage) (before brought : ℕ)
    (values past part : List ℕ) (from to next : ℕ) → IsStage stage before brought → length values ≡ before
    → take (before + brought) past ≡ values ++ part → slice_range stage.rows from to ≡ matching stage values
    → from ≤ next → ((i : ℕ) (row : List ℕ) → next ≤ i → i < to → slice_get stage.rows i ≡ Some row
    → row_cmp (key_of stage.keys values ++ part) row ≡ Less)
    → filter (is_past inclusive past) (through stages stage values (slice_range stage.rows next to)) ≡ through
    stages stage values (slice_range stage.rows next to)
through-above inclusive stages stage before brought values past part from to next is long front found low
    above =
    filter-flat_map_all (is_past inclusive past) (λ row. answers stages (grown stage values row))
    (slice_range stage.rows next to) all
  where
    all : (row : List ℕ) → Contains (slice_range stage.rows next to) row
        → filter (is_past inclusive past) (answers stages (grown stage values row)) ≡ answers stages
        (grown stage values row)
    all row h =
        let (i, l, m, at) = range_place stage.rows next to row h in
        answers-above inclusive stages stage before brought values past part row is long front
        (subst (λ rows. Contains rows row) found (range_holds stage.rows from to i row (omega arith) m at))
        (above i row l m at)

-- so only those from the place on are to be looked at
from_place : (inclusive : Bool) (stages : List Stage) (stage : Stage) (before brought : ℕ)
    (values past part : List ℕ) (from to place : ℕ) → IsStage stage before brought → length values ≡ before
    → length part ≡ brought → take (before + brought) past ≡ values ++ part
    → slice_range stage.rows from to ≡ matching stage values
    → AreFirstIn (is_below (key_of stage.keys values ++ part)) stage.rows from to place → from ≤ place
    → place ≤ to → filter (is_past inclusive past) (answers (stage ∷ stages) values) ≡ filter
    (is_past inclusive past) (through stages stage values (slice_range stage.rows place to))
from_place inclusive stages stage before brought values past part from to place is long wide front found first
    low high =
    let p : List ℕ → Bool = is_past inclusive past in
    let F : List ℕ → List (List ℕ) = λ row. answers stages (grown stage values row) in
    let parts : matching stage values ≡ slice_range stage.rows from place
    ++ slice_range stage.rows place to = sym found ∙ range_split stage.rows from place to low high in
    let none : filter p (through stages stage values (slice_range stage.rows from place)) ≡ [] =
    through-before inclusive stages stage before brought values past part from to place is long wide front
    found first high in
    ap (λ rows. filter p (flat_map F rows)) parts
    ∙ ap (filter p)
    (flat_map-append F (slice_range stage.rows from place) (slice_range stage.rows place to))
    ∙ filter-append p (through stages stage values (slice_range stage.rows from place))
    (through stages stage values (slice_range stage.rows place to))
    ∙ ap (λ xs. xs ++ filter p (through stages stage values (slice_range stage.rows place to))) none

-- the part of a tuple that a stage brings
pub length-part : (past : List ℕ) (before brought : ℕ) → before + brought ≤ length past
    → length (slice_range past before (before + brought)) ≡ brought
length-part past before brought l =
    omega (arith, length-take (before + brought - before) (drop before past), length-drop before past)

pub front-part : (past : List ℕ) (before brought : ℕ) → take (before + brought) past ≡ take before past
    ++ slice_range past before (before + brought)
front-part past before brought =
    let count : before + brought - before ≡ brought = omega arith in
    rw count (take-add before brought past)

-- the row at the place brings just the tuple's values: what is past the tuple goes on with it, or goes
-- through a later row
pub sought-same : (inclusive : Bool) (stages : List Stage) (stage : Stage) (brought : ℕ)
    (past prefix : List ℕ) (from to place : ℕ) (row : List ℕ) → IsStage stage stage.from brought
    → stage.from + brought ≤ length past → IsSought stage brought past prefix from to place → place < to
    → slice_get stage.rows place ≡ Some row → row ≡ prefix
    → filter (is_past inclusive past) (answers (stage ∷ stages) (take stage.from past)) ≡ filter
    (is_past inclusive past) (answers stages (take (stage.from + brought) past))
    ++ through stages stage (take stage.from past) (slice_range stage.rows (place + 1) to)
sought-same inclusive stages stage brought past prefix from to place row is l s m at e =
    let p : List ℕ → Bool = is_past inclusive past in
    let values : List ℕ = take stage.from past in
    let part : List ℕ = slice_range past stage.from (stage.from + brought) in
    let long : length values ≡ stage.from = length-take-le stage.from past (omega arith) in
    let wide : length part ≡ brought = length-part past stage.from brought l in
    let front : take (stage.from + brought) past ≡ values ++ part = front-part past stage.from brought in
    let first : AreFirstIn (is_below (key_of stage.keys values ++ part)) stage.rows from to place =
    subst (λ q. AreFirstIn (is_below q) stage.rows from to place) s.prefix_is s.first in
    let here : grown stage values row ≡ take (stage.from + brought) past =
    grown-same stage values part row (e ∙ s.prefix_is) ∙ sym front in
    let later : filter p (through stages stage values (slice_range stage.rows (place + 1) to)) ≡ through
    stages stage values (slice_range stage.rows (place + 1) to) =
    through-above inclusive stages stage stage.from brought values past part from to
    (place + 1) is long front s.range (omega (arith, s.low))
    (λ i r g h at'. above_later stage stage.from brought values part from to place is wide s.range first i r
    s.low h at' (omega arith)) in
    from_place inclusive stages stage stage.from brought values past part from to place is long wide front
    s.range first s.low s.high
    ∙ ap (filter p) (through-first stages stage values place to row m at)
    ∙ filter-append p (answers stages (grown stage values row))
    (through stages stage values (slice_range stage.rows (place + 1) to))
    ∙ (λ i. filter p (answers stages (here i)) ++ later i)

-- no row brings just the tuple's values: what is past the tuple goes through the rows from the place on
pub sought-after : (inclusive : Bool) (stages : List Stage) (stage : Stage) (brought : ℕ)
    (past prefix : List ℕ) (from to place : ℕ) → IsStage stage stage.from brought
    → stage.from + brought ≤ length past → IsSought stage brought past prefix from to place
    → ((row : List ℕ) → place < to → slice_get stage.rows place ≡ Some row → row ≡ prefix → ⊥)
    → filter (is_past inclusive past) (answers (stage ∷ stages) (take stage.from past)) ≡ through stages stage
    (take stage.from past) (slice_range stage.rows place to)
sought-after inclusive stages stage brought past prefix from to place is l s apart =
    let values : List ℕ = take stage.from past in
    let part : List ℕ = slice_range past stage.from (stage.from + brought) in
    let long : length values ≡ stage.from = length-take-le stage.from past (omega arith) in
    let wide : length part ≡ brought = length-part past stage.from brought l in
    let front : take (stage.from + brought) past ≡ values ++ part = front-part past stage.from brought in
    let first : AreFirstIn (is_below (key_of stage.keys values ++ part)) stage.rows from to place =
    subst (λ q. AreFirstIn (is_below q) stage.rows from to place) s.prefix_is s.first in
    from_place inclusive stages stage stage.from brought values past part from to place is long wide front
    s.range first s.low s.high
    ∙ through-above inclusive stages stage stage.from brought values past part from to place is long front
    s.range s.low
    (λ i row g h at. elim (cases_lt place i) [
      | inl later ↦ above_later stage stage.from brought values part from to place is wide s.range first i row
          s.low h at later
      | inr same ↦ (let e : i ≡ place = omega arith in
          above_here stage stage.from brought values part from to place is wide s.range first row s.low
          (omega arith) (ap (slice_get stage.rows) (sym e) ∙ at)
          (λ q. apart row (omega arith) (ap (slice_get stage.rows) (sym e) ∙ at) (q ∙ sym s.prefix_is)))
    ])

-- behind the last stage the tuple itself is left, where it is wanted
pub sought-end : (past : List ℕ) → filter (is_past true past) (answers [] past) ≡ past ∷ []
sought-end past = let here : is_past true past past ≡ true = ap is_le (tied_itself nat_list_cmp_total past) in
    rw here refl

pub sought-end_none : (past : List ℕ) → filter (is_past false past) (answers [] past) ≡ []
sought-end_none past = let here : is_past false past past ≡ false =
    ap is_lt (tied_itself nat_list_cmp_total past) in rw here refl
