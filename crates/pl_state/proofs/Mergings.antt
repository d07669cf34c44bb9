-- Rows that are merged with a step's deletes and adds, in ascending order.
use Rattle.std.proofs.Common.{◌≡◌, ◌⊎◌, ◌+◌, ◌-◌, ◌*◌, ◌<◌, ◌≤◌, ℕ, zero, suc, Bool, true, false, not, cond}
use Rattle.std.proofs.Common.{◌||◌, ◌&&◌, List, [], ◌∷◌, ◌++◌, length, get_or, take, drop, refl, sym, ap, ◌∙◌}
use Rattle.std.proofs.Common.{subst, inl, inr, All, Contains, arith, map, length-append, append_assoc}
use Rattle.std.proofs.Common.{count_by, nat_eq, eq-eqb, Option, Some, None, mul-le-mul_left}
use Rattle.std.specs.List.{flat_map, list_any}
use Rattle.std.specs.Str.{bytes_eq}
use Rattle.std.specs.declared.cmp.Ordering.TheVariants.{Less}
use Rattle.std.proofs.lemmas.Bool.{cases_Bool, false≢true, true≢false, cases_lt, cases_eq, and_from}
use denote.Ref.{Bor}
use Rattle.std.specs.Option.{IfSome}
use Rattle.std.proofs.lemmas.List.Concat.{flat_map-append}
use Rattle.std.proofs.lemmas.List.Folds.{list_any-append}
use Rattle.std.proofs.lemmas.List.Sums.{sum_by-cons}
use Rattle.std.proofs.lemmas.List.{drop-drop, length-map, length-take-le, get_or-map, get_or-take}
use Rattle.std.proofs.lemmas.List.{get_or-drop, get_or_default, length-drop, length-take, append-nil}
use Rattle.std.proofs.lemmas.List.{map-append}
use Rattle.std.proofs.lemmas.List.Elements.{All-append, All-nil, All-cons, All-take, All-drop, All-contains}
use Rattle.std.proofs.lemmas.List.Elements.{All-get_or, Contains-get_or, Contains-append_left}
use Rattle.std.proofs.lemmas.List.Elements.{Contains-append_right, Contains-append_cases}
use Rattle.std.proofs.lemmas.Map.Keys.{Less-from_sorted}
use Rattle.pl_rows.specs.Rows.{row_cmp, IsAscending}
use Rattle.pl_rows.specs.Layout.{comes_before, IsNarrowed}
use Rattle.pl_rows.proofs.Canonical.{Contains-cons_cases, Contains-cons_first, Contains-nil}
use Rattle.pl_rows.specs.Rows.{rows_of}
use Rattle.pl_rows.proofs.Places.{take-rows_of}
use Rattle.pl_task.specs.declared.data.Atom.{Atom}
use Rattle.pl_task.specs.declared.data.Lifted.{Lifted}
use Rattle.pl_task.specs.States.{atom_at, is_same}
use Rattle.pl_task.proofs.StateLemmas.{state_of-members}
use Rattle.pl_state.specs.Layout.{atom_of}
use Rattle.pl_state.specs.Changing.{rows_between, StandsAt, AppendsUpTo, AppendsRows, HasRow, row_under}
use Rattle.pl_state.specs.Changing.{is_named, is_done, is_row_after, IsNextNamed, IsNext}
use Rattle.pl_state.proofs.StatesOfWords.{among_rows}
use Rattle.pl_state.proofs.Packings.{flat-rows_of}
use Rattle.pl_state.proofs.Namings.{row_wide, named_held}
use Rattle.pl_state.proofs.Orders.{IsLower, lower_none, lower_up_to, below_from, below_to, up_to_itself}
use Rattle.pl_state.proofs.Orders.{up_to_from_below, up_to_cases, up_to_trans, ascending_one}
use Rattle.pl_state.proofs.Orders.{ascending_append, ascending_between}
use Rattle.std.proofs.lemmas.Bool.{or_parts}
use Rattle.pl_rows.proofs.Canonical.{ascending-none}

-- there is no row between a place and itself
pub none_between : (rows : List (List ℕ)) (old : List ℕ) (from to : ℕ) → from ≡ to →
    old ≡ old ++ flat_map (λ row. row) (rows_between from to rows)
none_between rows old from to same =
    let none : to - from ≡ 0 = omega (arith, same) in
    sym (append-nil old) ∙ ap (λ n. old ++ flat_map (λ row. row) (take n (drop from rows))) (sym none)

-- a row between two places stands at a place between them, and the other way round
between_at : (rows : List (List ℕ)) (i j m : ℕ) → i ≤ m → m < j → m < length rows →
    Contains (rows_between i j rows) (get_or rows m [])
between_at rows i j m l h inside =
    let size = length-take (j - i) (drop i rows) in
    let left = length-drop i rows in
    let place : m - i < length (rows_between i j rows) = omega arith in
    let n : m - i < j - i = omega arith in
    let e : i + (m - i) ≡ m = omega arith in
    let read : get_or (rows_between i j rows) (m - i) [] ≡ get_or rows m [] =
    get_or-take (j - i) (drop i rows) (m - i) [] n ∙ get_or-drop i rows (m - i) [] ∙
    ap (λ p. get_or rows p []) e in
    subst (Contains (rows_between i j rows)) read (Contains-get_or (rows_between i j rows) (m - i) [] place)

pub record IsBetween (rows : List (List ℕ)) (i j : ℕ) (row : List ℕ) : Type 0 where
  pub place : ℕ
  pub from : i ≤ place
  pub to : place < j
  pub within : place < length rows
  pub is : get_or rows place [] ≡ row

between_from : (rows : List (List ℕ)) (i j : ℕ) (row : List ℕ) → Contains (rows_between i j rows) row →
    IsBetween rows i j row
between_from rows i j row (m, l, is) =
    let size = length-take (j - i) (drop i rows) in
    let left = length-drop i rows in
    let n : m < j - i = omega arith in
    record {
      place = i + m;
      from = omega arith;
      to = omega arith;
      within = omega arith;
      is = sym (get_or-drop i rows m []) ∙ sym (get_or-take (j - i) (drop i rows) m [] n) ∙ default ∙ is;
    }
  where
    default : get_or (take (j - i) (drop i rows)) m [] ≡ get_or (take (j - i) (drop i rows)) m row
    default = get_or_default (take (j - i) (drop i rows)) m [] row l

-- the rows that are done are merged: `out` has those of them that are true afterwards, and they are the first
-- so many of the old rows
pub record IsMerged (k : ℕ) (rows : List (List ℕ)) (after done : List ℕ → Bool) (out : List (List ℕ))
    (place : ℕ) : Type 0 where
  pub within : place ≤ length rows
  pub before : (j : ℕ) → j < place → done (get_or rows j []) ≡ true
  pub behind : (j : ℕ) → place ≤ j → j < length rows → done (get_or rows j []) ≡ false
  pub ascending : IsAscending out
  pub wide : All (λ row. length row ≡ k) out
  pub held : (row : List ℕ) → Contains out row → (done row ≡ true) × (after row ≡ true)
  pub all : (row : List ℕ) → done row ≡ true → after row ≡ true → Contains out row

pub merged_none : (k : ℕ) (rows : List (List ℕ)) (after : List ℕ → Bool) →
    IsMerged k rows after (λ _. false) [] 0
merged_none k rows after = record {
  within = omega arith;
  before = λ j l. absurd (omega arith);
  behind = λ j l h. refl;
  ascending = ascending-none;
  wide = All-nil (λ row. length row ≡ k);
  held = λ row h. absurd (Contains-nil row h);
  all = λ row h t. absurd (false≢true h);
}

-- rows that no effect names stay as they are
pub record Stays (rows : List (List ℕ)) (after named : List ℕ → Bool) : Type 0 where
  pub to : (row : List ℕ) → named row ≡ false → Contains rows row → after row ≡ true
  pub from : (row : List ℕ) → named row ≡ false → after row ≡ true → Contains rows row

-- further rows are done, of which no effect names one
pub merged_gap : (k : ℕ) (rows : List (List ℕ)) (after done further named : List ℕ →
    Bool) (out : List (List ℕ)) (i j : ℕ) →
    IsAscending rows → All (λ row. length row ≡ k) rows → IsLower k done → Stays rows after named →
    ((row : List ℕ) → done row ≡ true → further row ≡ true) →
    ((row : List ℕ) → named row ≡ true → further row ≡ true → done row ≡ true) →
    i ≤ j → j ≤ length rows → ((m : ℕ) → m < j → further (get_or rows m []) ≡ true) →
    ((m : ℕ) → j ≤ m → m < length rows → further (get_or rows m []) ≡ false) →
    IsMerged k rows after done out i → IsMerged k rows after further (out ++ rows_between i j rows) j
merged_gap k rows after done further named out i j ascending wide lower stays more none l within before behind
    h = record {
      within = within;
      before = before;
      behind = behind;
      ascending = ascending_append out (rows_between i j rows) h.ascending
          (ascending_between i (j - i) rows ascending) apart;
      wide = All-append (λ row. length row ≡ k) out (rows_between i j rows) h.wide
          (All-take (λ row. length row ≡ k) (j - i) (drop i rows) (All-drop (λ row. length row ≡ k) i rows
          wide));
      held = λ row c. held_by row (Contains-append_cases out (rows_between i j rows) row c);
      all = λ row f t. all_by row f t (cases_Bool (done row));
    }
  where
    not_done : (row : List ℕ) → IsBetween rows i j row → done row ≡ false
    not_done row b = subst (λ r. done r ≡ false) b.is (h.behind b.place b.from b.within)

    width_of : (row : List ℕ) → IsBetween rows i j row → length row ≡ k
    width_of row b = subst (λ r. length r ≡ k) b.is
        (All-get_or (λ r. length r ≡ k) rows b.place [] b.within wide)

    apart : (x y : List ℕ) → Contains out x → Contains (rows_between i j rows) y → row_cmp x y ≡ Less
    apart x y a b =
        let at = between_from rows i j y b in
        lower x y (All-contains (λ r. length r ≡ k) out x h.wide a) (width_of y at) (h.held x a).0
        (not_done y at)

    unnamed : (row : List ℕ) → further row ≡ true → done row ≡ false → (b : Bool) → named row ≡ b →
        named row ≡ false
    unnamed row f n true e = absurd (false≢true (sym n ∙ none row e f))
    unnamed row f n false e = e

    held_by : (row : List ℕ) → Contains out row ⊎ Contains (rows_between i j rows) row →
        (further row ≡ true) × (after row ≡ true)
    held_by row (inl c) = (more row (h.held row c).0, (h.held row c).1)
    held_by row (inr c) =
        let at = between_from rows i j row c in
        let f : further row ≡ true = subst (λ r. further r ≡ true) at.is (before at.place at.to) in
        let old : Contains rows row =
        subst (Contains rows) at.is (Contains-get_or rows at.place [] at.within) in
        (f, stays.to row (unnamed row f (not_done row at) (named row) refl) old)

    all_by : (row : List ℕ) → further row ≡ true → after row ≡ true → (done row ≡ true) ⊎ (done row ≡ false) →
        Contains (out ++ rows_between i j rows) row
    all_by row f t (inl d) = Contains-append_left out (rows_between i j rows) row (h.all row d t)
    all_by row f t (inr d) =
        Contains-append_right out (rows_between i j rows) row
        (there (stays.from row (unnamed row f d (named row) refl) t))
      where
        there : Contains rows row → Contains (rows_between i j rows) row
        there (m, inside, is) =
            let at : get_or rows m [] ≡ row = get_or_default rows m [] row inside ∙ is in
            let from : i ≤ m = elim (cases_lt m i) [
              | inl low ↦ absurd (true≢false (sym (subst (λ r. done r ≡ true) at (h.before m low)) ∙ d))
              | inr high ↦ high
            ] in
            let to : m < j = elim (cases_lt m j) [
              | inl low ↦ low
              | inr high ↦ absurd (true≢false (sym f ∙
                  subst (λ r. further r ≡ false) at (behind m high inside)))
            ] in
            subst (Contains (rows_between i j rows)) at (between_at rows i j m from to inside)

-- the named row itself is done
pub merged_row : (k : ℕ) (rows : List (List ℕ)) (after : List ℕ → Bool) (out : List (List ℕ)) (row : List ℕ)
    (added : Bool) (place next : ℕ) →
    IsAscending rows → All (λ r. length r ≡ k) rows → length row ≡ k →
    ((r : List ℕ) → after r ≡ true → length r ≡ k) → after row ≡ added →
    (StandsAt rows place row × (next ≡ place + 1)) ⊎ ((StandsAt rows place row → ⊥) × (next ≡ place)) →
    IsMerged k rows after (comes_before false row) out place →
    IsMerged k rows after (comes_before true row) (out ++ cond added (row ∷ []) []) next
merged_row k rows after out row added place next ascending wide long wide_after is_added next_is h = record {
  within = within next_is;
  before = λ j l. before j l next_is;
  behind = λ j l inside. behind j l inside next_is;
  ascending = ascends added;
  wide = All-append (λ r. length r ≡ k) out (cond added (row ∷ []) []) h.wide (one_wide added);
  held = λ r c. held r (Contains-append_cases out (cond added (row ∷ []) []) r c);
  all = all;
}
  where
    within : (StandsAt rows place row × (next ≡ place + 1)) ⊎ ((StandsAt rows place row → ⊥) × (next ≡ place))
        → next ≤ length rows
    within (inl (stands, e)) = omega (arith, stands.within)
    within (inr (not_there, e)) = omega (arith, h.within)

    before : (j : ℕ) → j < next → (StandsAt rows place row × (next ≡ place + 1)) ⊎
        ((StandsAt rows place row → ⊥) × (next ≡ place)) → comes_before true row (get_or rows j []) ≡ true
    before j l (inr (not_there, e)) = up_to_from_below row (get_or rows j []) (h.before j (omega arith))
    before j l (inl (stands, e)) = elim (cases_lt j place) [
      | inl low ↦ up_to_from_below row (get_or rows j []) (h.before j low)
      | inr high ↦ (let same : j ≡ place = omega arith in
          subst (λ m. comes_before true row (get_or rows m []) ≡ true) (sym same)
          (subst (λ r. comes_before true row r ≡ true) (sym stands.is) (up_to_itself row)))
    ]

    width_at : (j : ℕ) → j < length rows → length (get_or rows j []) ≡ length row
    width_at j inside = All-get_or (λ r. length r ≡ k) rows j [] inside wide ∙ sym long

    -- no later row comes up to the named one
    later : (j : ℕ) → place < j → j < length rows → (b : Bool) →
        comes_before true row (get_or rows j []) ≡ b → b ≡ false
    later j l inside false e = refl
    later j l inside true e = absurd (clash (up_to_cases (get_or rows j []) row (width_at j inside) e))
      where
        clash : (comes_before false row (get_or rows j []) ≡ true) ⊎ (get_or rows j [] ≡ row) → ⊥
        clash (inl below) = false≢true (sym (h.behind j (omega arith) inside) ∙ below)
        clash (inr same) =
            let first : place < length rows = omega arith in
            let less : row_cmp (get_or rows place []) row ≡ Less =
            subst (λ r. row_cmp (get_or rows place []) r ≡ Less) same
            (Less-from_sorted row_cmp rows place j [] ascending l inside) in
            false≢true (sym (h.behind place (omega arith) first) ∙
            below_to (get_or rows place []) row (width_at place first) less)

    here : (StandsAt rows place row → ⊥) → place < length rows → (b : Bool) →
        comes_before true row (get_or rows place []) ≡ b → b ≡ false
    here not_there inside false e = refl
    here not_there inside true e =
        absurd (clash (up_to_cases (get_or rows place []) row (width_at place inside) e))
      where
        clash : (comes_before false row (get_or rows place []) ≡ true) ⊎ (get_or rows place [] ≡ row) → ⊥
        clash (inl below) = false≢true (sym (h.behind place (omega arith) inside) ∙ below)
        clash (inr same) = not_there (record { within = inside; is = same })

    behind : (j : ℕ) → next ≤ j → j < length rows → (StandsAt rows place row × (next ≡ place + 1)) ⊎
        ((StandsAt rows place row → ⊥) × (next ≡ place)) → comes_before true row (get_or rows j []) ≡ false
    behind j l inside (inl (stands, e)) =
        later j (omega arith) inside (comes_before true row (get_or rows j [])) refl
    behind j l inside (inr (not_there, e)) = elim (cases_eq j place) [
      | inl same ↦ subst (λ m. comes_before true row (get_or rows m []) ≡ false) (sym same)
          (here not_there (subst (λ m. m < length rows) same inside)
          (comes_before true row (get_or rows place [])) refl)
      | inr other ↦ later j (omega arith) inside (comes_before true row (get_or rows j [])) refl
    ]

    one_wide : (b : Bool) → All (λ r. length r ≡ k) (cond b (row ∷ []) [])
    one_wide true = All-cons (λ r. length r ≡ k) row [] long (All-nil (λ r. length r ≡ k))
    one_wide false = All-nil (λ r. length r ≡ k)

    below_row : (x : List ℕ) → Contains out x → row_cmp x row ≡ Less
    below_row x c = below_from x row (All-contains (λ r. length r ≡ k) out x h.wide c ∙ sym long)
        (h.held x c).0

    ascends : (b : Bool) → IsAscending (out ++ cond b (row ∷ []) [])
    ascends true = ascending_append out (row ∷ []) h.ascending (ascending_one row)
        (λ x y a b. alone x y a (Contains-cons_cases row [] y b))
      where
        alone : (x y : List ℕ) → Contains out x → (row ≡ y) ⊎ Contains [] y → row_cmp x y ≡ Less
        alone x y a (inl same) = subst (λ r. row_cmp x r ≡ Less) same (below_row x a)
        alone x y a (inr no_one) = absurd (Contains-nil y no_one)
    ascends false = subst IsAscending (sym (append-nil out)) h.ascending

    held : (r : List ℕ) → Contains out r ⊎ Contains (cond added (row ∷ []) []) r →
        (comes_before true row r ≡ true) × (after r ≡ true)
    held r (inl c) = (up_to_from_below row r (h.held r c).0, (h.held r c).1)
    held r (inr c) = it added is_added c
      where
        it : (b : Bool) → after row ≡ b → Contains (cond b (row ∷ []) []) r →
            (comes_before true row r ≡ true) × (after r ≡ true)
        it false e none = absurd (Contains-nil r none)
        it true e one = alone (Contains-cons_cases row [] r one)
          where
            alone : (row ≡ r) ⊎ Contains [] r → (comes_before true row r ≡ true) × (after r ≡ true)
            alone (inl same) = (
              subst (λ x. comes_before true row x ≡ true) same (up_to_itself row),
              subst (λ x. after x ≡ true) same e,
            )
            alone (inr no_one) = absurd (Contains-nil r no_one)

    all : (r : List ℕ) → comes_before true row r ≡ true → after r ≡ true →
        Contains (out ++ cond added (row ∷ []) []) r
    all r d t = by_case (up_to_cases r row (wide_after r t ∙ sym long) d)
      where
        it : (b : Bool) → after row ≡ b → r ≡ row → Contains (cond b (row ∷ []) []) r
        it true e same = subst (Contains (row ∷ [])) (sym same) (Contains-cons_first row [])
        it false e same = absurd (false≢true (sym e ∙ subst (λ x. after x ≡ true) same t))

        by_case : (comes_before false row r ≡ true) ⊎ (r ≡ row) → Contains (out ++ cond added (row ∷ []) []) r
        by_case (inl below) = Contains-append_left out (cond added (row ∷ []) []) r (h.all r below t)
        by_case (inr same) = Contains-append_right out (cond added (row ∷ []) []) r (it added is_added same)

-- the rows of a flat list from a place on
drop-rows_of : (k m n : ℕ) (flat : List ℕ) → m ≤ n →
    drop m (rows_of k n flat) ≡ rows_of k (n - m) (drop (m * k) flat)
drop-rows_of k zero n flat l =
    let z : 0 * k ≡ 0 = omega arith in
    let e : n - 0 ≡ n = omega arith in
    rw (z, e) refl
drop-rows_of k (suc m) zero flat l = absurd (omega arith)
drop-rows_of k (suc m) (suc n) flat l =
    let e : suc m * k ≡ k + m * k = grind arith in
    let s : suc n - suc m ≡ n - m = omega arith in
    rw (e, s, ← drop-drop (m * k) k flat) (drop-rows_of k m n (drop k flat) (omega arith))

-- a slice of the flat list has the rows between two places
pub cut_rows : (k n from to : ℕ) (flat : List ℕ) → length flat ≡ k * n → from ≤ to → to ≤ n →
    take (to * k - from * k) (drop (from * k) flat) ≡ flat_map (λ row. row)
    (rows_between from to (rows_of k n flat))
cut_rows k n from to flat whole l m =
    let rest = drop (from * k) flat in
    let size : to * k - from * k ≡ k * (to - from) = grind arith in
    let left : length rest ≡ k * (n - from) = (let d = length-drop (from * k) flat in grind arith) in
    let few : k * (to - from) ≤ k * (n - from) = mul-le-mul_left k (omega arith) in
    let cut : take (to - from) (rows_of k (n - from) rest) ≡ rows_of k (to - from)
    (take (k * (to - from)) rest) = sym (take-rows_of k (to - from) (n - from) rest (omega arith) left) in
    let flat_is : flat_map (λ row. row) (rows_of k (to - from) (take (k * (to - from)) rest)) ≡ take
    (k * (to - from)) rest =
    flat-rows_of k (to - from) (take (k * (to - from)) rest)
    (length-take-le (k * (to - from)) rest (omega arith)) in
    ap (λ x. take x rest) size ∙ sym flat_is ∙ ap (flat_map (λ row. row)) (sym cut) ∙
    ap (λ rs. flat_map (λ row. row) (take (to - from) rs))
    (sym (drop-rows_of k from n flat (omega arith)))

-- a row that is appended if it is added
pub appended_if : (added : Bool) (row : List ℕ) (rows : List (List ℕ)) →
    flat_map (λ r. r) rows ++ cond added row [] ≡ flat_map (λ r. r) (rows ++ cond added (row ∷ []) [])
appended_if true row rows =
    sym (flat_map-append (λ r. r) rows (row ∷ []) ∙ ap (λ w. flat_map (λ r. r) rows ++ w) (append-nil row))
appended_if false row rows =
    append-nil (flat_map (λ r. r) rows) ∙ ap (flat_map (λ r. r)) (sym (append-nil rows))

pub up_to_row : (rows : List (List ℕ)) (row : List ℕ) (added : Bool) (done place next m more count : ℕ)
    (old middle new : List ℕ) → done ≤ place → place ≤ count → count ≡ length rows →
    IsNarrowed (comes_before false row) rows place place →
    middle ≡ old ++ flat_map (λ r. r) (rows_between done place rows) → new ≡ middle ++ cond added row [] →
    m ≡ cond added 1 0 → more ≡ place - done + m → (StandsAt rows place row × (next ≡ place + 1)) ⊎
    ((StandsAt rows place row → ⊥) × (next ≡ place)) →
    AppendsUpTo rows row added done next more old new
up_to_row rows row added done place next m more count old middle new from to many narrowed first second one
    sum next_is = record {
      place = place;
      from = from;
      to = omega arith;
      narrowed = narrowed;
      words_are = second ∙ ap (λ w. w ++ cond added row []) first ∙
          append_assoc old (flat_map (λ r. r) (rows_between done place rows)) (cond added row []) ∙
          ap (λ w. old ++ w) (appended_if added row (rows_between done place rows));
      many = sum ∙ ap (λ n. place - done + n) one;
      next_is = next_is;
    }

-- the next effect's row is beyond the rows that are done
done_below : (args : List ℕ) (k : ℕ) (last : Option (Bor Lifted)) (e : Lifted) (row : List ℕ) →
    IfSome last (λ l. HasRow args k l.now) → HasRow args k e →
    is_done args last (row_under args e) ≡ false → is_done args last row ≡ true →
    comes_before false (row_under args e) row ≡ true
done_below args k None e row hl he past h = absurd (false≢true h)
done_below args k (Some last) e row hl he past h =
    up_to_trans (row_under args last.now) (row_under args e) row (row_wide args k last.now hl ∙
    sym (row_wide args k e he)) h past

lower_done : (args : List ℕ) (k : ℕ) (last : Option (Bor Lifted)) → IfSome last (λ l. HasRow args k l.now) →
    IsLower k (is_done args last)
lower_done args k None h = lower_none k
lower_done args k (Some last) h = lower_up_to k (row_under args last.now) (row_wide args k last.now h)

named_parts : (args : List ℕ) (p : ℕ) (deletes adds : List Lifted) (row : List ℕ) →
    is_named args p (deletes ++ adds) row ≡ (is_named args p deletes row || is_named args p adds row)
named_parts args p deletes adds row =
    ap (λ (l : List Atom). list_any (is_same (atom_of p row)) l) (map-append (atom_at args) deletes adds) ∙
    list_any-append (is_same (atom_of p row)) (map (atom_at args) deletes) (map (atom_at args) adds)

-- what effects don't name stays, and what they name is there just where it is added
pub kept_bits : (a r d : Bool) → a ≡ false → d ≡ false → (a || (r && not d)) ≡ r
kept_bits true r d h k = absurd (true≢false h)
kept_bits false true true h k = absurd (true≢false k)
kept_bits false true false h k = refl
kept_bits false false d h k = refl

after_unnamed : (args : List ℕ) (p : ℕ) (deletes adds : List Lifted) (rows : List (List ℕ)) (row : List ℕ) →
    is_named args p (deletes ++ adds) row ≡ false →
    is_row_after args p deletes adds rows row ≡ list_any (bytes_eq row) rows
after_unnamed args p deletes adds rows row h =
    let parts = or_parts (is_named args p deletes row) (is_named args p adds row)
    (sym (named_parts args p deletes adds row) ∙ h) in
    kept_bits (is_named args p adds row) (list_any (bytes_eq row) rows) (is_named args p deletes row) parts.1
    parts.0

pub stays : (args : List ℕ) (p : ℕ) (deletes adds : List Lifted) (rows : List (List ℕ)) →
    Stays rows (is_row_after args p deletes adds rows) (is_named args p (deletes ++ adds))
stays args p deletes adds rows = record {
  to = λ row n c. after_unnamed args p deletes adds rows row n ∙ (among_rows rows row).1 c;
  from = λ row n t. (among_rows rows row).0 (sym (after_unnamed args p deletes adds rows row n) ∙ t);
}

named_bits : (a r d : Bool) → (d || a) ≡ true → (a || (r && not d)) ≡ a
named_bits true r d h = refl
named_bits false true true h = refl
named_bits false false true h = refl
named_bits false r false h = absurd (false≢true h)

after_named : (args : List ℕ) (p : ℕ) (deletes adds : List Lifted) (rows : List (List ℕ)) (row : List ℕ) →
    is_named args p (deletes ++ adds) row ≡ true →
    is_row_after args p deletes adds rows row ≡ is_named args p adds row
after_named args p deletes adds rows row h =
    named_bits (is_named args p adds row) (list_any (bytes_eq row) rows) (is_named args p deletes row)
    (sym (named_parts args p deletes adds row) ∙ h)

-- a row that an effect names has the width
named_wide : (args : List ℕ) (p k : ℕ) (effects : List Lifted) (row : List ℕ) →
    All (λ (e : Lifted). e.predicate ≡ p → HasRow args k e) effects → is_named args p effects row ≡ true →
    length row ≡ k
named_wide args p k effects row all h =
    let (i, within, is) = (state_of-members (map (atom_at args) effects) (atom_of p row)).0 h in
    let inside : i < length effects = (let l = length-map effects (atom_at args) in omega arith) in
    from_effect i inside is
  where
    from_effect : (i : ℕ) → i < length effects →
        get_or (map (atom_at args) effects) i (atom_of p row) ≡ atom_of p row → length row ≡ k
    from_effect i inside is =
        let e = first_of effects i inside in
        let same : atom_at args e.0 ≡ atom_of p row =
        sym (get_or-map (atom_at args) effects i e.0 (atom_of p row) inside ∙ ap (atom_at args) e.1) ∙
        is in
        let has : HasRow args k e.0 =
        subst (λ (x : Lifted). x.predicate ≡ p → HasRow args k x) e.1
        (All-get_or (λ (x : Lifted). x.predicate ≡ p → HasRow args k x) effects i e.0 inside all)
        (ap (λ (a : Atom). a.predicate) same) in
        sym (ap length (ap (λ (a : Atom). a.objects) same)) ∙ row_wide args k e.0 has
      where
        first_of : (xs : List Lifted) (j : ℕ) → j < length xs → (x : Lifted) × (get_or xs j x ≡ x)
        first_of [] j l = absurd (omega arith)
        first_of (x ∷ xs) zero l = (x, refl)
        first_of (x ∷ xs) (suc j) l = first_of xs j (omega arith)

or_cases : (a b : Bool) → (a || b) ≡ true → (a ≡ true) ⊎ (b ≡ true)
or_cases true b h = inl refl
or_cases false b h = inr h

and_first : (a b : Bool) → (a && b) ≡ true → a ≡ true
and_first true b h = refl
and_first false b h = h

pub after_wide : (args : List ℕ) (p k : ℕ) (deletes adds : List Lifted) (rows : List (List ℕ)) →
    All (λ (e : Lifted). e.predicate ≡ p → HasRow args k e) adds → All (λ row. length row ≡ k) rows →
    (row : List ℕ) → is_row_after args p deletes adds rows row ≡ true → length row ≡ k
after_wide args p k deletes adds rows has wide row t =
    by_case (or_cases (is_named args p adds row)
    (list_any (bytes_eq row) rows && not (is_named args p deletes row)) t)
  where
    by_case : (is_named args p adds row ≡ true) ⊎
        ((list_any (bytes_eq row) rows && not (is_named args p deletes row)) ≡ true) → length row ≡ k
    by_case (inl named) = named_wide args p k adds row has named
    by_case (inr old) = All-contains (λ r. length r ≡ k) rows row wide
        ((among_rows rows row).0
        (and_first (list_any (bytes_eq row) rows) (not (is_named args p deletes row)) old))

-- the merge is under way
pub record IsUnderWay (args : List ℕ) (p k : ℕ) (deletes adds : List Lifted) (rows : List (List ℕ))
    (last : Option (Bor Lifted)) (done many : ℕ) (old new : List ℕ) : Type 0 where
  pub out : List (List ℕ)
  pub words_are : new ≡ old ++ flat_map (λ row. row) out
  pub many_are : many ≡ length out
  pub last_row : IfSome last (λ l. HasRow args k l.now)
  pub merged : IsMerged k rows (is_row_after args p deletes adds rows) (is_done args last) out done

pub under_way_none : (args : List ℕ) (p k : ℕ) (deletes adds : List Lifted) (rows : List (List ℕ))
    (old : List ℕ) → IsUnderWay args p k deletes adds rows None 0 0 old old
under_way_none args p k deletes adds rows old = record {
  out = [];
  words_are = sym (append-nil old);
  many_are = refl;
  last_row = tt;
  merged = merged_none k rows (is_row_after args p deletes adds rows);
}

-- the rows that are done are below the next effect's
pub under_way_narrowed : (args : List ℕ) (p k count : ℕ) (deletes adds : List Lifted) (rows : List (List ℕ))
    (last : Option (Bor Lifted)) (done many : ℕ) (old new : List ℕ) (e : Lifted) →
    count ≡ length rows → HasRow args k e → IsUnderWay args p k deletes adds rows last done many old new →
    IsNextNamed args p (is_done args last) (deletes ++ adds) e →
    IsNarrowed (comes_before false (row_under args e)) rows done count
under_way_narrowed args p k count deletes adds rows last done many old new e len has h next = record {
  before = λ i l. done_below args k last e (get_or rows i []) h.last_row has next.past (h.merged.before i l);
  after = λ i l m. absurd (omega arith);
}

pub under_way_more : (args : List ℕ) (p k : ℕ) (deletes adds : List Lifted) (rows : List (List ℕ))
    (last : Option (Bor Lifted)) (done many next more : ℕ) (old now new : List ℕ) (e : Bor Lifted)
    (row : List ℕ) (added : Bool) →
    IsAscending rows → All (λ r. length r ≡ k) rows →
    All (λ (x : Lifted). x.predicate ≡ p → HasRow args k x) adds → HasRow args k e.now →
    row ≡ row_under args e.now → added ≡ is_named args p adds row →
    IsUnderWay args p k deletes adds rows last done many old now →
    IsNextNamed args p (is_done args last) (deletes ++ adds) e.now →
    AppendsUpTo rows row added done next more now new →
    IsUnderWay args p k deletes adds rows (Some e) next (many + more) old new
under_way_more args p k deletes adds rows last done many next more old now new e row added ascending wide
    has_adds has is is_added h named step = record {
      out = (h.out ++ rows_between done step.place rows) ++ cond added (row ∷ []) [];
      words_are = words;
      many_are = counted;
      last_row = has;
      merged = subst (λ r. IsMerged k rows after (comes_before true r)
          ((h.out ++ rows_between done step.place rows) ++ cond added (row ∷ []) []) next) is at_row;
    }
  where
    after : List ℕ → Bool
    after = is_row_after args p deletes adds rows

    long : length row ≡ k
    long = ap length is ∙ row_wide args k e.now has

    further : IsMerged k rows after (comes_before false row) (h.out ++ rows_between done step.place rows)
        step.place
    further = merged_gap k rows after (is_done args last) (comes_before false row)
        (is_named args p (deletes ++ adds)) h.out done step.place ascending wide
        (lower_done args k last h.last_row)
        (stays args p deletes adds rows)
        (λ x d. subst (λ r. comes_before false r x ≡ true) (sym is)
        (done_below args k last e.now x h.last_row has named.past d))
        none step.from step.to (λ m l. step.narrowed.before m l) (λ m l w. step.narrowed.after m l w) h.merged
      where
        none : (x : List ℕ) → is_named args p (deletes ++ adds) x ≡ true → comes_before false row x ≡ true →
            is_done args last x ≡ true
        none x n c = by_case (cases_Bool (is_done args last x))
          where
            by_case : (is_done args last x ≡ true) ⊎ (is_done args last x ≡ false) →
                is_done args last x ≡ true
            by_case (inl d) = d
            by_case (inr d) = absurd
                (false≢true (sym (subst (λ r. comes_before false r x ≡ false) (sym is) (named.least x n d)) ∙
                c))

    is_after : after row ≡ added
    is_after = after_named args p deletes adds rows row
        (subst (λ r. is_named args p (deletes ++ adds) r ≡ true) (sym is)
        (named_held args p (deletes ++ adds) e.now named.held named.of_predicate)) ∙ sym is_added

    at_row : IsMerged k rows after (comes_before true row)
        ((h.out ++ rows_between done step.place rows) ++ cond added (row ∷ []) []) next
    at_row = merged_row k rows after (h.out ++ rows_between done step.place rows) row added step.place next
        ascending wide long (after_wide args p k deletes adds rows has_adds wide) is_after step.next_is
        further

    words : new ≡ old ++ flat_map (λ r. r)
        ((h.out ++ rows_between done step.place rows) ++ cond added (row ∷ []) [])
    words = step.words_are ∙
        ap (λ w. w ++ flat_map (λ r. r) (rows_between done step.place rows ++ cond added (row ∷ []) []))
        h.words_are ∙
        append_assoc old (flat_map (λ r. r) h.out)
        (flat_map (λ r. r) (rows_between done step.place rows ++ cond added (row ∷ []) [])) ∙
        ap (λ w. old ++ w) (sym
        (flat_map-append (λ r. r) h.out (rows_between done step.place rows ++ cond added (row ∷ []) [])) ∙
        ap (flat_map (λ r. r))
        (sym (append_assoc h.out (rows_between done step.place rows) (cond added (row ∷ []) []))))

    one : (b : Bool) → length (cond b (row ∷ []) []) ≡ cond b 1 0
    one true = refl
    one false = refl

    counted : many + more ≡ length ((h.out ++ rows_between done step.place rows) ++ cond added (row ∷ []) [])
    counted =
        let a = length-append (h.out ++ rows_between done step.place rows) (cond added (row ∷ []) []) in
        let b = length-append h.out (rows_between done step.place rows) in
        let t = length-take (step.place - done) (drop done rows) in
        let d = length-drop done rows in
        let o = one added in
        omega (arith, h.many_are, step.many, step.from, step.to)

-- where there is no next effect, all named rows are done
pub next_over : (args : List ℕ) (p : ℕ) (done : List ℕ → Bool) (effects : List Lifted)
    (next : Option (Bor Lifted)) → ((x : Bor Lifted) → next ≡ Some x → ⊥) → IsNext args p done effects next →
    (row : List ℕ) → is_named args p effects row ≡ true → done row ≡ true
next_over args p done effects None none h = h
next_over args p done effects (Some x) none h = absurd (none x refl)

-- the merge is over
pub under_way_all : (args : List ℕ) (p k count : ℕ) (deletes adds : List Lifted) (rows : List (List ℕ))
    (last : Option (Bor Lifted)) (done many total : ℕ) (old now new : List ℕ) →
    IsAscending rows → All (λ r. length r ≡ k) rows → count ≡ length rows →
    IsUnderWay args p k deletes adds rows last done many old now →
    ((row : List ℕ) → is_named args p (deletes ++ adds) row ≡ true → is_done args last row ≡ true) →
    new ≡ now ++ flat_map (λ row. row) (rows_between done count rows) →
    total ≡ many + (count - done) → AppendsRows args p k deletes adds rows total old new
under_way_all args p k count deletes adds rows last done many total old now new ascending wide len h none
    words sum = record {
      after = h.out ++ rows_between done count rows;
      words_are = words ∙ ap (λ w. w ++ flat_map (λ r. r) (rows_between done count rows)) h.words_are ∙
          append_assoc old (flat_map (λ r. r) h.out) (flat_map (λ r. r) (rows_between done count rows)) ∙
          ap (λ w. old ++ w) (sym (flat_map-append (λ r. r) h.out (rows_between done count rows)));
      many = counted;
      ascending = whole.ascending;
      wide = whole.wide;
      members = λ row. ((λ c. (whole.held row c).1), (λ t. whole.all row refl t));
    }
  where
    after : List ℕ → Bool
    after = is_row_after args p deletes adds rows

    whole : IsMerged k rows after (λ _. true) (h.out ++ rows_between done count rows) count
    whole = merged_gap k rows after (is_done args last) (λ _. true) (is_named args p (deletes ++ adds)) h.out
        done count ascending wide (lower_done args k last h.last_row)
        (stays args p deletes adds rows) (λ x d. refl) (λ x n c. none x n) (let w = h.merged.within in
        omega arith) (omega arith) (λ m l. refl) (λ m l w. absurd (omega arith)) h.merged

    counted : total ≡ length (h.out ++ rows_between done count rows)
    counted =
        let b = length-append h.out (rows_between done count rows) in
        let t = length-take (count - done) (drop done rows) in
        let d = length-drop done rows in
        let w = h.merged.within in
        omega (arith, h.many_are)

-- how many effects on the predicate have rows that are not done
abbrev pub is_left : List ℕ → ℕ → (List ℕ → Bool) → Lifted → Bool
is_left args p done e = nat_eq e.predicate p && not (done (row_under args e))

cond_le : (a b : Bool) → (a ≡ true → b ≡ true) → cond a 1 0 ≤ cond b 1 0
cond_le true b h = rw (h refl) (omega arith)
cond_le false b h = omega arith

count_le : {X : Type 0} (q r : X → Bool) (xs : List X) → ((y : X) → r y ≡ true → q y ≡ true) →
    count_by r xs ≤ count_by q xs
count_le q r [] h = omega arith
count_le q r (y ∷ xs) h =
    let rest : count_by r xs ≤ count_by q xs = count_le q r xs h in
    let first : cond {A = ℕ} (r y) 1 0 ≤ cond {A = ℕ} (q y) 1 0 = cond_le (r y) (q y) (h y) in
    omega (arith, sum_by-cons (λ z. cond (r z) 1 0) y xs, sum_by-cons (λ z. cond (q z) 1 0) y xs)

count_less : {X : Type 0} (q r : X → Bool) (xs : List X) (x : X) → ((y : X) → r y ≡ true → q y ≡ true) →
    Contains xs x → q x ≡ true → r x ≡ false → count_by r xs < count_by q xs
count_less q r [] x h (k, l, e) t f = absurd (omega arith)
count_less q r (y ∷ xs) x h (zero, l, e) t f =
    let qy : cond {A = ℕ} (q y) 1 0 ≡ 1 = ap (λ b. cond {A = ℕ} b 1 0) (ap q e ∙ t) in
    let ry : cond {A = ℕ} (r y) 1 0 ≡ 0 = ap (λ b. cond {A = ℕ} b 1 0) (ap r e ∙ f) in
    let rest : count_by r xs ≤ count_by q xs = count_le q r xs h in
    omega (arith, sum_by-cons (λ z. cond (r z) 1 0) y xs, sum_by-cons (λ z. cond (q z) 1 0) y xs)
count_less q r (y ∷ xs) x h (suc k, l, e) t f =
    let rest : count_by r xs < count_by q xs = count_less q r xs x h (k, omega arith, e) t f in
    let first : cond {A = ℕ} (r y) 1 0 ≤ cond {A = ℕ} (q y) 1 0 = cond_le (r y) (q y) (h y) in
    omega (arith, sum_by-cons (λ z. cond (r z) 1 0) y xs, sum_by-cons (λ z. cond (q z) 1 0) y xs)

not_true : (b : Bool) → b ≡ false → not b ≡ true
not_true true h = sym h
not_true false h = refl

done_from_left : (b d : Bool) → (b && not d) ≡ true → d ≡ false
done_from_left true true h = sym h
done_from_left true false h = refl
done_from_left false d h = absurd (false≢true h)

-- each effect that is merged leaves fewer
pub left_less : (args : List ℕ) (p k : ℕ) (effects : List Lifted) (last : Option (Bor Lifted))
    (e : Bor Lifted) → IfSome last (λ l. HasRow args k l.now) → HasRow args k e.now →
    IsNextNamed args p (is_done args last) effects e.now →
    count_by (is_left args p (is_done args (Some e))) effects < count_by (is_left args p (is_done args last))
    effects
left_less args p k effects last e hl he next =
    count_less (is_left args p (is_done args last)) (is_left args p (is_done args (Some e))) effects e.now
    further next.held
    (and_from (nat_eq e.now.predicate p) (not (is_done args last (row_under args e.now)))
    (eq-eqb e.now.predicate p next.of_predicate)
    (not_true (is_done args last (row_under args e.now)) next.past))
    (itself (nat_eq e.now.predicate p) (is_done args (Some e) (row_under args e.now))
    (up_to_itself (row_under args e.now)))
  where
    itself : (b d : Bool) → d ≡ true → (b && not d) ≡ false
    itself true d h = ap not h
    itself false d h = refl

    further : (x : Lifted) → is_left args p (is_done args (Some e)) x ≡ true →
        is_left args p (is_done args last) x ≡ true
    further x t = and_from (nat_eq x.predicate p) (not (is_done args last (row_under args x)))
        (and_first (nat_eq x.predicate p) (not (is_done args (Some e) (row_under args x))) t)
        (by_case (cases_Bool (is_done args last (row_under args x))))
      where
        by_case : (is_done args last (row_under args x) ≡ true) ⊎
            (is_done args last (row_under args x) ≡ false) → not (is_done args last (row_under args x)) ≡ true
        by_case (inr d) = not_true (is_done args last (row_under args x)) d
        by_case (inl d) = absurd
            (false≢true (sym (done_from_left (nat_eq x.predicate p) (is_done args (Some e) (row_under args x))
            t) ∙
            up_to_from_below (row_under args e.now) (row_under args x)
            (done_below args k last e.now (row_under args x) hl he next.past d)))
