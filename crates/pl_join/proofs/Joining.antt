-- The rows that a join makes, and the assignments that they stand for.
use Rattle.std.proofs.Common.{◌≡◌, ◌+◌, ◌-◌, ◌*◌, ◌/◌, ◌<◌, ◌≤◌, ◌≢◌, ◌==◌, ℕ, suc, Bool, true, false, List}
use Rattle.std.proofs.Common.{[], ◌∷◌, ◌++◌, length, map, filter, take, drop, get_or, slice_get, slice_range}
use Rattle.std.proofs.Common.{Some, All, Contains, refl, sym, ap, ◌∙◌, subst, inl, inr, not, slice_index}
use Rattle.std.proofs.Common.{Result, IfOk, arith}
use Rattle.std.specs.List.{flat_map, concat}
use Rattle.std.proofs.lemmas.Bool.{cases_Bool}
use Rattle.std.proofs.lemmas.List.{length-append, length-map, length-drop, take-append-drop, take_at, drop_at}
use Rattle.std.proofs.lemmas.List.{map-append, append_assoc, append-nil, take_more, map_push, get_or-drop}
use Rattle.std.proofs.lemmas.List.{nil_from_length}
use Rattle.std.proofs.lemmas.List.Concat.{flat_map-append}
use Rattle.std.proofs.lemmas.List.Elements.{All-nil, All-head, All-tail, All-append, All-map, All-contains}
use Rattle.std.proofs.lemmas.List.Elements.{All-weaker, All-filter}
use Rattle.std.proofs.lemmas.List.Folds.{concat-append}
use Rattle.std.proofs.lemmas.Option.{slice_get_within, get_or_from_slice_get}
use Rattle.std.proofs.lemmas.Slice.Eq.{bytes_eq-Decides}
use Rattle.std.proofs.Math.Nat.{mul-div_cancel_left}
use Rattle.std.specs.declared.alloc.AllocError.{AllocError}
use Rattle.std.proofs.lemmas.Result.{IfOk-weaker}
use Rattle.pl_rows.specs.Rows.{Rows, IndexedRows, SameRows, rows_of, begins_with}
use Rattle.pl_join.specs.Relation.{ClassRows, Assignment, AreDistinct, has_class, IsRelation, Holds, IsJoinOf}
use Rattle.pl_join.specs.Relation.{IsProjectionOf, without}
use Rattle.pl_join.specs.Source.{picked, glued, joined_with, shared_with}
use Rattle.std.proofs.lemmas.Bool.{false≢true}
use Rattle.std.proofs.lemmas.Bool.Decides.{Decides-eqb}
use Rattle.std.proofs.lemmas.List.Elements.{Contains-append_left, Contains-append_right, Contains-get_or}
use Rattle.std.proofs.lemmas.List.Elements.{All-contains_itself}
use Rattle.std.proofs.lemmas.List.Quantifiers.{all_pairs_push}
use Rattle.std.proofs.lemmas.List.Kept.{AllPairs-cons, AllPairs-filter}
use Rattle.pl_rows.proofs.Canonical.{Contains-nil, Contains-cons_first, Contains-cons_rest}
use Rattle.pl_join.proofs.Assignments.{map_agree, rest_distinct, few_classes, held_below}
use Rattle.pl_join.proofs.Members.{Contains-map, Contains-from_map, Contains-filter, Contains-from_filter}
use Rattle.pl_join.proofs.Members.{Contains-flat_map, Contains-from_flat_map, has_class-Contains}

-- the rows that lie one after another are got back
pub rows_of-concat : (arity : ℕ) (rows : List (List ℕ)) → All (λ row. length row ≡ arity) rows
    → rows_of arity (length rows) (concat rows) ≡ rows
rows_of-concat arity [] wide = refl
rows_of-concat arity (row ∷ rows) wide =
    let first : length row ≡ arity = All-head (λ r. length r ≡ arity) row rows wide in
    let rest : rows_of arity (length rows) (concat rows) ≡ rows =
    rows_of-concat arity rows (All-tail (λ r. length r ≡ arity) row rows wide) in
    rw (take_at row (concat rows) arity first, drop_at row (concat rows) arity first, rest) refl

pub length-concat : (arity : ℕ) (rows : List (List ℕ)) → All (λ row. length row ≡ arity) rows
    → length (concat rows) ≡ arity * length rows
length-concat arity [] wide = omega arith
length-concat arity (row ∷ rows) wide =
    let first : length row ≡ arity = All-head (λ r. length r ≡ arity) row rows wide in
    let rest : length (concat rows) ≡ arity * length rows = length-concat arity rows
    (All-tail (λ r. length r ≡ arity) row rows wide) in
    let e : arity * suc (length rows) ≡ arity + arity * length rows = grind arith in
    omega (arith, length-append row (concat rows))

-- one place more of a range
pub range_more : (rows : List (List ℕ)) (from place : ℕ) (row : List ℕ) → from ≤ place
    → slice_get rows place ≡ Some row → slice_range rows from (place + 1) ≡ slice_range rows from place
    ++ row ∷ []
range_more rows from place row l at =
    let within : place < length rows = slice_get_within rows place row at in
    let here : get_or rows place row ≡ row = get_or_from_slice_get rows place row row at in
    let count : place + 1 - from ≡ place - from + 1 = omega arith in
    let there : get_or (drop from rows) (place - from) row ≡ row =
    rw (get_or-drop from rows (place - from) row)
    (let e : from + (place - from) ≡ place = omega arith in rw e here) in
    rw count (take_more (drop from rows) (place - from) row (omega (arith, length-drop from rows))
    ∙ ap (λ r. take (place - from) (drop from rows) ++ r ∷ []) there)

-- what is appended for one place more
pub appended_more : (F : List ℕ → List ℕ) (rows : List (List ℕ)) (from place : ℕ) (start flat row : List ℕ)
    → from ≤ place → slice_get rows place ≡ Some row → flat ≡ start
    ++ concat (map F (slice_range rows from place)) → flat ++ F row ≡ start
    ++ concat (map F (slice_range rows from (place + 1)))
appended_more F rows from place start flat row l at so_far =
    let range = range_more rows from place row l at in
    let tail : concat (F row ∷ []) ≡ F row = append-nil (F row) in
    let step : concat (map F (slice_range rows from (place + 1))) ≡ concat
    (map F (slice_range rows from place)) ++ F row =
    ap (λ rows. concat (map F rows)) range ∙ ap concat (map_push F (slice_range rows from place) row)
    ∙ concat-append (map F (slice_range rows from place)) (F row ∷ [])
    ∙ ap (λ t. concat (map F (slice_range rows from place)) ++ t) tail in
    ap (λ xs. xs ++ F row) so_far ∙ append_assoc start (concat (map F (slice_range rows from place))) (F row)
    ∙ ap (λ t. start ++ t) (sym step)

pub appended_none : (F : List ℕ → List ℕ) (rows : List (List ℕ)) (from : ℕ) (start : List ℕ) → start ≡ start
    ++ concat (map F (slice_range rows from from))
appended_none F rows from start = let e : from - from ≡ 0 = omega arith in rw e (sym (append-nil start))

-- the rows that join one row more
pub joined_more : (others : List (List ℕ)) (columns : List ℕ) (left : List (List ℕ)) (i width : ℕ)
    (row key flat new : List ℕ) (found : List (List ℕ)) → slice_get left i ≡ Some row
    → key ≡ picked columns row → width ≡ length columns → found ≡ filter (begins_with key) others
    → flat ≡ concat (flat_map (joined_with others columns) (take i left)) → new ≡ flat
    ++ concat (map (glued width row) found)
    → new ≡ concat (flat_map (joined_with others columns) (take (i + 1) left))
joined_more others columns left i width row key flat new found at ek ew ef so_far en =
    let within : i < length left = slice_get_within left i row at in
    let here : get_or left i row ≡ row = get_or_from_slice_get left i row row at in
    let more : take (i + 1) left ≡ take i left ++ row ∷ [] = take_more left i row within
    ∙ ap (λ r. take i left ++ r ∷ []) here in
    let last : flat_map (joined_with others columns) (row ∷ []) ≡ joined_with others columns row =
    append-nil (joined_with others columns row) in
    let made : map (glued width row) found ≡ joined_with others columns row = rw (ew, ef, ek) refl in
    let step : flat_map (joined_with others columns) (take (i + 1) left) ≡ flat_map
    (joined_with others columns) (take i left) ++ joined_with others columns row =
    ap (flat_map (joined_with others columns)) more ∙ flat_map-append (joined_with others columns)
    (take i left) (row ∷ [])
    ∙ ap (λ t. flat_map (joined_with others columns) (take i left) ++ t) last in
    en ∙ ap (λ xs. xs ++ concat (map (glued width row) found)) so_far
    ∙ ap (λ t. concat (flat_map (joined_with others columns) (take i left)) ++ concat t) made
    ∙ sym (ap concat step ∙ concat-append (flat_map (joined_with others columns) (take i left))
    (joined_with others columns row))

-- each joined row has the two widths, without the key's
pub width-joined : (others : List (List ℕ)) (columns : List ℕ) (left : List (List ℕ)) (m n : ℕ)
    → All (λ row. length row ≡ m) left → All (λ row. length row ≡ n) others
    → All (λ row. length row ≡ m + (n - length columns)) (flat_map (joined_with others columns) left)
width-joined others columns [] m n wide deep = All-nil (λ row. length row ≡ m + (n - length columns))
width-joined others columns (row ∷ left) m n wide deep =
    let first : length row ≡ m = All-head (λ r. length r ≡ m) row left wide in
    let here : All (λ r. length r ≡ m + (n - length columns)) (joined_with others columns row) =
    All-map (λ r. length r ≡ m + (n - length columns)) (glued (length columns) row)
    (filter (begins_with (picked columns row)) others)
    (All-weaker (λ r. length r ≡ n) (λ r. length (glued (length columns) row r) ≡ m + (n - length columns))
    (λ r h. omega (
      arith,
      length-append row (drop (length columns) r),
      length-drop (length columns) r,
      first,
      h,
    )) (filter (begins_with (picked columns row)) others)
    (All-filter (begins_with (picked columns row)) (λ r. length r ≡ n) others deep)) in
    All-append (λ r. length r ≡ m + (n - length columns)) (joined_with others columns row)
    (flat_map (joined_with others columns) left) here
    (width-joined others columns left m n (All-tail (λ r. length r ≡ m) row left wide) deep)

-- how many rows there are, by how many values
pub count_by_length : (arity flat rows : ℕ) → 0 < arity → flat ≡ arity * rows → flat / arity ≡ rows
count_by_length arity flat rows some e = rw e (mul-div_cancel_left rows some)

-- each class is shared or not
class_placed : (classes others : List ℕ) (c : ℕ) → Contains classes c
    → Contains (shared_with classes others ++ without classes others) c
class_placed classes others c h = elim (cases_Bool (has_class others c)) [
  | inl y ↦ Contains-append_left (shared_with classes others) (without classes others) c
      (Contains-filter (λ k. has_class others k) classes c h y)
  | inr n ↦ Contains-append_right (shared_with classes others) (without classes others) c
      (Contains-filter (λ k. not (has_class others k)) classes c h (rw n refl))
]

-- the classes of the arranged rows are those of the relation
pub arranged_held : (classes others : List ℕ) → All (Contains classes)
    (shared_with classes others ++ without classes others)
arranged_held classes others =
    All-append (Contains classes) (shared_with classes others) (without classes others)
    (All-filter (λ k. has_class others k) (Contains classes) classes (All-contains_itself classes))
    (All-filter (λ k. not (has_class others k)) (Contains classes) classes (All-contains_itself classes))

-- two lists of distinct classes that share none
pub distinct_append : (xs ys : List ℕ) → AreDistinct xs → AreDistinct ys
    → ((c : ℕ) → Contains xs c → Contains ys c → ⊥) → AreDistinct (xs ++ ys)
distinct_append [] ys d e apart = e
distinct_append (x ∷ xs) ys d e apart =
    let first : All (λ b. x ≢ b) (xs ++ ys) = All-append (λ b. x ≢ b) xs ys
    (λ k b l. d 0 (suc k) b (omega arith) (omega arith))
    (λ k b l s. apart x (Contains-cons_first x xs)
    (subst (Contains ys) (sym s) (Contains-get_or ys k b l))) in
    AllPairs-cons (λ a b. a ≢ b) x (xs ++ ys) first
    (distinct_append xs ys (rest_distinct x xs d) e (λ c h m. apart c (Contains-cons_rest x xs c h) m))

-- what is shared is not what is not
shared_or_not : (classes others : List ℕ) (c : ℕ) → Contains others c → Contains (without classes others) c
    → ⊥
shared_or_not classes others c h m =
    let (held, t) = Contains-from_filter (λ k. not (has_class others k)) classes c m in
    let y : has_class others c ≡ true = (has_class-Contains others c).1 h in
    false≢true (rw y at t)

pub arranged_distinct : (classes others : List ℕ) → AreDistinct classes
    → AreDistinct (shared_with classes others ++ without classes others)
arranged_distinct classes others d =
    distinct_append (shared_with classes others) (without classes others)
    (AllPairs-filter (λ a b. a ≢ b) (λ k. has_class others k) classes d)
    (AllPairs-filter (λ a b. a ≢ b) (λ k. not (has_class others k)) classes d)
    (λ c h m. shared_or_not classes others c
    ((has_class-Contains others c).0 (Contains-from_filter (λ k. has_class others k) classes c h).1) m)

pub joined_distinct : (classes others : List ℕ) → AreDistinct classes → AreDistinct others
    → AreDistinct (others ++ without classes others)
joined_distinct classes others d e =
    distinct_append others (without classes others) e
    (AllPairs-filter (λ a b. a ≢ b) (λ k. not (has_class others k)) classes d)
    (λ c h m. shared_or_not classes others c h m)

-- two lists that are put together of parts of one length have the same parts
pub same_parts : (xs xs' ys ys' : List ℕ) → length xs ≡ length xs' → xs ++ ys ≡ xs' ++ ys' → (xs ≡ xs')
    × (ys ≡ ys')
same_parts xs xs' ys ys' l e = (
  sym (take_at xs ys (length xs) refl) ∙ ap (take (length xs)) e ∙ take_at xs' ys' (length xs) (sym l),
  sym (drop_at xs ys (length xs) refl) ∙ ap (drop (length xs)) e ∙ drop_at xs' ys' (length xs) (sym l),
)

-- the rows that were put together are the join
pub joined : (left right : ClassRows) (columns : List ℕ) (others out : List (List ℕ)) → IsRelation left
    → length columns ≡ length (shared_with right.classes left.classes)
    → ((f : Assignment) → picked columns (map f left.classes) ≡ map f
    (shared_with right.classes left.classes)) → IsProjectionOf right
    (record {
      classes = shared_with right.classes left.classes
          ++ without right.classes left.classes;
      rows = others;
    })
    → SameRows out (flat_map (joined_with others columns) left.rows)
    → IsJoinOf left right
    (record { classes = left.classes ++ without right.classes left.classes; rows = out })
joined left right columns others out is len picks projects same f = (forth, back)
  where
    forth : Contains out (map f (left.classes ++ without right.classes left.classes)) → Holds left f
        × Holds right f
    forth h =
        let y : List ℕ = map f (left.classes ++ without right.classes left.classes) in
        let (l, in_left, m) = Contains-from_flat_map (joined_with others columns) left.rows y
        ((same y).0 h) in
        let (r, chosen, e) = Contains-from_map (glued (length columns) l)
        (filter (begins_with (picked columns l)) others) y m in
        let (in_others, begins) = Contains-from_filter (begins_with (picked columns l)) others r chosen in
        let wide : length l ≡ length left.classes = All-contains (λ row. length row ≡ length left.classes)
        left.rows l is.rows.width in_left in
        let whole : l ++ drop (length columns) r ≡ map f left.classes
        ++ map f (without right.classes left.classes) = e
        ∙ map-append f left.classes (without right.classes left.classes) in
        let (l_is, r_is) = same_parts l (map f left.classes) (drop (length columns) r)
        (map f (without right.classes left.classes)) (wide ∙ sym (length-map left.classes f)) whole in
        let key : picked columns l ≡ map f (shared_with right.classes left.classes) = ap (picked columns) l_is
        ∙ picks f in
        let front : take (length columns) r ≡ map f (shared_with right.classes left.classes) =
        ap (λ n. take n r) (sym (length-map columns (slice_index l)))
        ∙ (bytes_eq-Decides (take (length (picked columns l)) r) (picked columns l)).0 begins ∙ key in
        let row : r ≡ map f (shared_with right.classes left.classes ++ without right.classes left.classes) =
        sym (take-append-drop (length columns) r) ∙ ap (λ t. t ++ drop (length columns) r) front
        ∙ ap (λ t. map f (shared_with right.classes left.classes) ++ t) r_is
        ∙ sym (map-append f (shared_with right.classes left.classes) (without right.classes left.classes)) in
        let (g, in_right, agree) = (projects f).0 (subst (Contains others) row in_others) in (
          subst (Contains left.rows) l_is in_left,
          subst (Contains right.rows)
              (sym (map_agree right.classes f g
              (λ c k. agree c (class_placed right.classes left.classes c k)))) in_right,
        )

    back : Holds left f × Holds right f
        → Contains out (map f (left.classes ++ without right.classes left.classes))
    back (in_left, in_right) =
        let l : List ℕ = map f left.classes in
        let r : List ℕ = map f (shared_with right.classes left.classes
        ++ without right.classes left.classes) in
        let y : List ℕ = map f (left.classes ++ without right.classes left.classes) in
        let in_others : Contains others r = (projects f).1 (f, in_right, λ c m. refl) in
        let parts : r ≡ map f (shared_with right.classes left.classes)
        ++ map f (without right.classes left.classes) =
        map-append f (shared_with right.classes left.classes) (without right.classes left.classes) in
        let wide : length (map f (shared_with right.classes left.classes)) ≡ length columns =
        length-map (shared_with right.classes left.classes) f ∙ sym len in
        let front : take (length (picked columns l)) r ≡ picked columns l =
        ap (λ n. take n r) (length-map columns (slice_index l)) ∙ ap (take (length columns)) parts
        ∙ take_at (map f (shared_with right.classes left.classes))
        (map f (without right.classes left.classes)) (length columns) wide ∙ sym (picks f) in
        let behind : drop (length columns) r ≡ map f (without right.classes left.classes) =
        ap (drop (length columns)) parts ∙ drop_at (map f (shared_with right.classes left.classes))
        (map f (without right.classes left.classes)) (length columns) wide in
        let made : glued (length columns) l r ≡ y = ap (λ t. l ++ t) behind
        ∙ sym (map-append f left.classes (without right.classes left.classes)) in
        let chosen : Contains (filter (begins_with (picked columns l)) others) r =
        Contains-filter (begins_with (picked columns l)) others r in_others
        ((bytes_eq-Decides (take (length (picked columns l)) r) (picked columns l)).1 front) in
        (same y).1 (subst (Contains (flat_map (joined_with others columns) left.rows)) made
        (Contains-flat_map (joined_with others columns) left.rows l (glued (length columns) l r) in_left
        (Contains-map (glued (length columns) l) (filter (begins_with (picked columns l)) others) r chosen)))

-- the same of what the calls give, each known by an equation
pub joined_made : (left right result : ClassRows)
    (classes others_classes rest shared given_rest given_shared columns given items : List ℕ)
    (table made : Rows) (others : List (List ℕ)) → IsRelation left → classes ≡ left.classes
    → others_classes ≡ right.classes → rest ≡ without others_classes classes
    → shared ≡ shared_with others_classes classes → given_rest ≡ rest → given_shared ≡ shared
    → length columns ≡ length given_shared
    → ((f : Assignment) → picked columns (map f classes) ≡ map f given_shared) → given ≡ columns
    → table ≡ record { arity = length left.classes; rows = left.rows }
    → IsProjectionOf right (record { classes = given_shared ++ given_rest; rows = others })
    → SameRows made.rows (flat_map (joined_with others given) table.rows) → items ≡ classes ++ given_rest
    → result ≡ record { classes = items; rows = made.rows } → IsJoinOf left right result
joined_made left right result classes others_classes rest shared given_rest given_shared columns given items
    table made others is ec eo er es egr egs len picks eg et projects same ei e =
    rw (e, ei, egr, er, ec, eo)
    (joined left right columns others made.rows is (rw (egs, es, ec, eo) at len)
    (rw (egs, es, ec, eo) at picks) (rw (egs, egr, es, er, ec, eo) at projects) (rw (eg, et) at same))

-- what two appends add for one place more
pub appended_twice : (width : ℕ) (rows : List (List ℕ)) (from place : ℕ)
    (row other tail start flat first new : List ℕ) → from ≤ place → slice_get rows place ≡ Some other
    → flat ≡ start ++ concat (map (glued width row) (slice_range rows from place)) → first ≡ flat ++ row
    → new ≡ first ++ tail → tail ≡ drop width other → new ≡ start
    ++ concat (map (glued width row) (slice_range rows from (place + 1)))
appended_twice width rows from place row other tail start flat first new l at so_far ef en et =
    en ∙ ap (λ xs. xs ++ tail) ef ∙ append_assoc flat row tail ∙ ap (λ t. flat ++ (row ++ t)) et
    ∙ appended_more (glued width row) rows from place start flat other l at so_far

-- the rows that were put together fill the flat list
pub joined_whole : (arity n values : ℕ) (rows : List (List ℕ)) (flat : List ℕ)
    → All (λ row. length row ≡ n) rows → 0 < n → arity ≡ n → flat ≡ concat rows → values ≡ length flat
    → values / arity ≡ length rows
joined_whole arity n values rows flat wide some ea ef ev =
    let whole : values ≡ n * length rows = ev ∙ ap length ef ∙ length-concat n rows wide in
    rw ea (count_by_length n values (length rows) some whole)

pub joined_filled : (arity n values : ℕ) (rows : List (List ℕ)) (flat : List ℕ)
    → All (λ row. length row ≡ n) rows → 0 < n → arity ≡ n → flat ≡ concat rows → values ≡ length flat
    → values ≡ arity * (values / arity)
joined_filled arity n values rows flat wide some ea ef ev =
    let whole : values ≡ n * length rows = ev ∙ ap length ef ∙ length-concat n rows wide in
    whole ∙ sym (ap (λ k. k * (values / arity)) ea
    ∙ ap (λ k. n * k) (joined_whole arity n values rows flat wide some ea ef ev))

pub joined_all : (arity n values : ℕ) (rows : List (List ℕ)) (flat : List ℕ)
    → All (λ row. length row ≡ n) rows → 0 < n → arity ≡ n → flat ≡ concat rows → values ≡ length flat
    → rows_of arity (values / arity) flat ≡ rows
joined_all arity n values rows flat wide some ea ef ev =
    ap (λ count. rows_of arity count flat) (joined_whole arity n values rows flat wide some ea ef ev)
    ∙ ap (λ k. rows_of k (length rows) flat) ea ∙ ap (rows_of n (length rows)) ef ∙ rows_of-concat n rows wide

-- where no class is left over, all classes are among the others
pub none_left : (classes others rest : List ℕ) (empty : Bool) → rest ≡ without classes others
    → empty ≡ (length rest == 0) → empty ≡ true → without classes others ≡ []
none_left classes others rest empty er ee t = sym er
    ∙ nil_from_length rest ((Decides-eqb (length rest) 0).0 (sym ee ∙ t))

pub all_among : (classes others : List ℕ) → without classes others ≡ [] → All (Contains others) classes
all_among classes others none k d l = elim (cases_Bool (has_class others (get_or classes k d))) [
  | inl y ↦ (has_class-Contains others (get_or classes k d)).0 y
  | inr n ↦ absurd (Contains-nil (get_or classes k d) (subst (λ xs. Contains xs (get_or classes k d)) none
      (Contains-filter (λ c. not (has_class others c)) classes (get_or classes k d)
      (Contains-get_or classes k d l) (rw n refl))))
]

-- the classes of the arranged rows are few
pub arranged_few : (classes others : List ℕ) → AreDistinct classes → All (λ c. c < 64) classes
    → length (shared_with classes others) + length (without classes others) ≤ 64
arranged_few classes others d below =
    omega (
      arith,
      length-append (shared_with classes others) (without classes others),
      few_classes (shared_with classes others ++ without classes others) 64
          (arranged_distinct classes others d)
          (held_below classes (shared_with classes others ++ without classes others) 64 below
          (arranged_held classes others)),
    )

pub joined_below : (classes others : List ℕ) → All (λ c. c < 64) classes → All (λ c. c < 64) others
    → All (λ c. c < 64) (others ++ without classes others)
joined_below classes others below below_others =
    All-append (λ c. c < 64) others (without classes others) below_others
    (All-filter (λ k. not (has_class others k)) (λ c. c < 64) classes below)

-- the index that is built has the arranged rows
pub arranged_made : (relation arranged : ClassRows) (order slice items : List ℕ)
    (result : Result IndexedRows AllocError) (table : Rows) → arranged.classes ≡ slice → slice ≡ items
    → items ≡ order → table ≡ record { arity = length arranged.classes; rows = arranged.rows }
    → IsProjectionOf relation arranged → IfOk result (λ x. x.table ≡ table)
    → IfOk result (λ x. IsProjectionOf relation (record { classes = order; rows = x.table.rows }))
arranged_made relation arranged order slice items result table ec es ei et projects built =
    IfOk-weaker result (λ (x : IndexedRows). x.table ≡ table)
    (λ (x : IndexedRows). IsProjectionOf relation (record { classes = order; rows = x.table.rows }))
    (λ x e. (let order_is : order ≡ arranged.classes = sym (ec ∙ es ∙ ei) in rw (e, et, order_is) projects))
    built

-- one class more that is none of those before it
pub distinct_more : (classes front : List ℕ) (i : ℕ) (answer : Bool) → i < length classes
    → AreDistinct (take i classes) → answer ≡ has_class front (get_or classes i 0) → answer ≡ false
    → front ≡ take i classes → AreDistinct (take (i + 1) classes)
distinct_more classes front i answer l d e n f =
    let apart : (k : ℕ) (x : ℕ) → k < length (take i classes)
    → get_or (take i classes) k x ≢ get_or classes i 0 = λ k x m s.
    (let y : has_class (take i classes) (get_or classes i 0) ≡ true =
    (has_class-Contains (take i classes) (get_or classes i 0)).1
    (subst (Contains (take i classes)) s (Contains-get_or (take i classes) k x m)) in
    false≢true (sym n ∙ e ∙ ap (λ xs. has_class xs (get_or classes i 0)) f ∙ y)) in
    rw (take_more classes i 0 l) (all_pairs_push (λ a b. a ≢ b) (take i classes) (get_or classes i 0) d apart)
