-- The types of names, gathered from the items of typed lists.
use Rattle.std.proofs.Common.{◌≡◌, ◌≢◌, ◌+◌, ◌-◌, ◌<◌, ◌≤◌, ◌⊎◌, ℕ, zero, suc, Bool, true, false, not, cond}
use Rattle.std.proofs.Common.{List, [], ◌∷◌, ◌++◌, length, map, take, drop, get_or, set, filter, Option, Some}
use Rattle.std.proofs.Common.{None, slice_get, refl, sym, ◌∙◌, subst, ap, inl, inr, arith, bytes_eq}
use Rattle.std.proofs.Common.{replicate, Bor, Vec, Global}
use Rattle.std.specs.List.{flat_map}
use Rattle.std.proofs.lemmas.Bool.{cases_lt, cases_Bool, false≢true}
use Rattle.std.proofs.lemmas.List.{length-map, length-set, get_or-map, drop_more, drop_all, get_or-set_same}
use Rattle.std.proofs.lemmas.List.{get_or-set_other, map_push, map_more, map-append, append-nil, append_assoc}
use Rattle.std.proofs.lemmas.List.{map-set, get_or-replicate, length-replicate}
use Rattle.std.proofs.lemmas.List.Concat.{flat_map-append}
use Rattle.std.proofs.lemmas.List.Elements.{filter-append}
use Rattle.std.proofs.lemmas.Option.{slice_get_within, get_or_from_slice_get}
use Rattle.std.proofs.lemmas.Slice.Eq.{bytes_eq-Decides}
use Rattle.pl_names.specs.Names.{texts, number_among, first_appearances}
use Rattle.pl_names.proofs.Numbers.{number_place, same_name, other_name}
use Rattle.pl_names.proofs.Firsts.{number_of_place}
use Rattle.pl_task.specs.declared.data.ObjectDef.{ObjectDef}
use Rattle.pl_task.specs.declared.data.TypeDef.{TypeDef}
use Rattle.pl_task.specs.declared.data.PredicateDef.{PredicateDef}
use Rattle.pl_task.specs.declared.data.Schema.{Schema}
use Rattle.pl_task.specs.WellFormed.{is_fluent}
use Rattle.pl_check.specs.declared.items.TypedItem.{TypedItem}
use Rattle.pl_check.specs.Gathering.{lists_in, numbers_of, AreAdded, AreLeft}
use Rattle.pl_check.specs.Reading.{Numbered, numbered, numbered_in}
use Rattle.pl_check.specs.Stated.{types_of, type_of, object_of, predicates_from}
use Rattle.pl_check.specs.TypedLists.{Item, type_numbers}

-- ---- numbers of items

pub numbers_of-append : (name : List ℕ) (xs ys : List Numbered) →
    numbers_of name (xs ++ ys) ≡ numbers_of name xs ++ numbers_of name ys
numbers_of-append name xs ys =
    ap (flat_map (λ (i : Numbered). i.numbers)) (filter-append (λ (i : Numbered). bytes_eq i.name name) xs ys)
    ∙ flat_map-append (λ (i : Numbered). i.numbers) (filter (λ (i : Numbered). bytes_eq i.name name) xs)
    (filter (λ (i : Numbered). bytes_eq i.name name) ys)

-- an item of the name, and one of another name
numbers_of_same : (name : List ℕ) (item : Numbered) → item.name ≡ name →
    numbers_of name (item ∷ []) ≡ item.numbers
numbers_of_same name item e = rw (same_name item.name name e) (append-nil item.numbers)

numbers_of_other : (name : List ℕ) (item : Numbered) → (item.name ≡ name → ⊥) →
    numbers_of name (item ∷ []) ≡ []
numbers_of_other name item n = rw (other_name item.name name n) refl

-- the types of a name are the numbers of its items
pub numbers_types : (types : List (List ℕ)) (name : List ℕ) (list : List Item) →
    numbers_of name (map (numbered types) list) ≡ types_of types list name
numbers_types types name [] = refl
numbers_types types name (item ∷ list) = by_test (bytes_eq item.name name) (numbers_types types name list)
  where
    by_test : (b : Bool) → numbers_of name (map (numbered types) list) ≡ types_of types list name →
        flat_map (λ (i : Numbered). i.numbers)
        (cond b (numbered types item ∷ filter (λ (i : Numbered). bytes_eq i.name name)
        (map (numbered types) list)) (filter (λ (i : Numbered). bytes_eq i.name name)
        (map (numbered types) list))) ≡
        flat_map (λ (i : Item). type_numbers types i.types)
        (cond b (item ∷ filter (λ (i : Item). bytes_eq i.name name) list)
        (filter (λ (i : Item). bytes_eq i.name name) list))
    by_test true rest = ap (λ ns. type_numbers types item.types ++ ns) rest
    by_test false rest = rest

-- ---- adding

pub added_none : (names : List (List ℕ)) (old : List (List ℕ)) → AreAdded names [] old old
added_none names old = record { count = refl; each = λ k l. sym (append-nil (get_or old k [])) }

-- one item more, whose name has a number
pub added_more : (met : List (List ℕ)) (items : List Numbered) (item : Numbered)
    (old lists lists' : List (List ℕ)) (number : ℕ) → length old ≡ length (first_appearances met) →
    number_among (first_appearances met) item.name ≡ Some number →
    lists' ≡ set lists number (get_or lists number [] ++ item.numbers) →
    AreAdded (first_appearances met) items old lists →
    AreAdded (first_appearances met) (items ++ item ∷ []) old lists'
added_more met items item old lists lists' number long e s up = record { count = count; each = each }
  where
    names : List (List ℕ)
    names = first_appearances met

    stands : slice_get names number ≡ Some item.name
    stands = number_place names item.name number e

    count : length lists' ≡ length old
    count = ap length s ∙ length-set lists number (get_or lists number [] ++ item.numbers) ∙ up.count

    more : (k : ℕ) → k < length names → numbers_of (get_or names k []) (items ++ item ∷ []) ≡ numbers_of
        (get_or names k []) items ++ numbers_of (get_or names k []) (item ∷ [])
    more k l = numbers_of-append (get_or names k []) items (item ∷ [])

    here : number < length names → get_or lists' number [] ≡ get_or old number [] ++
        numbers_of (get_or names number []) (items ++ item ∷ [])
    here l =
        let name_is : item.name ≡ get_or names number [] =
        sym (get_or_from_slice_get names number item.name [] stands) in
        ap (λ ls. get_or ls number []) s
        ∙ get_or-set_same lists number (get_or lists number [] ++ item.numbers) [] (omega (arith, up.count))
        ∙ ap (λ ns. ns ++ item.numbers) (up.each number l)
        ∙ append_assoc (get_or old number []) (numbers_of (get_or names number []) items) item.numbers
        ∙ ap (λ ns. get_or old number [] ++ (numbers_of (get_or names number []) items ++ ns))
        (sym (numbers_of_same (get_or names number []) item name_is))
        ∙ ap (λ ns. get_or old number [] ++ ns) (sym (more number l))

    differs : (k : ℕ) → k < length names → k ≢ number → item.name ≡ get_or names k [] → ⊥
    differs k l n same =
        let both : ◌≡◌ {A = Option ℕ} (Some k) (Some number) = sym (number_of_place met k l) ∙
        ap (number_among names) (sym same) ∙ e in
        n cc

    there : (k : ℕ) → k < length names → k ≢ number →
        get_or lists' k [] ≡ get_or old k [] ++ numbers_of (get_or names k []) (items ++ item ∷ [])
    there k l n =
        ap (λ ls. get_or ls k []) s
        ∙ get_or-set_other lists number k (get_or lists number [] ++ item.numbers) [] n
        ∙ up.each k l
        ∙ ap (λ ns. get_or old k [] ++ ns) (sym (append-nil (numbers_of (get_or names k []) items)) ∙
        ap (λ ns. numbers_of (get_or names k []) items ++ ns)
        (sym (numbers_of_other (get_or names k []) item (differs k l n))) ∙ sym (more k l))

    each : (k : ℕ) → k < length names →
        get_or lists' k [] ≡ get_or old k [] ++ numbers_of (get_or names k []) (items ++ item ∷ [])
    each k l = elim (cases_lt k number) [
      | inl lt ↦ there k l (omega arith)
      | inr ge ↦ (elim (cases_lt number k) [
        | inl gt ↦ there k l (omega arith)
        | inr le ↦ (let same : number ≡ k = omega arith in
            subst (λ m. m < length names → get_or lists' m [] ≡ get_or old m [] ++
            numbers_of (get_or names m []) (items ++ item ∷ [])) same here l)
      ])
    ]

-- one item more, whose name has none
pub added_skip : (met : List (List ℕ)) (items : List Numbered) (item : Numbered) (old lists : List (List ℕ)) →
    number_among (first_appearances met) item.name ≡ None → AreAdded (first_appearances met) items old lists →
    AreAdded (first_appearances met) (items ++ item ∷ []) old lists
added_skip met items item old lists e up = record { count = up.count; each = each }
  where
    names : List (List ℕ)
    names = first_appearances met

    differs : (k : ℕ) → k < length names → item.name ≡ get_or names k [] → ⊥
    differs k l same =
        let both : ◌≡◌ {A = Option ℕ} (Some k) None = sym (number_of_place met k l) ∙
        ap (number_among names) (sym same) ∙ e in
        cc

    each : (k : ℕ) → k < length names →
        get_or lists k [] ≡ get_or old k [] ++ numbers_of (get_or names k []) (items ++ item ∷ [])
    each k l =
        up.each k l
        ∙ ap (λ ns. get_or old k [] ++ ns) (sym (append-nil (numbers_of (get_or names k []) items)) ∙
        ap (λ ns. numbers_of (get_or names k []) items ++ ns)
        (sym (numbers_of_other (get_or names k []) item (differs k l))) ∙
        sym (numbers_of-append (get_or names k []) items (item ∷ [])))

-- ---- predicates

abbrev pub no_name : Bor (List ℕ)
no_name = record { ref_ptr = (0, 0); now = [] }

abbrev pub predicate_record : List ℕ → ℕ → Bool → PredicateDef
predicate_record name arity is_static = record { name = name; arity = arity; is_static = is_static }

pub predicate_more : (schemas : List Schema) (names : List (Bor (List ℕ))) (arities : List ℕ) (i : ℕ)
    (name : Bor (List ℕ)) (arity : ℕ) (fluent : Bool) (done done' : List PredicateDef) (made : PredicateDef) →
    i < length names → length (texts names) ≡ length arities → name ≡ get_or names i no_name →
    arity ≡ get_or arities i 0 → fluent ≡ is_fluent schemas i →
    made ≡ predicate_record name.now arity (not fluent) → done' ≡ done ++ made ∷ [] →
    done ++ predicates_from schemas i (drop i (texts names)) (drop i arities) ≡ predicates_from schemas
    0 (texts names) arities →
    done' ++ predicates_from schemas (i + 1) (drop (i + 1) (texts names)) (drop (i + 1) arities) ≡
    predicates_from schemas 0 (texts names) arities
predicate_more schemas names arities i name arity fluent done done' made l as_many n a f m d up =
    let count : length (texts names) ≡ length names = length-map names (λ (x : Bor (List ℕ)). x.now) in
    let name_is : name.now ≡ get_or (texts names) i [] = ap (λ (x : Bor (List ℕ)). x.now) n ∙
    sym (get_or-map (λ (x : Bor (List ℕ)). x.now) names i no_name [] l) in
    let made_is : made ≡ predicate_record (get_or (texts names) i []) (get_or arities i 0)
    (not (is_fluent schemas i)) = m ∙ ap (λ x. predicate_record x arity (not fluent)) name_is ∙
    ap (λ x. predicate_record (get_or (texts names) i []) x (not fluent)) a ∙
    ap (λ x. predicate_record (get_or (texts names) i []) (get_or arities i 0) (not x)) f in
    let names_rest : drop i (texts names) ≡ get_or (texts names) i [] ∷ drop (i + 1) (texts names) =
    drop_more (texts names) i [] (omega arith) in
    let arities_rest : drop i arities ≡ get_or arities i 0 ∷ drop (i + 1) arities =
    drop_more arities i 0 (omega arith) in
    let rest : predicates_from schemas i (drop i (texts names)) (drop i arities) ≡ made ∷ predicates_from
    schemas (i + 1) (drop (i + 1) (texts names)) (drop (i + 1) arities) =
    ap (λ xs. predicates_from schemas i xs (drop i arities)) names_rest ∙
    ap (λ xs. predicates_from schemas i (get_or (texts names) i [] ∷ drop (i + 1) (texts names)) xs)
    arities_rest ∙ ap (λ x. x ∷ predicates_from schemas (i + 1) (drop (i + 1) (texts names))
    (drop (i + 1) arities)) (sym made_is) in
    ap (λ xs. xs ++ predicates_from schemas (i + 1) (drop (i + 1) (texts names)) (drop (i + 1) arities)) d
    ∙ append_assoc done (made ∷ []) (predicates_from schemas (i + 1)
    (drop (i + 1) (texts names)) (drop (i + 1) arities))
    ∙ ap (λ xs. done ++ xs) (sym rest) ∙ up

pub predicates_all : (schemas : List Schema) (names : List (List ℕ)) (items : List (Bor (List ℕ)))
    (arities : List ℕ) (i : ℕ) (done : List PredicateDef) → texts items ≡ names → length items ≤ i →
    done ++ predicates_from schemas i (drop i (texts items)) (drop i arities) ≡ predicates_from schemas 0
    (texts items) arities → done ≡ predicates_from schemas 0 names arities
predicates_all schemas names items arities i done same past up =
    let none : drop i (texts items) ≡ [] =
    drop_all i (texts items) (omega (arith, length-map items (λ (x : Bor (List ℕ)). x.now))) in
    sym (append-nil done) ∙ ap (λ xs. done ++ predicates_from schemas i xs (drop i arities)) (sym none) ∙ up ∙
    ap (λ xs. predicates_from schemas 0 xs arities) same

-- ---- what is gathered

-- from empty lists, by the items of one typed list
pub left_at_first : (types : List (List ℕ)) (list : List Item) (names old new : List (List ℕ)) →
    old ≡ replicate (length names) [] → AreAdded names (map (numbered types) list) old new →
    AreLeft types list names new 0
left_at_first types list names old new o added = record {
  count = added.count ∙ ap length o ∙ length-replicate (length names) [];
  each = λ k _ l.
      added.each k l
      ∙ ap (λ ns. ns ++ numbers_of (get_or names k []) (map (numbered types) list))
      (ap (λ ls. get_or ls k []) o ∙ get_or-replicate (length names) k [] [] l)
      ∙ numbers_types types (get_or names k []) list;
}

-- by the items of two
pub left_at_second : (types : List (List ℕ)) (first second : List Item) (names old middle new : List (List ℕ))
    → old ≡ replicate (length names) [] → AreAdded names (map (numbered types) first) old middle →
    AreAdded names (map (numbered types) second) middle new → AreLeft types (first ++ second) names new 0
left_at_second types first second names old middle new o one two = record {
  count = two.count ∙ one.count ∙ ap length o ∙ length-replicate (length names) [];
  each = λ k _ l.
      two.each k l
      ∙ ap (λ ns. ns ++ numbers_of (get_or names k []) (map (numbered types) second))
      ((left_at_first types first names old middle o one).each k (omega arith) l ∙
      sym (numbers_types types (get_or names k []) first))
      ∙ sym (numbers_of-append (get_or names k []) (map (numbered types) first) (map (numbered types) second))
      ∙ ap (numbers_of (get_or names k [])) (sym (map-append (numbered types) first second))
      ∙ numbers_types types (get_or names k []) (first ++ second);
}

-- when the list at a place is taken
pub left_more : (types : List (List ℕ)) (list : List Item) (names lists lists' : List (List ℕ)) (i : ℕ) →
    lists' ≡ set lists i [] → AreLeft types list names lists i → AreLeft types list names lists' (i + 1)
left_more types list names lists lists' i s left = record {
  count = ap length s ∙ length-set lists i [] ∙ left.count;
  each = λ k h l.
      (let other : k ≢ i = omega arith in
      ap (λ ls. get_or ls k []) s ∙ get_or-set_other lists i k [] [] other ∙ left.each k (omega arith) l);
}

-- the next definition
pub type_more : (types : List (List ℕ)) (list : List Item) (names : List (Bor (List ℕ)))
    (lists : List (List ℕ)) (i : ℕ) (name : Bor (List ℕ)) (taken : List ℕ) (done done' : List TypeDef)
    (made : TypeDef) → i < length names → name ≡ get_or names i no_name → taken ≡ get_or lists i [] →
    made ≡ record { name = name.now; parents = taken } → done' ≡ done ++ made ∷ [] →
    AreLeft types list (texts names) lists i → done ≡ map (type_of types list) (take i (texts names)) →
    done' ≡ map (type_of types list) (take (i + 1) (texts names))
type_more types list names lists i name taken done done' made l n t m d left up =
    let count : length (texts names) ≡ length names = length-map names (λ (x : Bor (List ℕ)). x.now) in
    let name_is : name.now ≡ get_or (texts names) i [] = ap (λ (x : Bor (List ℕ)). x.now) n ∙
    sym (get_or-map (λ (x : Bor (List ℕ)). x.now) names i no_name [] l) in
    let taken_is : taken ≡ types_of types list (get_or (texts names) i []) = t ∙
    left.each i (omega arith) (omega arith) in
    let made_is : made ≡ type_of types list (get_or (texts names) i []) = m ∙ (rw (name_is, taken_is) refl) in
    d ∙ ap (λ xs. xs ++ made ∷ []) up ∙
    ap (λ x. map (type_of types list) (take i (texts names)) ++ x ∷ []) made_is
    ∙ sym (map_more (type_of types list) (texts names) i [] (omega arith))

pub object_more : (types : List (List ℕ)) (list : List Item) (names : List (Bor (List ℕ)))
    (lists : List (List ℕ)) (i : ℕ) (name : Bor (List ℕ)) (taken : List ℕ) (done done' : List ObjectDef)
    (made : ObjectDef) → i < length names → name ≡ get_or names i no_name → taken ≡ get_or lists i [] →
    made ≡ record { name = name.now; types = taken } → done' ≡ done ++ made ∷ [] →
    AreLeft types list (texts names) lists i → done ≡ map (object_of types list) (take i (texts names)) →
    done' ≡ map (object_of types list) (take (i + 1) (texts names))
object_more types list names lists i name taken done done' made l n t m d left up =
    let count : length (texts names) ≡ length names = length-map names (λ (x : Bor (List ℕ)). x.now) in
    let name_is : name.now ≡ get_or (texts names) i [] = ap (λ (x : Bor (List ℕ)). x.now) n ∙
    sym (get_or-map (λ (x : Bor (List ℕ)). x.now) names i no_name [] l) in
    let taken_is : taken ≡ types_of types list (get_or (texts names) i []) = t ∙
    left.each i (omega arith) (omega arith) in
    let made_is : made ≡ object_of types list (get_or (texts names) i []) = m ∙
    (rw (name_is, taken_is) refl) in
    d ∙ ap (λ xs. xs ++ made ∷ []) up ∙
    ap (λ x. map (object_of types list) (take i (texts names)) ++ x ∷ []) made_is
    ∙ sym (map_more (object_of types list) (texts names) i [] (omega arith))

-- ---- lists as they are kept

pub extended_at : (lists : List (Vec ℕ Global)) (i : ℕ) (old new : Vec ℕ Global) (numbers : List ℕ) →
    i < length lists → old ≡ get_or lists i old → new.items ≡ old.items ++ numbers →
    lists_in (set lists i new) ≡ set (lists_in lists) i (get_or (lists_in lists) i [] ++ numbers)
extended_at lists i old new numbers l e n =
    let read : get_or (lists_in lists) i [] ≡ old.items = get_or-map (λ (list : Vec ℕ Global). list.items)
    lists i old [] l ∙ ap (λ (list : Vec ℕ Global). list.items) (sym e) in
    map-set (λ (list : Vec ℕ Global). list.items) lists i new ∙
    ap (λ ns. set (lists_in lists) i ns) (n ∙ ap (λ ns. ns ++ numbers) (sym read))

pub emptied_at : (lists : List (Vec ℕ Global)) (i : ℕ) (new : Vec ℕ Global) → new.items ≡ [] →
    lists_in (set lists i new) ≡ set (lists_in lists) i []
emptied_at lists i new n = map-set (λ (list : Vec ℕ Global). list.items) lists i new ∙
    ap (λ ns. set (lists_in lists) i ns) n

-- the place of an item's name is one of the lists
pub number_within : (met : List (List ℕ)) (items : List Numbered) (start lists : List (Vec ℕ Global))
    (name : List ℕ) (number : ℕ) (r : Option ℕ) → length start ≡ length (first_appearances met) →
    AreAdded (first_appearances met) items (lists_in start) (lists_in lists) →
    r ≡ number_among (first_appearances met) name → r ≡ Some number → number < length lists
number_within met items start lists name number r long up e s =
    let within = slice_get_within (first_appearances met) number name
    (number_place (first_appearances met) name number (sym e ∙ s)) in
    omega (
      arith,
      within,
      long,
      up.count,
      length-map lists (λ (list : Vec ℕ Global). list.items),
      length-map start (λ (list : Vec ℕ Global). list.items),
    )

-- the loop's steps
pub step_added : (met : List (List ℕ)) (items : List TypedItem) (i : ℕ) (item : TypedItem)
    (start lists lists' : List (Vec ℕ Global)) (number : ℕ) (r : Option ℕ) → i < length items →
    item ≡ get_or items i item → length start ≡ length (first_appearances met) →
    r ≡ number_among (first_appearances met) item.name.now → r ≡ Some number →
    lists_in lists' ≡ set (lists_in lists) number (get_or (lists_in lists) number [] ++ item.types.items) →
    AreAdded (first_appearances met) (map numbered_in (take i items)) (lists_in start) (lists_in lists) →
    AreAdded (first_appearances met) (map numbered_in (take (i + 1) items)) (lists_in start) (lists_in lists')
step_added met items i item start lists lists' number r l e long n s set_is up =
    let more : map numbered_in (take (i + 1) items) ≡ map numbered_in (take i items) ++ numbered_in item ∷
    [] = map_more numbered_in items i item l ∙
    ap (λ x. map numbered_in (take i items) ++ numbered_in x ∷ []) (sym e) in
    rw more (added_more met (map numbered_in (take i items)) (numbered_in item) (lists_in start)
    (lists_in lists) (lists_in lists') number (length-map start (λ (list : Vec ℕ Global). list.items) ∙
    long) (sym n ∙ s) set_is up)

pub step_skipped : (met : List (List ℕ)) (items : List TypedItem) (i : ℕ) (item : TypedItem)
    (start lists : List (Vec ℕ Global)) (r : Option ℕ) → i < length items → item ≡ get_or items i item →
    r ≡ number_among (first_appearances met) item.name.now → r ≡ None →
    AreAdded (first_appearances met) (map numbered_in (take i items)) (lists_in start) (lists_in lists) →
    AreAdded (first_appearances met) (map numbered_in (take (i + 1) items)) (lists_in start) (lists_in lists)
step_skipped met items i item start lists r l e n s up =
    let more : map numbered_in (take (i + 1) items) ≡ map numbered_in (take i items) ++ numbered_in item ∷
    [] = map_more numbered_in items i item l ∙
    ap (λ x. map numbered_in (take i items) ++ numbered_in x ∷ []) (sym e) in
    rw more (added_skip met (map numbered_in (take i items)) (numbered_in item) (lists_in start)
    (lists_in lists) (sym n ∙ s) up)

-- ---- before the names are gone over

pub left_from_first : (known met types_met : List (List ℕ)) (list : List Item) (items slice : List TypedItem)
    (names others : List (Bor (List ℕ))) (old new : List (Vec ℕ Global)) →
    first_appearances types_met ≡ known → texts names ≡ first_appearances met →
    texts others ≡ first_appearances met →
    map numbered_in items ≡ map (numbered (first_appearances types_met)) list → slice ≡ items →
    lists_in old ≡ replicate (length others) [] →
    AreAdded (first_appearances met) (map numbered_in slice) (lists_in old) (lists_in new) →
    AreLeft known list (texts names) (lists_in new) 0
left_from_first known met types_met list items slice names others old new k n o i s e added =
    let items_are : map numbered_in slice ≡ map (numbered known) list = ap (map numbered_in) s ∙ i ∙
    ap (λ ts. map (numbered ts) list) k in
    let count : length others ≡ length (texts names) = sym (length-map others (λ (x : Bor (List ℕ)). x.now)) ∙
    ap length (o ∙ sym n) in
    let from : AreAdded (texts names) (map (numbered known) list) (lists_in old) (lists_in new) =
    rw (n, ← items_are) added in
    left_at_first known list (texts names) (lists_in old) (lists_in new) (e ∙ ap (λ c. replicate c []) count)
    from

pub left_from_second : (known objects met types_met : List (List ℕ)) (first second : List Item)
    (first_items first_slice second_items second_slice : List TypedItem) (names : List (Bor (List ℕ)))
    (old middle new : List (Vec ℕ Global)) →
    first_appearances types_met ≡ known → first_appearances met ≡ objects →
    texts names ≡ first_appearances met →
    map numbered_in first_items ≡ map (numbered (first_appearances types_met)) first →
    first_slice ≡ first_items →
    map numbered_in second_items ≡ map (numbered (first_appearances types_met)) second →
    second_slice ≡ second_items → lists_in old ≡ replicate (length names) [] →
    AreAdded (first_appearances met) (map numbered_in first_slice) (lists_in old) (lists_in middle) →
    AreAdded (first_appearances met) (map numbered_in second_slice) (lists_in middle) (lists_in new) →
    AreLeft known (first ++ second) objects (lists_in new) 0
left_from_second known objects met kinds first second xs fs ys ss names old mid new k m n i s j t e one two =
    let first_are : map numbered_in fs ≡ map (numbered known) first =
    ap (map numbered_in) s ∙ i ∙ ap (λ ts. map (numbered ts) first) k in
    let second_are : map numbered_in ss ≡ map (numbered known) second =
    ap (map numbered_in) t ∙ j ∙ ap (λ ts. map (numbered ts) second) k in
    let count : length names ≡ length objects =
    sym (length-map names (λ (x : Bor (List ℕ)). x.now)) ∙ ap length (n ∙ m) in
    let from : AreAdded objects (map (numbered known) first) (lists_in old) (lists_in mid) =
    rw (← m, ← first_are) one in
    let to : AreAdded objects (map (numbered known) second) (lists_in mid) (lists_in new) =
    rw (← m, ← second_are) two in
    left_at_second known first second objects (lists_in old) (lists_in mid) (lists_in new)
    (e ∙ ap (λ c. replicate c []) count) from to

-- what is left for these names, said of the names as they are borrowed
pub left_of_names : (known objects met : List (List ℕ)) (items : List Item) (names : List (Bor (List ℕ)))
    (lists : List (List ℕ)) → first_appearances met ≡ objects → texts names ≡ first_appearances met →
    AreLeft known items objects lists 0 → AreLeft known items (texts names) lists 0
left_of_names known objects met items names lists m n left = rw (n, m) left
