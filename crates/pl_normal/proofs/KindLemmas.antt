-- The objects that have one of some types, and the tables of them.
use Rattle.std.proofs.Common.{◌≡◌, ℕ, ◌+◌, ◌<◌, ◌≤◌, ◌==◌, ◌||◌, ◌↔◌, ◌⊎◌, inl, inr, Bool, true, false, cond}
use Rattle.std.proofs.Common.{List, [], ◌∷◌, ◌++◌, length, map, take, get_or, Option, Some, None, slice_get}
use Rattle.std.proofs.Common.{refl, sym, ◌∙◌, ap, subst, arith, All, Contains, IsTrue, Result, Ok, Err, IfOk}
use Rattle.std.proofs.Common.{append_assoc, length-append}
use Rattle.std.specs.Prelude.{slice_index}
use Rattle.std.specs.Borrow.{Bor}
use Rattle.std.specs.List.{list_any, range_with_len}
use Rattle.std.specs.declared.alloc.AllocError.{AllocError}
use Rattle.std.proofs.Math.Seq.{get_or-append_seam}
use Rattle.std.proofs.Math.ListN.{get_or-append}
use Rattle.std.proofs.lemmas.Bool.{false≢true}
use Rattle.std.proofs.lemmas.List.{get_or_default, get_or-map, length-map, map_more, take_all, map-append}
use Rattle.std.proofs.lemmas.List.Concat.{get_or-flat_map}
use Rattle.std.proofs.lemmas.List.Elements.{All-contains, All-get_or, All-map, Contains-get_or}
use Rattle.std.proofs.lemmas.List.Folds.{length-flat_map-take}
use Rattle.std.proofs.lemmas.Option.{slice_get-get_or, slice_get_within, get_or_from_slice_get}
use Rattle.pl_rows.specs.Rows.{Rows, AreRows, SameRows, rows_of}
use Rattle.pl_rows.proofs.Canonical.{Contains-cons_cases, Contains-cons_first, Contains-nil}
use Rattle.pl_hyper.proofs.Members.{range_contains}
use Rattle.pl_task.specs.declared.data.ObjectDef.{ObjectDef}
use Rattle.pl_task.specs.declared.data.Parameter.{Parameter}
use Rattle.pl_task.specs.declared.data.Schema.{Schema}
use Rattle.pl_task.specs.declared.task.Task.{Task}
use Rattle.pl_task.specs.Types.{is_of_type, is_of_type_by, leads}
use Rattle.pl_task.specs.WellFormed.{IsSchemaOf}
use Rattle.pl_join.proofs.Members.{Contains-map, Contains-from_map, Contains-flat_map, Contains-from_flat_map}
use Rattle.pl_normal.specs.Guards.{has_some_type, types_at}
use Rattle.pl_normal.specs.Query.{is_of_kind}
use Rattle.pl_normal.specs.Tables.{IsTypeTable}
use Rattle.pl_normal.specs.Kinds.{lists_of, list_at, IsNumberOf, IsNumbering, object_types, parameter_types}
use Rattle.pl_normal.specs.Kinds.{schema_types, all_types, AreStarts, of_kind, objects_below, AreTypeTables}
use Rattle.pl_normal.specs.Kinds.{IsTableAt, AreKindTables}
use Rattle.pl_normal.proofs.Loops.{flat_more, range_more}
use Rattle.pl_normal.proofs.Numbers.{list_here, last_here, front_here, longer_by_one}

-- ---- lists of types

-- a borrowed list more
pub lists_more : (old new : List (Bor (List ℕ))) (x : Bor (List ℕ)) → new ≡ old ++ x ∷ []
    → lists_of new ≡ lists_of old ++ x.now ∷ []
lists_more old new x e = ap lists_of e ∙ map-append (λ (list : Bor (List ℕ)). list.now) old (x ∷ [])

pub objects_more : (objects : List ObjectDef) (i : ℕ) (o : ObjectDef) (old new : List (Bor (List ℕ)))
    (x : Bor (List ℕ)) → i < length objects → o ≡ get_or objects i o → x.now ≡ o.types
    → lists_of old ≡ object_types (take i objects) → new ≡ old ++ x ∷ [] →
    lists_of new ≡ object_types (take (i + 1) objects)
objects_more objects i o old new x h at is before e =
    lists_more old new x e
    ∙ ((λ j. before j ++ (is ∙ ap (λ (d : ObjectDef). d.types) at) j ∷ [])
    ∙ sym (map_more (λ (d : ObjectDef). d.types) objects i o h))

pub objects_end : (objects : List ObjectDef) (i : ℕ) (made : List (Bor (List ℕ))) → length objects ≤ i
    → lists_of made ≡ object_types (take i objects) → lists_of made ≡ object_types objects
objects_end objects i made h e = e ∙ ap object_types (take_all i objects h)

pub parameters_more : (parameters : List Parameter) (i : ℕ) (p : Parameter) (first : List (List ℕ))
    (old new : List (Bor (List ℕ))) (x : Bor (List ℕ)) → i < length parameters → p ≡ get_or parameters i p
    → x.now ≡ p.types →
    lists_of old ≡ first ++ parameter_types (take i parameters) → new ≡ old ++ x ∷ [] → lists_of new ≡ first
    ++ parameter_types (take (i + 1) parameters)
parameters_more parameters i p first old new x h at is before e =
    lists_more old new x e
    ∙ ((λ j. before j ++ (is ∙ ap (λ (d : Parameter). d.types) at) j ∷ [])
    ∙ (append_assoc first (parameter_types (take i parameters)) ((get_or parameters i p).types ∷ [])
    ∙ ap (λ xs. first ++ xs) (sym (map_more (λ (d : Parameter). d.types) parameters i p h))))

pub parameters_end : (parameters : List Parameter) (i : ℕ) (first : List (List ℕ))
    (made : List (Bor (List ℕ))) → length parameters ≤ i → lists_of made ≡ first
    ++ parameter_types (take i parameters) → lists_of made ≡ first ++ parameter_types parameters
parameters_end parameters i first made h e = e ∙ ap (λ xs. first ++ parameter_types xs)
    (take_all i parameters h)

-- a schema more
pub starts_more : (schemas : List Schema) (i n : ℕ) (starts new : List ℕ) (lists : List (Bor (List ℕ)))
    → n ≡ length lists → lists_of lists ≡ all_types (take i schemas) → new ≡ starts ++ n ∷ []
    → AreStarts schemas i starts → AreStarts schemas (i + 1) new
starts_more schemas i n starts new lists long same e are = record {
  many = longer_by_one starts new n e ∙ ap (λ m. m + 1) are.many;
  each = λ k h. elim (old_or_new k h) [
    | inl old ↦ front_here starts new n k e (let many = are.many in omega arith) ∙ are.each k old
    | inr last ↦ last_here starts new n k e (last ∙ sym are.many)
        ∙ (count ∙ ap (λ m. length (all_types (take m schemas))) (sym last))
  ];
}
  where
    old_or_new : (k : ℕ) → k < i + 1 → (k < i) ⊎ (k ≡ i)
    old_or_new k low = grind arith

    count : n ≡ length (all_types (take i schemas))
    count = long ∙ (sym (length-map lists (λ (list : Bor (List ℕ)). list.now)) ∙ ap length same)

pub starts_end : (schemas : List Schema) (i : ℕ) (starts : List ℕ) → i ≡ length schemas
    → AreStarts schemas i starts → AreStarts schemas (length schemas) starts
starts_end schemas i starts e are = subst (λ n. AreStarts schemas n starts) e are

pub types_more : (schemas : List Schema) (i : ℕ) (s : Schema) (parameters : List Parameter)
    (old new : List (Bor (List ℕ))) → i < length schemas → s ≡ get_or schemas i s → parameters ≡ s.parameters
    → lists_of old ≡ all_types (take i schemas) →
    lists_of new ≡ lists_of old ++ parameter_types parameters
    → lists_of new ≡ all_types (take (i + 1) schemas)
types_more schemas i s parameters old new h at is before e =
    flat_more schema_types schemas i s (lists_of old) (lists_of new) h at before
    (e ∙ ap (λ ps. lists_of old ++ parameter_types ps) is)

pub types_end : (schemas : List Schema) (i : ℕ) (made : List (Bor (List ℕ))) → length schemas ≤ i
    → lists_of made ≡ all_types (take i schemas) → lists_of made ≡ all_types schemas
types_end schemas i made h e = e ∙ ap all_types (take_all i schemas h)

-- ---- types in range

abbrev AreBelow : ℕ → List ℕ → Type 0
AreBelow n types = All (λ t. t < n) types

pub all_below : (task : Task) (schemas : List Schema) (lists : List (Bor (List ℕ))) → schemas ≡ task.schemas
    → lists_of lists ≡ all_types schemas → All (λ (types : List ℕ). All (λ t. t < length task.types) types)
    (lists_of lists)
all_below task schemas lists is same k d h =
    of_one (Contains-from_flat_map schema_types task.schemas (get_or (lists_of lists) k d) among)
  where
    among : Contains (all_types task.schemas) (get_or (lists_of lists) k d)
    among = subst (λ xs. Contains xs (get_or (lists_of lists) k d)) (same ∙ ap all_types is)
        (Contains-get_or (lists_of lists) k d h)

    of_one : (s : Schema) × Contains task.schemas s × Contains (schema_types s) (get_or (lists_of lists) k d)
        → AreBelow (length task.types) (get_or (lists_of lists) k d)
    of_one (s, own, is_one) =
        let well : IsSchemaOf task.types task.objects task.predicates s =
        All-contains (IsSchemaOf task.types task.objects task.predicates) task.schemas s
        task.schemas_ok.each own in
        All-contains (AreBelow (length task.types)) (schema_types s) (get_or (lists_of lists) k d)
        (All-map (AreBelow (length task.types)) (λ (p : Parameter). p.types) s.parameters well.typed)
        is_one

-- ---- objects that were declared with the same types

type_same : (task : Task) (a b t : ℕ) (d e : ObjectDef) → slice_get task.objects a ≡ Some d
    → slice_get task.objects b ≡ Some e → d.types ≡ e.types → is_of_type task a t ≡ is_of_type task b t
type_same task a b t d e at other same =
    ap (is_of_type_by task t) at
    ∙ (ap (λ types. (t == 0) || list_any (λ x. leads task.types x t) types) same
    ∙ sym (ap (is_of_type_by task t) other))

any_same : (f g : ℕ → Bool) (types : List ℕ) → ((t : ℕ) → f t ≡ g t) → list_any f types ≡ list_any g types
any_same f g [] h = refl
any_same f g (t ∷ ts) h = λ i. h t i || any_same f g ts h i

pub types_alike : (task : Task) (types : List ℕ) (a b : ℕ) → a < length task.objects → b < length task.objects
    → list_at (object_types task.objects) a ≡ list_at (object_types task.objects) b
    → has_some_type task types a ≡ has_some_type task types b
types_alike task types a b low lower same = with (get_or task.objects a nothing)
    (get_or task.objects b nothing) refl refl
  where
    nothing : ObjectDef
    nothing = record { name = []; types = [] }

    read : (o : ℕ) → o < length task.objects → list_at (object_types task.objects)
        o ≡ (get_or task.objects o nothing).types
    read o h = get_or-map (λ (x : ObjectDef). x.types) task.objects o nothing [] h

    with : (d e : ObjectDef) → d ≡ get_or task.objects a nothing → e ≡ get_or task.objects b nothing
        → has_some_type task types a ≡ has_some_type task types b
    with d e is other =
        any_same (is_of_type task a) (is_of_type task b) types
        (λ t. type_same task a b t (get_or task.objects a nothing) (get_or task.objects b nothing)
        (slice_get-get_or task.objects a nothing low) (slice_get-get_or task.objects b nothing lower)
        (sym (read a low) ∙ (same ∙ read b lower)))

-- the answer for an object is that for the first that was declared with its types
pub answer_read : (task : Task) (types numbers firsts : List ℕ) (answers : List Bool) (o n : ℕ) (x : Bool)
    → IsNumbering (object_types task.objects) numbers firsts → answers ≡ map (has_some_type task types) firsts
    → o < length numbers → n ≡ slice_index numbers o →
    get_or answers n x ≡ has_some_type task types o
answer_read task types numbers firsts answers o n x are made h at =
    let low : o < length (object_types task.objects) = (let many = are.many in omega arith) in
    let own : IsNumberOf (object_types task.objects) firsts o (slice_index numbers o) = are.each o low in
    let place : slice_index numbers o < length firsts = own.within in
    let within : o < length task.objects = subst (λ m. o < m)
    (length-map task.objects (λ (d : ObjectDef). d.types)) low in
    let first : slice_index firsts (slice_index numbers o) < length task.objects =
    subst (λ m. slice_index firsts (slice_index numbers o) < m)
    (length-map task.objects (λ (d : ObjectDef). d.types)) (are.places (slice_index numbers o) 0 place) in
    (λ i. get_or (made i) (at i) x)
    ∙ (get_or-map (has_some_type task types) firsts (slice_index numbers o) 0 x place
    ∙ types_alike task types (slice_index firsts (slice_index numbers o)) o first within own.same)

pub objects_below-more : (task : Task) (types numbers firsts : List ℕ) (answers : List Bool) (o n : ℕ)
    (x : Bool) (flat after : List ℕ) → IsNumbering (object_types task.objects) numbers firsts
    → answers ≡ map (has_some_type task types) firsts → o < length numbers →
    n ≡ slice_index numbers o → flat ≡ objects_below task types o → after ≡ flat
    ++ cond (get_or answers n x) (o ∷ []) [] → after ≡ objects_below task types (o + 1)
objects_below-more task types numbers firsts answers o n x flat after are made h at before e =
    range_more (of_kind task types) o (o + 1) flat after refl before
    (e ∙ ap (λ b. flat ++ cond b (o ∷ []) [])
    (answer_read task types numbers firsts answers o n x are made h at))

-- ---- tables

-- an object with a type is in range
one_typed : (task : Task) (o t : ℕ) (d : Option ObjectDef) (rest : Bool) → slice_get task.objects o ≡ d
    → (rest ≡ true → o < length task.objects) → (is_of_type task o t || rest) ≡ true → o < length task.objects
one_typed task o t (Some d) rest at later has = slice_get_within task.objects o d at
one_typed task o t None rest at later has =
    later (sym (ap (λ b. b || rest) (ap (is_of_type_by task t) at)) ∙ has)

pub typed_within : (task : Task) (types : List ℕ) (o : ℕ) → has_some_type task types o ≡ true
    → o < length task.objects
typed_within task [] o h = absurd (false≢true h)
typed_within task (t ∷ ts) o h = one_typed task o t (slice_get task.objects o) (has_some_type task ts o) refl
    (typed_within task ts o) h

one_by : (b : Bool) (o x : ℕ) → Contains (cond b (o ∷ []) []) x → (b ≡ true) × (o ≡ x)
one_by true o x c = elim (Contains-cons_cases o [] x c) [
  | inl e ↦ (refl, e)
  | inr r ↦ absurd (Contains-nil x r)
]
one_by false o x c = absurd (Contains-nil x c)

below_members : (task : Task) (types : List ℕ) (o : ℕ)
    → Contains (objects_below task types (length task.objects)) o ↔ (has_some_type task types o ≡ true)
below_members task types o = (
  (λ c. of_one (Contains-from_flat_map (of_kind task types) (range_with_len 0 (length task.objects)) o c)),
  (λ h. Contains-flat_map (of_kind task types) (range_with_len 0 (length task.objects)) o o
      (range_contains (length task.objects) o (typed_within task types o h))
      (subst (λ b. Contains (cond b (o ∷ []) []) o) (sym h) (Contains-cons_first o []))),
)
  where
    of_one : (x : ℕ) × Contains (range_with_len 0 (length task.objects)) x × Contains (of_kind task types x) o
        → has_some_type task types o ≡ true
    of_one (x, among, is) = let (has, same) = one_by (has_some_type task types x) x o is in
        subst (λ y. has_some_type task types y ≡ true) same has

rows_single : (xs : List ℕ) → rows_of 1 (length xs) xs ≡ map (λ x. x ∷ []) xs
rows_single [] = refl
rows_single (x ∷ xs) = ap (λ rows. (x ∷ []) ∷ rows) (rows_single xs)

kind_rows : (task : Task) (types : List ℕ) (row : List ℕ)
    → Contains (map (λ x. x ∷ []) (objects_below task types (length task.objects))) row
    ↔ IsTrue (is_of_kind task types row)
kind_rows task types [] = (
  (λ c. of_one (Contains-from_map (λ x. x ∷ []) (objects_below task types (length task.objects)) [] c)),
  (λ h. absurd (false≢true h)),
)
  where
    apart : (x : ℕ) → (x ∷ []) ≡ [] → ⊥
    apart x e = cc

    of_one : (x : ℕ) × Contains (objects_below task types (length task.objects)) x × ((x ∷ []) ≡ [])
        → IsTrue (is_of_kind task types [])
    of_one (x, c, e) = absurd (apart x e)
kind_rows task types (o ∷ []) = (
  (λ c. of_one (Contains-from_map (λ x. x ∷ []) (objects_below task types (length task.objects)) (o ∷ []) c)),
  (λ h. Contains-map (λ x. x ∷ []) (objects_below task types (length task.objects)) o
      ((below_members task types o).1 h)),
)
  where
    same_head : (x : ℕ) → (x ∷ []) ≡ (o ∷ []) → x ≡ o
    same_head x e = cc

    of_one : (x : ℕ) × Contains (objects_below task types (length task.objects)) x × ((x ∷ []) ≡ (o ∷ []))
        → IsTrue (has_some_type task types o)
    of_one (x, c, e) = (below_members task types o).0
        (subst (Contains (objects_below task types (length task.objects))) (same_head x e) c)
kind_rows task types (o ∷ (p ∷ rest)) = (
  (λ c. of_one (Contains-from_map (λ x. x ∷ []) (objects_below task types (length task.objects))
      (o ∷ (p ∷ rest)) c)),
  (λ h. absurd (false≢true h)),
)
  where
    apart : (x : ℕ) → (x ∷ []) ≡ (o ∷ (p ∷ rest)) → ⊥
    apart x e = cc

    of_one : (x : ℕ) × Contains (objects_below task types (length task.objects)) x
        × ((x ∷ []) ≡ (o ∷ (p ∷ rest))) → IsTrue (is_of_kind task types (o ∷ (p ∷ rest)))
    of_one (x, c, e) = absurd (apart x e)

pub type_table_is : (task : Task) (types flat : List ℕ) (count : ℕ) (result : Result Rows AllocError)
    → flat ≡ objects_below task types (length task.objects) → count ≡ length flat
    → IfOk result (λ t. t.arity ≡ 1) → IfOk result (λ t. AreRows 1 t.rows) →
    IfOk result (λ t. SameRows t.rows (rows_of 1 count flat)) → IfOk result (IsTypeTable task types)
type_table_is task types flat count (Ok table) is many arity rows same = record {
  arity = arity;
  rows = rows;
  objects = λ row. (
    (λ c. (kind_rows task types row).0 (subst (λ xs. Contains xs row) all ((same row).0 c))),
    (λ h. (same row).1 (subst (λ xs. Contains xs row) (sym all) ((kind_rows task types row).1 h))),
  );
}
  where
    all : rows_of 1 count flat ≡ map (λ x. x ∷ []) (objects_below task types (length task.objects))
    all = ap (λ n. rows_of 1 n flat) many ∙ (rows_single flat ∙ ap (map (λ x. x ∷ [])) is)
type_table_is task types flat count (Err x) is many arity rows same = tt

pub tables_more : (task : Task) (lists : List (List ℕ)) (firsts : List ℕ) (k : ℕ) (types : List ℕ)
    (tables new : List Rows) (table : Rows) → AreTypeTables task lists firsts k tables
    → IsTypeTable task types table → types ≡ list_at lists (slice_index firsts k) → new ≡ tables
    ++ table ∷ [] →
    AreTypeTables task lists firsts (k + 1) new
tables_more task lists firsts k types tables new table are is same e = record {
  many = (let long = ap length e ∙ length-append tables (table ∷ []) in let many = are.many in omega arith);
  each = λ j d low. elim (old_or_new j low) [
    | inl old ↦ subst (IsTypeTable task (list_at lists (slice_index firsts j)))
        (sym (ap (λ xs. get_or xs j d) e ∙ get_or-append tables (table ∷ []) d j
        (let many = are.many in omega arith))) (are.each j d old)
    | inr last ↦ subst (λ n. IsTypeTable task (list_at lists (slice_index firsts n)) (get_or new j d))
        (sym last)
        (subst (λ ts. IsTypeTable task ts (get_or new j d)) same
        (subst (IsTypeTable task types) (sym (here j d last)) is))
  ];
}
  where
    old_or_new : (j : ℕ) → j < k + 1 → (j < k) ⊎ (j ≡ k)
    old_or_new j low = grind arith

    here : (j : ℕ) (d : Rows) → j ≡ k → get_or new j d ≡ table
    here j d last = (λ i. get_or (e i) ((last ∙ sym are.many) i) d) ∙ get_or-append_seam tables table [] d

-- the list of a number
pub kind_here : (lists : List (Bor (List ℕ))) (firsts : List ℕ) (k : ℕ) (d : Bor (List ℕ))
    → All (λ f. f < length lists) firsts → k < length firsts
    → (get_or lists (slice_index firsts k) d).now ≡ list_at (lists_of lists) (slice_index firsts k)
kind_here lists firsts k d places h =
    sym (list_here lists (slice_index firsts k) (get_or lists (slice_index firsts k) d) d (places k 0 h) refl)

pub kind_below : (n : ℕ) (lists : List (Bor (List ℕ))) (firsts : List ℕ) (k : ℕ) (d : Bor (List ℕ))
    → All (λ f. f < length lists) firsts → k < length firsts
    → All (λ (types : List ℕ). All (λ t. t < n) types) (lists_of lists) →
    All (λ t. t < n) (get_or lists (slice_index firsts k) d).now
kind_below n lists firsts k d places h all =
    subst (AreBelow n) (sym (kind_here lists firsts k d places h))
    (All-get_or (AreBelow n) (lists_of lists) (slice_index firsts k) []
    (subst (λ m. slice_index firsts k < m) (sym (length-map lists (λ (list : Bor (List ℕ)). list.now)))
    (places k 0 h)) all)

pub tables_end : (task : Task) (lists : List (List ℕ)) (firsts : List ℕ) (k : ℕ) (tables : List Rows)
    → k ≡ length firsts → AreTypeTables task lists firsts k tables
    → AreTypeTables task lists firsts (length firsts) tables
tables_end task lists firsts k tables e are = subst (λ n. AreTypeTables task lists firsts n tables) e are

-- ---- the table of a parameter

-- the types of a parameter stand in the list of all where its schema's begin
place_read : (schemas : List Schema) (i : ℕ) (s : Schema) (p : ℕ) → slice_get schemas i ≡ Some s
    → p < length s.parameters → list_at (all_types schemas) (length (all_types (take i schemas)) + p)
    ≡ types_at s.parameters p
place_read schemas i s p at h =
    let is : get_or schemas i s ≡ s = get_or_from_slice_get schemas i s s at in
    get_or-flat_map schema_types schemas i p s [] (slice_get_within schemas i s at)
    (subst (λ n. p < n)
    (sym (ap (λ (x : Schema). length (schema_types x)) is
    ∙ length-map s.parameters (λ (x : Parameter). x.types))) h)
    ∙ ap (λ (x : Schema). get_or (schema_types x) p []) is

place_within : (schemas : List Schema) (i : ℕ) (s : Schema) (p : ℕ) → slice_get schemas i ≡ Some s
    → p < length s.parameters → length (all_types (take i schemas)) + p < length (all_types schemas)
place_within schemas i s p at h =
    let is : get_or schemas i s ≡ s = get_or_from_slice_get schemas i s s at in
    let long : length (schema_types (get_or schemas i s)) ≡ length s.parameters =
    ap (λ (x : Schema). length (schema_types x)) is
    ∙ length-map s.parameters (λ (x : Parameter). x.types) in
    let room = length-flat_map-take schema_types schemas i s (slice_get_within schemas i s at) in
    omega arith

pub kinds_are : (task : Task) (schemas : List Schema) (starts numbers firsts : List ℕ)
    (lists : List (Bor (List ℕ))) (tables : List Rows) → schemas ≡ task.schemas
    → AreStarts schemas (length schemas) starts → lists_of lists ≡ all_types schemas →
    IsNumbering (lists_of lists) numbers firsts → AreTypeTables task (lists_of lists) firsts
    (length firsts) tables → AreKindTables task starts numbers tables
kinds_are task schemas starts numbers firsts lists tables is begin same are made = record {
  many = begin.many ∙ ap length is;
  each = λ i s p at h. one i s p (slice_index starts i + p)
      (subst (λ (xs : List Schema). slice_get xs i ≡ Some s) (sym is) at) h
      (ap (λ n. n + p)
      (begin.each i
      (slice_get_within schemas i s
      (subst (λ (xs : List Schema). slice_get xs i ≡ Some s) (sym is) at))));
}
  where
    one : (i : ℕ) (s : Schema) (p place : ℕ) → slice_get schemas i ≡ Some s → p < length s.parameters
        → place ≡ length (all_types (take i schemas)) + p
        → IsTableAt task (types_at s.parameters p) numbers tables place
    one i s p place at h e =
        let low : place < length (lists_of lists) = subst (λ n. n < length (lists_of lists)) (sym e)
        (subst (λ xs. length (all_types (take i schemas)) + p < length xs) (sym same)
        (place_within schemas i s p at h)) in
        let own : IsNumberOf (lists_of lists) firsts place (slice_index numbers place) = are.each place low in
        let types : list_at (lists_of lists) (slice_index firsts (slice_index numbers place)) ≡ types_at
        s.parameters p = own.same ∙ ((λ j. list_at (same j) (e j)) ∙ place_read schemas i s p at h) in
        record {
          numbered = (let many = are.many in omega arith);
          within = (let many = made.many in let within = own.within in omega arith);
          table = λ d. subst (λ ts. IsTypeTable task ts (get_or tables (slice_index numbers place) d)) types
              (made.each (slice_index numbers place) d own.within);
        }

-- what is kept of the schema and the parameter
module _ (inside task : Task) (starts numbers : List ℕ) (tables : List Rows) (schema parameter first : ℕ)
    (view : inside ≡ task) (kept : AreKindTables inside starts numbers tables)
    (within : schema < length task.schemas)
    (below : (s : Schema) → slice_get task.schemas schema ≡ Some s → parameter < length s.parameters)
    (read : first ≡ get_or starts schema first) where
  are : AreKindTables task starts numbers tables
  are = subst (λ (t : Task). AreKindTables t starts numbers tables) view kept

  first_is : first ≡ slice_index starts schema
  first_is = read ∙ get_or_default starts schema first 0 (let many = are.many in omega arith)

  table_at : (s : Schema) → slice_get task.schemas schema ≡ Some s
      → IsTableAt task (types_at s.parameters parameter) numbers tables (first + parameter)
  table_at s at = subst (λ n. IsTableAt task (types_at s.parameters parameter) numbers tables (n + parameter))
      (sym first_is) (are.each schema s parameter at (below s at))

  nothing : Schema
  nothing = record { name = []; parameters = []; condition = []; delete = []; add = [] }

  found : slice_get task.schemas schema ≡ Some (get_or task.schemas schema nothing)
  found = slice_get-get_or task.schemas schema nothing within

  -- the parameter has a number
  pub place_numbered : first + parameter < length numbers
  place_numbered = (table_at (get_or task.schemas schema nothing) found).numbered

  number_is : (number : ℕ) → number ≡ get_or numbers (first + parameter) number
      → number ≡ slice_index numbers (first + parameter)
  number_is number is = is ∙ get_or_default numbers (first + parameter) number 0 place_numbered

  -- the number has a table
  pub number_within : (number : ℕ) → number ≡ get_or numbers (first + parameter) number
      → number < length tables
  number_within number is = subst (λ n. n < length tables) (sym (number_is number is))
      (table_at (get_or task.schemas schema nothing) found).within

  -- the table is that of the types
  pub number_table : (number : ℕ) (table : Rows) → number ≡ get_or numbers (first + parameter) number
      → table ≡ get_or tables number table → (s : Schema) → slice_get task.schemas schema ≡ Some s
      → IsTypeTable task (types_at s.parameters parameter) table
  number_table number table is at s of = subst (IsTypeTable task (types_at s.parameters parameter))
      (sym (at ∙ ap (λ n. get_or tables n table) (number_is number is))) ((table_at s of).table table)
