-- The list of all steps has the steps of the task, and ascends; steps under assignments compare as the
-- objects of the classes do.
use Rattle.std.proofs.Common.{◌≡◌, ◌≢◌, ℕ, ◌+◌, ◌<◌, ◌≤◌, zero, suc, ◌==◌, ◌↔◌, ◌⊎◌, inl, inr, Bool, true}
use Rattle.std.proofs.Common.{false, not, cond, List, [], ◌∷◌, ◌++◌, length, map, filter, get_or, Option}
use Rattle.std.proofs.Common.{Some, None, slice_get, refl, sym, ◌∙◌, ap, subst, arith, Contains, eqb-true}
use Rattle.std.proofs.Common.{eq-eqb}
use Rattle.std.specs.Prelude.{slice_index}
use Rattle.std.specs.Cmp.{IsTotalOrder}
use Rattle.std.specs.Cmp.Lexicographic.{texts_ties}
use Rattle.std.specs.declared.cmp.Ordering.{Ordering}
use Rattle.std.specs.declared.cmp.Ordering.TheVariants.{Less, Equal, Greater}
use Rattle.std.specs.List.{AllPairs, AllByRecursion, flat_map, range_with_len}
use Rattle.std.specs.List.Sorted.{IsStrictlySortedBy}
use Rattle.std.specs.Ordering.{nat_cmp, ordering_then, is_eq}
use Rattle.std.proofs.lemmas.Bool.{false≢true}
use Rattle.std.proofs.lemmas.Cmp.{tied_itself, nat_cmp_total, nat_list_cmp_total, on_total}
use Rattle.std.proofs.lemmas.Slice.Eq.{bytes_eq-Decides}
use Rattle.std.proofs.lemmas.Grind.{same_number_lists}
use Rattle.std.proofs.lemmas.List.{length-map, map-append, get_or-map as list_map}
use Rattle.std.proofs.lemmas.List.Elements.{Contains-get_or, Contains-append_cases}
use Rattle.std.proofs.lemmas.List.FromFn.{length-map-range_with_len, get_or-map-range_with_len}
use Rattle.std.proofs.lemmas.Option.{slice_get_within, get_or_from_slice_get}
use Rattle.pl_rows.specs.Rows.{row_cmp}
use Rattle.pl_rows.proofs.Canonical.{Contains-cons_cases, Contains-cons_first, Contains-cons_rest}
use Rattle.pl_rows.proofs.Canonical.{Contains-nil}
use Rattle.pl_hyper.proofs.Members.{range_contains, within_range, range_rises, same_or_not, rises_tail}
use Rattle.pl_hyper.proofs.Members.{rises_head}
use Rattle.pl_task.specs.declared.data.Schema.{Schema}
use Rattle.pl_task.specs.declared.task.Task.{Task}
use Rattle.pl_task.specs.Instance.{Instance}
use Rattle.pl_task.specs.States.{State, IsStep, IsApplicable, is_applicable}
use Rattle.pl_task.proofs.TypeLemmas.{is_applicable-decides, applicable_step}
use Rattle.pl_join.specs.declared.slot.Slot.{Slot}
use Rattle.pl_join.specs.declared.slot.Slot.TheVariants.{Fixed, Class}
use Rattle.pl_join.specs.Relation.{Assignment, Agree, slot_value}
use Rattle.pl_join.proofs.Assignments.{agree_map}
use Rattle.pl_join.proofs.Members.{Contains-map, Contains-from_map, Contains-filter, Contains-from_filter}
use Rattle.pl_join.proofs.Members.{Contains-flat_map, Contains-from_flat_map}
use Rattle.pl_normal.specs.Slots.{parameter_slots, slot_at}
use Rattle.pl_normal.specs.ParameterOrder.{is_among, classes_in_order, parameter_order, order_by, order_of}
use Rattle.pl_normal.specs.Query.{args_under, step_under}
use Rattle.pl_normal.specs.StepOrder.{read_in, step_key, step_cmp}
use Rattle.pl_normal.specs.Steps.{tuples, place_of, arranged, step_of, steps_of, all_steps, applicable_steps}
use Rattle.pl_normal.specs.Laws.{IsOrderOfAll}
use Rattle.pl_normal.proofs.SlotLemmas.{parameter_value, args_under-length}
use Rattle.pl_normal.proofs.Ordered.{in_order_unfixed, unfixed_itself, unfixed_in_order, parameter_order-is}

-- ---- ascending lists

all_by : {K : Type 0} (P : K → Type 0) (xs : List K) → ((x : K) → Contains xs x → P x) → AllByRecursion P xs
all_by P [] h = tt
all_by P (x ∷ xs) h = (h x (Contains-cons_first x xs), all_by P xs (λ y c. h y (Contains-cons_rest x xs y c)))

by_all : {K : Type 0} (P : K → Type 0) (xs : List K) (x : K) → AllByRecursion P xs → Contains xs x → P x
by_all P [] x h c = absurd (Contains-nil x c)
by_all P (y ∷ xs) x h c = elim (Contains-cons_cases y xs x c) [
  | inl e ↦ subst P e h.0
  | inr r ↦ by_all P xs x h.1 r
]

pub sorted_none : {K : Type 0} (c : K → K → Ordering) → IsStrictlySortedBy c []
unfolding IsStrictlySortedBy
sorted_none c = tt

pub sorted_first : {K : Type 0} (c : K → K → Ordering) (x : K) (xs : List K)
    → ((y : K) → Contains xs y → c x y ≡ Less) → IsStrictlySortedBy c xs → IsStrictlySortedBy c (x ∷ xs)
unfolding IsStrictlySortedBy
sorted_first c x xs h s = (all_by (λ y. c x y ≡ Less) xs h, s)

first_below : {K : Type 0} (c : K → K → Ordering) (x : K) (xs : List K) (y : K)
    → IsStrictlySortedBy c (x ∷ xs) → Contains xs y → c x y ≡ Less
unfolding IsStrictlySortedBy
first_below c x xs y s h = by_all (λ z. c x z ≡ Less) xs y s.0 h

sorted_rest : {K : Type 0} (c : K → K → Ordering) (x : K) (xs : List K) → IsStrictlySortedBy c (x ∷ xs)
    → IsStrictlySortedBy c xs
unfolding IsStrictlySortedBy
sorted_rest c x xs s = s.1

sorted_append : {K : Type 0} (c : K → K → Ordering) (xs ys : List K) → IsStrictlySortedBy c xs
    → IsStrictlySortedBy c ys → ((x y : K) → Contains xs x → Contains ys y → c x y ≡ Less)
    → IsStrictlySortedBy c (xs ++ ys)
sorted_append c [] ys a b h = b
sorted_append c (x ∷ xs) ys a b h =
    sorted_first c x (xs ++ ys) (λ y k. elim (Contains-append_cases xs ys y k) [
      | inl old ↦ first_below c x xs y a old
      | inr new ↦ h x y (Contains-cons_first x xs) new
    ]) (sorted_append c xs ys (sorted_rest c x xs a) b (λ u v p q. h u v (Contains-cons_rest x xs u p) q))

-- blocks one after another
sorted_blocks : {K : Type 0} (c : K → K → Ordering) (g : ℕ → List K) (hs : List ℕ)
    → AllPairs (λ a b. a < b) hs → ((h : ℕ) → Contains hs h → IsStrictlySortedBy c (g h))
    → ((h k : ℕ) (x y : K) → h < k → Contains (g h) x → Contains (g k) y → c x y ≡ Less) →
    IsStrictlySortedBy c (flat_map g hs)
sorted_blocks c g [] up each apart = sorted_none c
sorted_blocks {K = K} c g (h ∷ hs) up each apart =
    sorted_append c (g h) (flat_map g hs) (each h (Contains-cons_first h hs))
    (sorted_blocks c g hs (rises_tail h hs up) (λ k m. each k (Contains-cons_rest h hs k m)) apart)
    (λ x y a b. later x y a (Contains-from_flat_map g hs y b))
  where
    later : (x y : K) → Contains (g h) x → (k : ℕ) × Contains hs k × Contains (g k) y → c x y ≡ Less
    later x y a (k, m, b) = apart h k x y (rises_head h hs up k m) a b

-- a map that keeps the order
pub sorted_map : {J K : Type 0} (d : J → J → Ordering) (c : K → K → Ordering) (f : J → K) (xs : List J)
    → ((x y : J) → Contains xs x → Contains xs y → c (f x) (f y) ≡ d x y) → IsStrictlySortedBy d xs
    → IsStrictlySortedBy c (map f xs)
sorted_map d c f [] keeps s = sorted_none c
sorted_map {J = J} {K = K} d c f (x ∷ xs) keeps s =
    sorted_first c (f x) (map f xs) (λ y k. of_one y (Contains-from_map f xs y k))
    (sorted_map d c f xs
    (λ u v p q. keeps u v (Contains-cons_rest x xs u p) (Contains-cons_rest x xs v q))
    (sorted_rest d x xs s))
  where
    of_one : (y : K) → (z : J) × Contains xs z × (f z ≡ y) → c (f x) y ≡ Less
    of_one y (z, m, e) = subst (λ w. c (f x) w ≡ Less) e
        (keeps x z (Contains-cons_first x xs) (Contains-cons_rest x xs z m) ∙ first_below d x xs z s m)

sorted_kept : {K : Type 0} (c : K → K → Ordering) (p : K → Bool) (x : K) (xs : List K) (b : Bool)
    → IsStrictlySortedBy c (x ∷ xs) → IsStrictlySortedBy c (filter p xs)
    → IsStrictlySortedBy c (cond b (x ∷ filter p xs) (filter p xs))
sorted_kept c p x xs true s t = sorted_first c x (filter p xs)
    (λ y k. first_below c x xs y s (Contains-from_filter p xs y k).0) t
sorted_kept c p x xs false s t = t

pub sorted_filter : {K : Type 0} (c : K → K → Ordering) (p : K → Bool) (xs : List K) → IsStrictlySortedBy c xs
    → IsStrictlySortedBy c (filter p xs)
sorted_filter c p [] s = s
sorted_filter c p (x ∷ xs) s = sorted_kept c p x xs (p x) s (sorted_filter c p xs (sorted_rest c x xs s))

-- ---- rows that begin with a number

nat_less : (a b : ℕ) → a < b → nat_cmp a b ≡ Less
nat_less a b h = grind arith

pub row_rest : (a : ℕ) (xs ys : List ℕ) → row_cmp (a ∷ xs) (a ∷ ys) ≡ row_cmp xs ys
row_rest a xs ys = ap (λ o. ordering_then o (row_cmp xs ys)) (tied_itself nat_cmp_total a)

pub row_less : (a b : ℕ) (xs ys : List ℕ) → a < b → row_cmp (a ∷ xs) (b ∷ ys) ≡ Less
row_less a b xs ys h = ap (λ o. ordering_then o (row_cmp xs ys)) (nat_less a b h)

-- ---- tuples

-- all lists of k numbers below n
pub record IsTuple (n k : ℕ) (tuple : List ℕ) : Type 0 where
  pub many : length tuple ≡ k
  pub below : (x : ℕ) → Contains tuple x → x < n

abbrev tuple_block : ℕ → ℕ → ℕ → List (List ℕ)
tuple_block n k o = map (λ rest. o ∷ rest) (tuples n k)

pub tuple_is : (n k : ℕ) (tuple : List ℕ) → Contains (tuples n k) tuple → IsTuple n k tuple
tuple_is n zero tuple h = elim (Contains-cons_cases [] [] tuple h) [
  | inl e ↦ subst (IsTuple n 0) e (record { many = refl; below = λ x c. absurd (Contains-nil x c) })
  | inr r ↦ absurd (Contains-nil tuple r)
]
tuple_is n (suc k) tuple h = of_block (λ rest m. tuple_is n k rest m)
    (Contains-from_flat_map (tuple_block n k) (range_with_len 0 n) tuple h)
  where
    of_rest : ((rest : List ℕ) → Contains (tuples n k) rest → IsTuple n k rest) → (o : ℕ) → o < n
        → (rest : List ℕ) × Contains (tuples n k) rest × ((o ∷ rest) ≡ tuple) → IsTuple n (suc k) tuple
    of_rest next o low (rest, m, e) =
        let is = next rest m in
        subst (IsTuple n (suc k)) e (record {
          many = (let long = is.many in ap suc long);
          below = λ x c. elim (Contains-cons_cases o rest x c) [
            | inl same ↦ subst (λ y. y < n) same low
            | inr r ↦ is.below x r
          ];
        })

    of_block : ((rest : List ℕ) → Contains (tuples n k) rest → IsTuple n k rest) → (o : ℕ)
        × Contains (range_with_len 0 n) o × Contains (tuple_block n k o) tuple → IsTuple n (suc k) tuple
    of_block next (o, low, m) = of_rest next o (within_range n o low)
        (Contains-from_map (λ rest. o ∷ rest) (tuples n k) tuple m)

pub is_tuple : (n k : ℕ) (tuple : List ℕ) → IsTuple n k tuple → Contains (tuples n k) tuple
is_tuple n zero [] is = Contains-cons_first [] []
is_tuple n zero (x ∷ rest) is = absurd (let long = is.many in omega arith)
is_tuple n (suc k) [] is = absurd (let long = is.many in omega arith)
is_tuple n (suc k) (x ∷ rest) is =
    Contains-flat_map (tuple_block n k) (range_with_len 0 n) x (x ∷ rest)
    (range_contains n x (is.below x (Contains-cons_first x rest)))
    (Contains-map (λ r. x ∷ r) (tuples n k) rest
    (is_tuple n k rest
    (record {
      many = (let long = is.many in omega arith);
      below = λ y c.
          is.below y (Contains-cons_rest x rest y c);
    })))

pub tuples_ascend : (n k : ℕ) → IsStrictlySortedBy row_cmp (tuples n k)
tuples_ascend n zero = sorted_first row_cmp [] [] (λ y c. absurd (Contains-nil y c)) (sorted_none row_cmp)
tuples_ascend n (suc k) =
    sorted_blocks row_cmp (tuple_block n k) (range_with_len 0 n) (range_rises n)
    (λ o m. sorted_map row_cmp row_cmp (λ rest. o ∷ rest) (tuples n k) (λ x y p q. row_rest o x y)
    (tuples_ascend n k))
    (λ o p x y low a b. apart o p x y low (Contains-from_map (λ rest. o ∷ rest) (tuples n k) x a)
    (Contains-from_map (λ rest. p ∷ rest) (tuples n k) y b))
  where
    apart : (o p : ℕ) (x y : List ℕ) → o < p → (r : List ℕ) × Contains (tuples n k) r × ((o ∷ r) ≡ x)
        → (t : List ℕ) × Contains (tuples n k) t × ((p ∷ t) ≡ y) → row_cmp x y ≡ Less
    apart o p x y low (r, m, e) (t, q, f) = (λ i. row_cmp (sym e i) (sym f i)) ∙ row_less o p r t low

-- ---- places in an order

place_cases : (p x : ℕ) (xs : List ℕ) (b : Bool) → (x == p) ≡ b → Contains (x ∷ xs) p
    → (Contains xs p → (place_of p xs < length xs) × (slice_index xs (place_of p xs) ≡ p)) →
    (cond b 0 (place_of p xs + 1) < suc (length xs))
    × (slice_index (x ∷ xs) (cond b 0 (place_of p xs + 1)) ≡ p)
place_cases p x xs true e h next = (omega arith, eqb-true x p e)
place_cases p x xs false e h next = elim (Contains-cons_cases x xs p h) [
  | inl is ↦ absurd (false≢true (sym e ∙ eq-eqb x p is))
  | inr r ↦ (let (low, at) = next r in
      (omega arith, ap (slice_index (x ∷ xs)) (one_more (place_of p xs)) ∙ at))
]
  where
    one_more : (k : ℕ) → k + 1 ≡ suc k
    one_more k = omega arith

-- a member of the order stands at its place
pub place_is : (p : ℕ) (xs : List ℕ) → Contains xs p → (place_of p xs < length xs)
    × (slice_index xs (place_of p xs) ≡ p)
place_is p [] h = absurd (Contains-nil p h)
place_is p (x ∷ xs) h = place_cases p x xs (x == p) refl h (place_is p xs)

-- in an order without repeats no other place has it
pub one_place : (xs : List ℕ) (i j : ℕ) → AllPairs (λ a b. a ≢ b) xs → i < length xs → j < length xs
    → get_or xs i 0 ≡ get_or xs j 0 → i ≡ j
one_place xs i j once h k e = elim (three i j) [
  | inl low ↦ absurd (once i j 0 low k e)
  | inr (inl same) ↦ same
  | inr (inr high) ↦ absurd (once j i 0 high h (sym e))
]
  where
    three : (a b : ℕ) → (a < b) ⊎ ((a ≡ b) ⊎ (b < a))
    three a b = grind arith

-- the tuple that is read in the order, put at the parameters' numbers
read_arranged : (n : ℕ) (order tuple : List ℕ) → IsOrderOfAll n order → length tuple ≡ n
    → read_in order (arranged order tuple) ≡ tuple
read_arranged n order tuple is long =
    let many = is.many in
    same_number_lists (read_in order (arranged order tuple)) tuple
    (length-map order (slice_index (arranged order tuple)) ∙ (many ∙ sym long))
    (λ i h. at i (omega (arith, h, many, length-map order (slice_index (arranged order tuple)))))
  where
    at : (i : ℕ) → i < length order → get_or (read_in order (arranged order tuple)) i 0 ≡ get_or tuple i 0
    at i h =
        let p : ℕ = get_or order i 0 in
        let among : Contains order (get_or order i 0) = Contains-here order i h in
        let (low, back) = place_is (get_or order i 0) order among in
        list_map (slice_index (arranged order tuple)) order i 0 0 h
        ∙ (get_or-map-range_with_len (λ q. slice_index tuple (place_of q order)) 0 (length order)
        (get_or order i 0) (get_or order i 0) 0 (small (get_or order i 0) among) (omega arith)
        ∙ ap (slice_index tuple) (one_place order (place_of (get_or order i 0) order) i is.once low h back))
      where
        Contains-here : (xs : List ℕ) (k : ℕ) → k < length xs → Contains xs (get_or xs k 0)
        Contains-here xs k l = Contains-get_or xs k 0 l

        small : (q : ℕ) → Contains order q → q < length order
        small q m = let low = (is.all q).0 m in let many = is.many in omega arith

-- the objects of a step, read in the order and put back
arranged_read : (n : ℕ) (order args : List ℕ) → IsOrderOfAll n order → length args ≡ n
    → arranged order (read_in order args) ≡ args
arranged_read n order args is long =
    let many = is.many in
    same_number_lists (arranged order (read_in order args)) args
    (length-map-range_with_len (λ p. slice_index (read_in order args) (place_of p order)) 0 (length order)
    ∙ (many ∙ sym long))
    (λ p h. at p (omega (
      arith,
      h,
      many,
      length-map-range_with_len (λ p. slice_index (read_in order args) (place_of p order))
          0 (length order),
    )))
  where
    at : (p : ℕ) → p < length order → get_or (arranged order (read_in order args)) p 0 ≡ get_or args p 0
    at p h =
        let many = is.many in
        let (low, back) = place_is p order ((is.all p).1 (omega arith)) in
        get_or-map-range_with_len (λ q. slice_index (read_in order args) (place_of q order)) 0
        (length order) p p 0 h (omega arith)
        ∙ (list_map (slice_index args) order (place_of p order) 0 0 low ∙ ap (slice_index args) back)

-- ---- all steps

pub order_at : (task : Task) (j : ℕ) (schema : Schema) → slice_get task.schemas j ≡ Some schema
    → order_of task j ≡ parameter_order schema
order_at task j schema at = ap order_by at

order_is : (task : Task) (j : ℕ) (schema : Schema) → slice_get task.schemas j ≡ Some schema
    → IsOrderOfAll (length schema.parameters) (order_of task j)
order_is task j schema at = subst (IsOrderOfAll (length schema.parameters)) (sym (order_at task j schema at))
    (parameter_order-is schema)

pub schema_at : (task : Task) (j : ℕ) (found : Option Schema) → slice_get task.schemas j ≡ found
    → j < length task.schemas → (schema : Schema) × (slice_get task.schemas j ≡ Some schema)
schema_at task j (Some schema) at h = (schema, at)
schema_at task j None at h = absurd (none_within task.schemas j at h)
  where
    none_within : (xs : List Schema) (k : ℕ) → slice_get xs k ≡ None → k < length xs → ⊥
    none_within [] k e l = omega arith
    none_within (x ∷ xs) zero e l = cc
    none_within (x ∷ xs) (suc k) e l = none_within xs k e (omega arith)

-- a tuple of objects gives a step
tuple_step : (task : Task) (j : ℕ) (schema : Schema) (tuple : List ℕ) → slice_get task.schemas j ≡ Some schema
    → IsTuple (length task.objects) (length (order_of task j)) tuple
    → IsStep task (step_of j (order_of task j) tuple)
tuple_step task j schema tuple at is = record {
  schema = schema;
  found = at;
  many = length-map-range_with_len (λ p. slice_index tuple (place_of p (order_of task j))) 0
      (length (order_of task j)) ∙ (order_is task j schema at).many;
  within = λ k d h. subst (λ x. x < length task.objects)
      (sym (get_or-map-range_with_len (λ p. slice_index tuple (place_of p (order_of task j))) 0
      (length (order_of task j)) k k d (small k d h) (omega arith))) (object k (small k d h));
}
  where
    small : (k d : ℕ) → k < length (arranged (order_of task j) tuple) → k < length (order_of task j)
    small k d h = let long = length-map-range_with_len (λ p. slice_index tuple (place_of p (order_of task j)))
        0 (length (order_of task j)) in omega arith

    object : (k : ℕ) → k < length (order_of task j) → slice_index tuple
        (place_of k (order_of task j)) < length task.objects
    object k h =
        let order = order_is task j schema at in
        let many = order.many in
        let long = is.many in
        let (low, back) = place_is k (order_of task j) ((order.all k).1 (omega arith)) in
        is.below (slice_index tuple (place_of k (order_of task j)))
        (Contains-get_or tuple (place_of k (order_of task j)) 0 (omega arith))

pub listed_is_step : (task : Task) (step : Instance) → Contains (all_steps task) step → IsStep task step
unfolding all_steps
listed_is_step task step h =
    of_schema (Contains-from_flat_map (steps_of task) (range_with_len 0 (length task.schemas)) step h)
  where
    of_tuple : (j : ℕ) → (schema : Schema) × (slice_get task.schemas j ≡ Some schema) → (tuple : List ℕ)
        × Contains (tuples (length task.objects) (length (order_of task j))) tuple
        × (step_of j (order_of task j) tuple ≡ step) → IsStep task step
    of_tuple j (schema, at) (tuple, m, e) = subst (IsStep task) e
        (tuple_step task j schema tuple at
        (tuple_is (length task.objects) (length (order_of task j)) tuple m))

    of_schema : (j : ℕ) × Contains (range_with_len 0 (length task.schemas)) j
        × Contains (steps_of task j) step → IsStep task step
    of_schema (j, low, m) =
        of_tuple j (schema_at task j (slice_get task.schemas j) refl
        (within_range (length task.schemas) j low))
        (Contains-from_map (step_of j (order_of task j))
        (tuples (length task.objects) (length (order_of task j))) step m)

pub step_is_listed : (task : Task) (step : Instance) → IsStep task step → Contains (all_steps task) step
unfolding all_steps
step_is_listed task step is =
    let order = order_is task step.schema is.schema is.found in
    let low = slice_get_within task.schemas step.schema is.schema is.found in
    Contains-flat_map (steps_of task) (range_with_len 0 (length task.schemas)) step.schema step
    (range_contains (length task.schemas) step.schema low)
    (subst (Contains (steps_of task step.schema))
    (λ i. record {
      schema = step.schema;
      args = arranged_read (length is.schema.parameters)
          (order_of task step.schema) step.args order is.many i;
    })
    (Contains-map (step_of step.schema (order_of task step.schema))
    (tuples (length task.objects) (length (order_of task step.schema)))
    (read_in (order_of task step.schema) step.args)
    (is_tuple (length task.objects) (length (order_of task step.schema))
    (read_in (order_of task step.schema) step.args) (record {
      many = length-map (order_of task step.schema) (slice_index step.args);
      below = λ x m. of_one x (Contains-from_map (slice_index step.args) (order_of task step.schema) x m);
    }))))
  where
    of_one : (x : ℕ) → (p : ℕ) × Contains (order_of task step.schema) p × (slice_index step.args p ≡ x)
        → x < length task.objects
    of_one x (p, m, e) =
        let order = order_is task step.schema is.schema is.found in
        let low = (order.all p).0 m in
        let many = is.many in
        subst (λ y. y < length task.objects) e (is.within p 0 (omega arith))

-- ---- the order of steps

pub step_order_total : (task : Task) → IsTotalOrder (step_cmp task)
step_order_total task = on_total (step_key task) nat_list_cmp_total

pub ties_same : (xs ys : List ℕ) → row_cmp xs ys ≡ Equal → xs ≡ ys
ties_same xs ys h = (bytes_eq-Decides xs ys).0 (texts_ties xs ys ∙ ap is_eq h)

head_same : (a b : ℕ) (xs ys : List ℕ) → (a ∷ xs) ≡ (b ∷ ys) → (a ≡ b) × (xs ≡ ys)
head_same a b xs ys h = (cc, cc)

pub steps_tie_nowhere : (task : Task) (a b : Instance) → IsStep task a → IsStep task b
    → step_cmp task a b ≡ Equal → a ≡ b
unfolding step_key
steps_tie_nowhere task a b p q h =
    let (schema, read) = head_same a.schema b.schema _ _ (ties_same (step_key task a) (step_key task b) h) in
    let same : slice_get task.schemas b.schema ≡ Some p.schema = ap (slice_get task.schemas) (sym schema)
    ∙ p.found in
    let order = order_is task a.schema p.schema p.found in
    let parameters : length b.args ≡ length p.schema.parameters = q.many
    ∙ ap (λ (s : Schema). length s.parameters) (some_same q.schema p.schema (sym q.found ∙ same)) in
    let args : a.args ≡ b.args =
    sym (arranged_read (length p.schema.parameters) (order_of task a.schema) a.args order p.many)
    ∙ (ap (arranged (order_of task a.schema)) (read ∙ ap (λ j. read_in (order_of task j) b.args) (sym schema))
    ∙ arranged_read (length p.schema.parameters) (order_of task a.schema) b.args order parameters) in
    λ i. record { schema = schema i; args = args i }
  where
    some_same : (x y : Schema) → Some x ≡ Some y → x ≡ y
    some_same x y e = cc

-- ---- the list ascends

pub block_ascends : (task : Task) (j : ℕ) (schema : Schema) → slice_get task.schemas j ≡ Some schema
    → IsStrictlySortedBy (step_cmp task) (steps_of task j)
unfolding step_key
block_ascends task j schema at =
    sorted_map row_cmp (step_cmp task) (step_of j (order_of task j))
    (tuples (length task.objects) (length (order_of task j)))
    (λ x y a b. row_rest j (read_in (order_of task j) (arranged (order_of task j) x))
    (read_in (order_of task j) (arranged (order_of task j) y)) ∙ (λ i. row_cmp (back x a i) (back y b i)))
    (tuples_ascend (length task.objects) (length (order_of task j)))
  where
    back : (x : List ℕ) → Contains (tuples (length task.objects) (length (order_of task j))) x
        → read_in (order_of task j) (arranged (order_of task j) x) ≡ x
    back x a =
        let order = order_is task j schema at in
        read_arranged (length schema.parameters) (order_of task j) x order
        ((tuple_is (length task.objects) (length (order_of task j)) x a).many ∙ order.many)

pub all_steps_ascend : (task : Task) → IsStrictlySortedBy (step_cmp task) (all_steps task)
unfolding all_steps step_key
all_steps_ascend task =
    sorted_blocks (step_cmp task) (steps_of task) (range_with_len 0 (length task.schemas))
    (range_rises (length task.schemas))
    (λ j m. of_schema j
    (schema_at task j (slice_get task.schemas j) refl (within_range (length task.schemas) j m)))
    (λ j k x y low a b. apart j k x y low (Contains-from_map (step_of j (order_of task j)) _ x a)
    (Contains-from_map (step_of k (order_of task k)) _ y b))
  where
    of_schema : (j : ℕ) → (schema : Schema) × (slice_get task.schemas j ≡ Some schema)
        → IsStrictlySortedBy (step_cmp task) (steps_of task j)
    of_schema j (schema, at) = block_ascends task j schema at

    apart : (j k : ℕ) (x y : Instance) → j < k → (t : List ℕ)
        × Contains (tuples (length task.objects) (length (order_of task j))) t
        × (step_of j (order_of task j) t ≡ x) →
        (u : List ℕ) × Contains (tuples (length task.objects) (length (order_of task k))) u
        × (step_of k (order_of task k) u ≡ y) → step_cmp task x y ≡ Less
    apart j k x y low (t, m, e) (u, q, f) =
        row_less x.schema y.schema (read_in (order_of task x.schema) x.args)
        (read_in (order_of task y.schema) y.args)
        (subst (λ (z : Instance). z.schema < y.schema) e (subst (λ (z : Instance). j < z.schema) f low))

-- ---- applicable steps

pub applicable_listed : (task : Task) (s : State) (step : Instance) → Contains (applicable_steps task s) step
    ↔ IsApplicable task s step
unfolding applicable_steps
applicable_listed task s step = (
  (λ h. (is_applicable-decides task s step).0
      (Contains-from_filter (is_applicable task s) (all_steps task) step h).1),
  (λ h. Contains-filter (is_applicable task s) (all_steps task) step
      (step_is_listed task step (applicable_step task s step h)) ((is_applicable-decides task s step).1 h)),
)

pub applicable_ascend : (task : Task) (s : State) → IsStrictlySortedBy (step_cmp task)
    (applicable_steps task s)
unfolding applicable_steps
applicable_ascend task s = sorted_filter (step_cmp task) (is_applicable task s) (all_steps task)
    (all_steps_ascend task)

-- ---- steps under assignments

-- an unfixed class has its object at the parameter that names it
class_arg : (schema : Schema) (f : Assignment) (c : ℕ) → Contains (classes_in_order schema) c
    → slice_index (args_under schema f) c ≡ f c
class_arg schema f c h = parameter_value schema f c ∙ ap (slot_value f)
    (unfixed_itself schema c (in_order_unfixed schema c h)).1

slot_agrees : (schema : Schema) (f g : Assignment) (p : ℕ) (slot : Slot) → length schema.parameters ≤ 64
    → p < length schema.parameters → slot_at (parameter_slots schema) p ≡ slot
    → Agree (classes_in_order schema) f g → slot_value f slot ≡ slot_value g slot
slot_agrees schema f g p (Fixed o) few h at agree = refl
slot_agrees schema f g p (Class c) few h at agree = agree c (unfixed_in_order schema c few (p, h, at))

agreeing_args : (schema : Schema) (f g : Assignment) → length schema.parameters ≤ 64
    → Agree (classes_in_order schema) f g → args_under schema f ≡ args_under schema g
agreeing_args schema f g few agree =
    let one = args_under-length schema f in
    let two = args_under-length schema g in
    same_number_lists (args_under schema f) (args_under schema g) (one ∙ sym two)
    (λ p h. parameter_value schema f p
    ∙ (slot_agrees schema f g p (slot_at (parameter_slots schema) p) few (omega arith) refl agree
    ∙ sym (parameter_value schema g p)))

pub few_parameters : (task : Task) (number : ℕ) (schema : Schema)
    → slice_get task.schemas number ≡ Some schema → length schema.parameters ≤ 64
few_parameters task number schema at =
    let is = task.schemas_ok.each number schema (slice_get_within task.schemas number schema at) in
    subst (λ (x : Schema). length x.parameters ≤ 64)
    (get_or_from_slice_get task.schemas number schema schema at) is.few_parameters

pub steps_are_assignments : (task : Task) (number : ℕ) (schema : Schema) (f g : Assignment)
    → slice_get task.schemas number ≡ Some schema → (step_under number schema f ≡ step_under number schema g)
    ↔ Agree (classes_in_order schema) f g
steps_are_assignments task number schema f g at = (
  (λ e c h. sym (class_arg schema f c h)
      ∙ (ap (λ (x : Instance). slice_index x.args c) e ∙ class_arg schema g c h)),
  (λ agree. λ i. record {
    schema = number;
    args = agreeing_args schema f g
        (few_parameters task number schema at) agree i;
  }),
)

-- numbers that differ decide
decided_first : (x y : ℕ) (a b : Ordering) → x ≢ y → ordering_then (nat_cmp x y) a ≡ ordering_then
    (nat_cmp x y) b
decided_first x y a b n = elim (less_or_greater x y n) [
  | inl low ↦ (let e = nat_less x y low in ap (λ o. ordering_then o a) e
      ∙ sym (ap (λ o. ordering_then o b) e))
  | inr high ↦ (let e = nat_greater x y high in ap (λ o. ordering_then o a) e
      ∙ sym (ap (λ o. ordering_then o b) e))
]
  where
    less_or_greater : (u v : ℕ) → u ≢ v → (u < v) ⊎ (v < u)
    less_or_greater u v h = grind arith

    nat_greater : (u v : ℕ) → v < u → nat_cmp u v ≡ Greater
    nat_greater u v h = grind arith

-- rows that are decided by their fronts
pub front_decides : (xs ys us vs : List ℕ) → length xs ≡ length ys → (xs ≡ ys → us ≡ vs)
    → row_cmp (xs ++ us) (ys ++ vs) ≡ row_cmp xs ys
front_decides [] [] us vs e same = ap (λ zs. row_cmp zs vs) (same refl) ∙ tied_itself nat_list_cmp_total vs
front_decides [] (y ∷ ys) us vs e same = absurd (omega arith)
front_decides (x ∷ xs) [] us vs e same = absurd (omega arith)
front_decides (x ∷ xs) (y ∷ ys) us vs e same = elim (same_or_not x y) [
  | inl is ↦ ap (ordering_then (nat_cmp x y))
      (front_decides xs ys us vs (omega arith) (λ h. same (λ i. is i ∷ h i)))
  | inr n ↦ decided_first x y (row_cmp (xs ++ us) (ys ++ vs)) (row_cmp xs ys) n
]

class_row : (schema : Schema) (f : Assignment) (cs : List ℕ)
    → ((c : ℕ) → Contains cs c → Contains (classes_in_order schema) c)
    → map (slice_index (args_under schema f)) cs ≡ map f cs
class_row schema f [] within = refl
class_row schema f (c ∷ cs) within =
    let first = class_arg schema f c (within c (Contains-cons_first c cs)) in
    let rest = class_row schema f cs (λ d m. within d (Contains-cons_rest c cs d m)) in cc

pub key_parts : (schema : Schema) (f : Assignment) (others : List ℕ)
    → map (slice_index (args_under schema f)) (classes_in_order schema ++ others) ≡ map f
    (classes_in_order schema) ++ map (slice_index (args_under schema f)) others
key_parts schema f others =
    map-append (slice_index (args_under schema f)) (classes_in_order schema) others
    ∙ ap (λ xs. xs ++ map (slice_index (args_under schema f)) others)
    (class_row schema f (classes_in_order schema) (λ c m. m))

pub steps_compare : (task : Task) (number : ℕ) (schema : Schema) (f g : Assignment)
    → slice_get task.schemas number ≡ Some schema →
    step_cmp task (step_under number schema f) (step_under number schema g) ≡ row_cmp
    (map f (classes_in_order schema)) (map g (classes_in_order schema))
unfolding step_key parameter_order
steps_compare task number schema f g at =
    row_rest number (read_in (order_of task number) (args_under schema f))
    (read_in (order_of task number) (args_under schema g))
    ∙ (ap (λ order. row_cmp (read_in order (args_under schema f)) (read_in order (args_under schema g)))
    (order_at task number schema at)
    ∙ ((λ i. row_cmp
    (key_parts schema f
    (filter (λ p. not (is_among (classes_in_order schema) p))
    (range_with_len 0 (length schema.parameters))) i)
    (key_parts schema g
    (filter (λ p. not (is_among (classes_in_order schema) p))
    (range_with_len 0 (length schema.parameters))) i))
    ∙ front_decides (map f (classes_in_order schema)) (map g (classes_in_order schema))
    (map (slice_index (args_under schema f))
    (filter (λ p. not (is_among (classes_in_order schema) p))
    (range_with_len 0 (length schema.parameters))))
    (map (slice_index (args_under schema g))
    (filter (λ p. not (is_among (classes_in_order schema) p))
    (range_with_len 0 (length schema.parameters))))
    (length-map (classes_in_order schema) f ∙ sym (length-map (classes_in_order schema) g))
    (λ same. ap (λ args. map (slice_index args)
    (filter (λ p. not (is_among (classes_in_order schema) p))
    (range_with_len 0 (length schema.parameters))))
    (agreeing_args schema f g (few_parameters task number schema at)
    (agree_map (classes_in_order schema) f g same)))))
