-- The tests of types and of applicable steps decide what they test.
use Rattle.std.proofs.Common.{◌≡◌, ℕ, ◌<◌, zero, suc, Bool, true, false, ◌&&◌, ◌||◌, ◌==◌, List, [], ◌∷◌}
use Rattle.std.proofs.Common.{◌++◌, ◌↔◌, ◌⊎◌, inl, inr, refl, sym, ◌∙◌, ap, subst, arith, length, get_or}
use Rattle.std.proofs.Common.{Option, Some, None, slice_get, IsTrue, All, Any, Contains, ◌≢◌, Result, Ok, Err}
use Rattle.std.proofs.Common.{IfOk, eqb-true, eq-eqb}
use Rattle.std.specs.declared.alloc.AllocError.{AllocError}
use Rattle.std.specs.List.{list_any, list_all}
use Rattle.std.proofs.lemmas.Bool.{and_parts, and_from, or_cases, false≢true, cases_eq}
use Rattle.std.proofs.lemmas.List.Elements.{Contains-append_left, Contains-push, All-nil, All-cons}
use Rattle.std.proofs.lemmas.List.Folds.{Any-from_list_any, list_any-from_Any}
use Rattle.std.proofs.lemmas.List.Sums.{AllPass-from_list_all, list_all-from_AllPass}
use Rattle.std.proofs.lemmas.Option.{slice_get_within, slice_get_read}
use Rattle.pl_task.specs.declared.data.ObjectDef.{ObjectDef}
use Rattle.pl_task.specs.declared.data.Parameter.{Parameter}
use Rattle.pl_task.specs.declared.data.Schema.{Schema}
use Rattle.pl_task.specs.declared.data.TypeDef.{TypeDef}
use Rattle.pl_task.specs.declared.task.Task.{Task}
use Rattle.pl_task.specs.Instance.{Instance}
use Rattle.pl_task.specs.Types.{IsParent, IsChain, Leads, IsReached, HasType, parents_of, is_parent}
use Rattle.pl_task.specs.Types.{leads_through, numbers_below, leads, is_of_type_by, is_of_type}
use Rattle.pl_task.specs.States.{State, IsStep, AreTyped, IsApplicable, is_met, are_typed, is_applicable_by}
use Rattle.pl_task.specs.States.{is_applicable}

or_second : (x y : Bool) → y ≡ true → (x || y) ≡ true
or_second true y h = refl
or_second false y h = h

-- the test of a parent
parent_tested : (types : List TypeDef) (a b : ℕ) (found : Option TypeDef) → slice_get types a ≡ found →
    list_any (λ p. p == b) (parents_of found) ≡ true → IsParent types a b
parent_tested types a b None at h = absurd (false≢true h)
parent_tested types a b (Some d) at h = (d, at, held (Any-from_list_any (λ p. p == b) d.parents h))
  where
    held : (k : ℕ) × (x : ℕ) × (k < length d.parents) × (get_or d.parents k x ≡ x) × ((x == b) ≡ true) →
        Contains d.parents b
    held (k, x, within, is, same) = subst (Contains d.parents) (eqb-true x b same) (k, within, is)

is_parent-from : (types : List TypeDef) (a b : ℕ) → IsParent types a b → is_parent types a b ≡ true
is_parent-from types a b (d, at, (k, within, is)) =
    ap (λ found. list_any (λ p. p == b) (parents_of found)) at ∙
    list_any-from_Any (λ p. p == b) d.parents (k, b, within, is, eq-eqb b b refl)

-- chains one after another
chain_joined : (types : List TypeDef) (a : ℕ) (first : List ℕ) (k : ℕ) (rest : List ℕ) (b : ℕ) →
    IsChain types a first k → IsChain types k rest b → IsChain types a (first ++ rest) b
chain_joined types a [] k rest b p q = subst (λ x. IsChain types x rest b) (sym p) q
chain_joined types a (x ∷ first) k rest b p q = (p.0, chain_joined types x first k rest b p.1 q)

-- what the test finds is a chain
leads_through-sound : (types : List TypeDef) (ks : List ℕ) (a b : ℕ) → leads_through types ks a b ≡ true →
    Leads types a b
leads_through-sound types [] a b h = elim (or_cases (a == b) (is_parent types a b) h) [
  | inl same ↦ ([], eqb-true a b same)
  | inr parent ↦ (b ∷ [], (parent_tested types a b (slice_get types a) refl parent, refl))
]
leads_through-sound types (k ∷ ks) a b h =
    elim (or_cases (leads_through types ks a b) (leads_through types ks a k && leads_through types ks k b) h) [
      | inl direct ↦ leads_through-sound types ks a b direct
      | inr over ↦
          (let parts = and_parts (leads_through types ks a k) (leads_through types ks k b) over in
          joined (leads_through-sound types ks a k parts.0) (leads_through-sound types ks k b parts.1))
    ]
  where
    joined : Leads types a k → Leads types k b → Leads types a b
    joined (first, p) (rest, q) = (first ++ rest, chain_joined types a first k rest b p q)

-- a chain from a to b whose members between are among ks
abbrev Through : List TypeDef → List ℕ → ℕ → List ℕ → ℕ → Type 0
Through types ks a [] b = a ≡ b
Through types ks a (x ∷ []) b = IsParent types a x × (x ≡ b)
Through types ks a (x ∷ y ∷ rest) b = IsParent types a x × Contains ks x × Through types ks x (y ∷ rest) b

abbrev LeadsThrough : List TypeDef → List ℕ → ℕ → ℕ → Type 0
LeadsThrough types ks a b = (rest : List ℕ) × Through types ks a rest b

-- one more member at the front
through_more : (types : List TypeDef) (ks : List ℕ) (a x b : ℕ) → IsParent types a x → Contains ks x →
    LeadsThrough types ks x b → LeadsThrough types ks a b
through_more types ks a x b parent among ([], here) = (x ∷ [], (parent, here))
through_more types ks a x b parent among (y ∷ rest, chain) = (x ∷ y ∷ rest, (parent, among, chain))

-- a member of k ∷ ks is k or among ks
member_cases : (k : ℕ) (ks : List ℕ) (x : ℕ) → Contains (k ∷ ks) x → (k ≡ x) ⊎ Contains ks x
member_cases k ks x (zero, within, is) = inl is
member_cases k ks x (suc i, within, is) = inr (i, omega arith, is)

-- a chain through k ∷ ks avoids k, or consists of one to k and one from k
split : (types : List TypeDef) (k : ℕ) (ks : List ℕ) (a : ℕ) (rest : List ℕ) (b : ℕ) →
    Through types (k ∷ ks) a rest b →
    LeadsThrough types ks a b ⊎ (LeadsThrough types ks a k × LeadsThrough types ks k b)
split types k ks a [] b here = inl ([], here)
split types k ks a (x ∷ []) b chain = inl (x ∷ [], chain)
split types k ks a (x ∷ y ∷ rest) b chain = onward (member_cases k ks x chain.1)
    (split types k ks x (y ∷ rest) b chain.2)
  where
    onward : (k ≡ x) ⊎ Contains ks x → LeadsThrough types ks x b ⊎
        (LeadsThrough types ks x k × LeadsThrough types ks k b) →
        LeadsThrough types ks a b ⊎ (LeadsThrough types ks a k × LeadsThrough types ks k b)
    onward (inl is) (inl direct) = inr
        ((x ∷ [], (chain.0, sym is)), subst (λ n. LeadsThrough types ks n b) (sym is) direct)
    onward (inl is) (inr over) = inr ((x ∷ [], (chain.0, sym is)), over.1)
    onward (inr among) (inl direct) = inl (through_more types ks a x b chain.0 among direct)
    onward (inr among) (inr over) = inr (through_more types ks a x k chain.0 among over.0, over.1)

-- the test finds each chain through the types listed
leads_through-whole : (types : List TypeDef) (ks : List ℕ) (a b : ℕ) → LeadsThrough types ks a b →
    leads_through types ks a b ≡ true
leads_through-whole types [] a b ([], here) = ap (λ t. t || is_parent types a b) (eq-eqb a b here)
leads_through-whole types [] a b (x ∷ [], chain) =
    or_second (a == b) (is_parent types a b)
    (is_parent-from types a b (subst (IsParent types a) chain.1 chain.0))
leads_through-whole types [] a b (x ∷ y ∷ rest, chain) = absurd (nothing chain.1)
  where
    nothing : Contains [] x → ⊥
    nothing (k, within, _) = omega arith
leads_through-whole types (k ∷ ks) a b (rest, chain) = elim (split types k ks a rest b chain) [
  | inl direct ↦ ap (λ t. t || (leads_through types ks a k && leads_through types ks k b))
      (leads_through-whole types ks a b direct)
  | inr over ↦ or_second (leads_through types ks a b)
      (leads_through types ks a k && leads_through types ks k b)
      (and_from (leads_through types ks a k) (leads_through types ks k b)
      (leads_through-whole types ks a k over.0) (leads_through-whole types ks k b over.1))
]

-- each number below n is listed
number_listed : (n i : ℕ) → i < n → Contains (numbers_below n) i
number_listed zero i h = absurd (omega arith)
number_listed (suc n) i h = elim (cases_eq i n) [
  | inl last ↦ subst (Contains (numbers_below (suc n))) (sym last) (Contains-push (numbers_below n) n)
  | inr apart ↦ Contains-append_left (numbers_below n) (n ∷ []) i (number_listed n i (omega arith))
]

-- a type that has a parent is a type, so each chain is one through all types
chain_through : (types : List TypeDef) (a : ℕ) (rest : List ℕ) (b : ℕ) → IsChain types a rest b →
    Through types (numbers_below (length types)) a rest b
chain_through types a [] b here = here
chain_through types a (x ∷ []) b chain = chain
chain_through types a (x ∷ y ∷ rest) b chain = (
  chain.0,
  number_listed (length types) x (has_parent chain.1.0),
  chain_through
      types x (y ∷ rest) b chain.1,
)
  where
    has_parent : IsParent types x y → x < length types
    has_parent (d, at, _) = slice_get_within types x d at

-- the test of a chain decides whether there is one
pub leads-decides : (types : List TypeDef) (a b : ℕ) → IsTrue (leads types a b) ↔ Leads types a b
leads-decides types a b = (
  leads_through-sound types (numbers_below (length types)) a b,
  (λ (rest, chain). leads_through-whole types (numbers_below (length types)) a b
      (rest, chain_through types a rest b chain)),
)

-- the test of an object's type
type_tested : (task : Task) (o t : ℕ) (found : Option ObjectDef) → slice_get task.objects o ≡ found →
    is_of_type_by task t found ≡ true → HasType task o t
type_tested task o t None at h = absurd (false≢true h)
type_tested task o t (Some d) at h = record {
  definition = d;
  found = at;
  chain = elim (or_cases (t == 0) (list_any (λ a. leads task.types a t) d.types) h) [
    | inl object ↦ inl (eqb-true t 0 object)
    | inr some ↦ inr (reached (Any-from_list_any (λ a. leads task.types a t) d.types some))
  ];
}
  where
    reached : (k : ℕ) × (x : ℕ) × (k < length d.types) × (get_or d.types k x ≡ x) ×
        (leads task.types x t ≡ true) → IsReached task.types d.types t
    reached (k, x, within, is, led) = (x, (k, within, is), (leads-decides task.types x t).0 led)

is_of_type-from : (task : Task) (o t : ℕ) → HasType task o t → is_of_type task o t ≡ true
is_of_type-from task o t h = ap (is_of_type_by task t) h.found ∙ by_chain h.chain
  where
    by_chain : (t ≡ 0) ⊎ IsReached task.types h.definition.types t →
        is_of_type_by task t (Some h.definition) ≡ true
    by_chain (inl object) = ap (λ b. b || list_any (λ a. leads task.types a t) h.definition.types)
        (eq-eqb t 0 object)
    by_chain (inr (a, (k, within, is), led)) =
        or_second (t == 0) (list_any (λ a. leads task.types a t) h.definition.types)
        (list_any-from_Any (λ a. leads task.types a t) h.definition.types
        (k, a, within, is, (leads-decides task.types a t).1 led))

-- the test of a type decides whether the object has it
pub is_of_type-decides : (task : Task) (o t : ℕ) → IsTrue (is_of_type task o t) ↔ HasType task o t
is_of_type-decides task o t = (type_tested task o t (slice_get task.objects o) refl, is_of_type-from task o t)

-- the test of the types of some objects
typed_tested : (task : Task) (parameters : List Parameter) (objects : List ℕ) →
    are_typed task parameters objects ≡ true → AreTyped task parameters objects
typed_tested task [] [] h = refl
typed_tested task [] (o ∷ objects) h = absurd (false≢true h)
typed_tested task (p ∷ parameters) [] h = absurd (false≢true h)
typed_tested task (p ∷ parameters) (o ∷ objects) h =
    let parts = and_parts (list_any (is_of_type task o) p.types) (are_typed task parameters objects) h in (
      some (Any-from_list_any (is_of_type task o) p.types parts.0),
      typed_tested task
          parameters objects parts.1,
    )
  where
    some : (k : ℕ) × (x : ℕ) × (k < length p.types) × (get_or p.types k x ≡ x) ×
        (is_of_type task o x ≡ true) → Any (HasType task o) p.types
    some (k, x, within, is, tested) = (k, x, within, is, (is_of_type-decides task o x).0 tested)

are_typed-from : (task : Task) (parameters : List Parameter) (objects : List ℕ) →
    AreTyped task parameters objects → are_typed task parameters objects ≡ true
are_typed-from task [] [] h = refl
are_typed-from task [] (o ∷ objects) h = cc
are_typed-from task (p ∷ parameters) [] h = absurd h
are_typed-from task (p ∷ parameters) (o ∷ objects) h =
    and_from (list_any (is_of_type task o) p.types) (are_typed task parameters objects) (some h.0)
    (are_typed-from task parameters objects h.1)
  where
    some : Any (HasType task o) p.types → list_any (is_of_type task o) p.types ≡ true
    some (k, x, within, is, has) = list_any-from_Any (is_of_type task o) p.types
        (k, x, within, is, (is_of_type-decides task o x).1 has)

pub are_typed-decides : (task : Task) (parameters : List Parameter) (objects : List ℕ) →
    IsTrue (are_typed task parameters objects) ↔ AreTyped task parameters objects
are_typed-decides task parameters objects =
    (typed_tested task parameters objects, are_typed-from task parameters objects)

-- the test of a step
step_tested : (task : Task) (s : State) (step : Instance) (found : Option Schema) →
    slice_get task.schemas step.schema ≡ found →
    is_applicable_by task s step.args found ≡ true → IsApplicable task s step
step_tested task s step None at h = absurd (false≢true h)
step_tested task s step (Some schema) at h =
    let parts = and_parts (are_typed task schema.parameters step.args)
    (list_all (is_met s step.args) schema.condition) h in
    record {
      schema = schema;
      found = at;
      typed = typed_tested task schema.parameters step.args parts.0;
      met = AllPass-from_list_all (is_met s step.args) schema.condition parts.1;
    }

is_applicable-from : (task : Task) (s : State) (step : Instance) → IsApplicable task s step →
    is_applicable task s step ≡ true
is_applicable-from task s step h = ap (is_applicable_by task s step.args) h.found ∙
    and_from (are_typed task h.schema.parameters step.args) (list_all (is_met s step.args) h.schema.condition)
    (are_typed-from task h.schema.parameters step.args h.typed)
    (list_all-from_AllPass (is_met s step.args) h.schema.condition h.met)

-- the test of a step decides whether it is applicable
pub is_applicable-decides : (task : Task) (s : State) (step : Instance) → IsTrue (is_applicable task s step) ↔
    IsApplicable task s step
is_applicable-decides task s step = (
  step_tested task s step (slice_get task.schemas step.schema) refl,
  is_applicable-from task s step,
)

-- objects with types are objects, as many as the parameters
typed_objects : (task : Task) (parameters : List Parameter) (objects : List ℕ) →
    AreTyped task parameters objects →
    (length objects ≡ length parameters) × All (λ o. o < length task.objects) objects
typed_objects task [] objects h = (
  ap length h,
  subst (All (λ o. o < length task.objects)) (sym h)
      (All-nil (λ o. o < length task.objects)),
)
typed_objects task (p ∷ parameters) [] h = absurd h
typed_objects task (p ∷ parameters) (o ∷ objects) h =
    let rest = typed_objects task parameters objects h.1 in
    (ap suc rest.0, All-cons (λ o. o < length task.objects) o objects (within h.0) rest.1)
  where
    within : Any (HasType task o) p.types → o < length task.objects
    within (k, x, _, _, has) = slice_get_within task.objects o has.definition has.found

-- an applicable step is a step of the task
pub applicable_step : (task : Task) (s : State) (step : Instance) →
    IsApplicable task s step → IsStep task step
applicable_step task s step h =
    let typed = typed_objects task h.schema.parameters step.args h.typed in
    record { schema = h.schema; found = h.found; many = typed.0; within = typed.1 }

-- an object in range has a definition
object_found : (objects : List ObjectDef) (o : ℕ) → o < length objects → (d : ObjectDef) ×
    (slice_get objects o ≡ Some d)
object_found [] o h = absurd (omega arith)
object_found (d ∷ ds) zero h = (d, refl)
object_found (d ∷ ds) (suc o) h = object_found ds o (omega arith)

-- each object has the type `object`
pub has_object : (task : Task) (o t : ℕ) → o < length task.objects → t ≡ 0 → HasType task o t
has_object task o t within zeroth =
    let (d, at) = object_found task.objects o within in
    record { definition = d; found = at; chain = inl zeroth }

-- an object has another type where a chain leads to it from one of its own
pub has_other : (task : Task) (o t : ℕ) (d : ObjectDef) → slice_get task.objects o ≡ Some d → t ≢ 0 →
    IsReached task.types d.types t ↔ HasType task o t
has_other task o t d at other = (
  (λ reached. record { definition = d; found = at; chain = inr reached }),
  (λ h. by_chain h.definition h.found h.chain),
)
  where
    by_chain : (e : ObjectDef) → slice_get task.objects o ≡ Some e →
        (t ≡ 0) ⊎ IsReached task.types e.types t → IsReached task.types d.types t
    by_chain e found (inl object) = absurd (other object)
    by_chain e found (inr reached) = let same : e ≡ d = cc in
        subst (λ (x : ObjectDef). IsReached task.types x.types t) same reached

-- an answer that decides P decides what P is the same as
pub decided_along : {P Q : Type 0} (r : Result Bool AllocError) → IfOk r (λ b. IsTrue b ↔ P) → P ↔ Q →
    IfOk r (λ b. IsTrue b ↔ Q)
decided_along (Ok b) h pq = ((λ t. pq.0 (h.0 t)), (λ q. h.1 (pq.1 q)))
decided_along (Err e) h pq = tt

-- what the walk answers, for an object that the code reads
pub type_answer : (task : Task) (o t : ℕ) (objects : List ObjectDef) (types : List TypeDef) (starts : List ℕ)
    (d : ObjectDef) (r : Result Bool AllocError) →
    objects ≡ task.objects → types ≡ task.types → starts ≡ d.types → o < length task.objects → t ≢ 0 →
    d ≡ get_or objects o d →
    IfOk r (λ b. IsTrue b ↔ IsReached types starts t) → IfOk r (λ b. IsTrue b ↔ HasType task o t)
type_answer task o t objects types starts d r os ts ss within other reads h =
    let found : slice_get objects o ≡ Some d = slice_get_read objects (length task.objects) o d
    (sym (ap length os)) within reads in
    let at : slice_get task.objects o ≡ Some d = subst (λ (l : List ObjectDef). slice_get l o ≡ Some d) os
    found in
    let here : IfOk r (λ b. IsTrue b ↔ IsReached task.types d.types t) = rw (ts, ss) at h in
    decided_along r here (has_other task o t d at other)
