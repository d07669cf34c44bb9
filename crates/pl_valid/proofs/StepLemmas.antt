-- What the parts of a well-formed task and step give the functions that read them.
use Rattle.std.proofs.Common.{◌≡◌, ℕ, ◌+◌, ◌<◌, ◌≤◌, ◌∷◌, arith, Bool, true, cond, List, [], map, take}
use Rattle.std.proofs.Common.{length, get_or, inl, inr, refl, sym, ◌∙◌, ap, subst, ◌↔◌, Some, slice_get, All}
use Rattle.std.proofs.Common.{IsTrue, Any}
use Rattle.std.specs.Ordering.{nat_cmp}
use Rattle.std.specs.BTreeMap.{BTreeMap, get, is_at}
use Rattle.std.proofs.lemmas.Bool.{cases_Bool, cond-true, cond-false}
use Rattle.std.proofs.lemmas.List.{take_all}
use Rattle.std.proofs.lemmas.List.Elements.{All-weaker, All-more, All-same}
use Rattle.std.proofs.lemmas.Map.Lookups.{exact_pairs, exact_unsigned}
use Rattle.std.proofs.lemmas.Map.Views.{tells_apart}
use Rattle.std.proofs.lemmas.Option.{slice_get_read, slice_get_within, get_or_from_slice_get}
use Rattle.pl_task.specs.declared.data.Lifted.{Lifted}
use Rattle.pl_task.specs.declared.data.Literal.{Literal}
use Rattle.pl_task.specs.declared.data.Literal.TheVariants as literal
use Rattle.pl_task.specs.declared.data.ObjectDef.{ObjectDef}
use Rattle.pl_task.specs.declared.data.Parameter.{Parameter}
use Rattle.pl_task.specs.declared.data.PredicateDef.{PredicateDef}
use Rattle.pl_task.specs.declared.data.Schema.{Schema}
use Rattle.pl_task.specs.declared.task.Task.{Task}
use Rattle.pl_task.specs.Instance.{Instance}
use Rattle.pl_task.specs.States.{State, atom_at, changed, changed_by, result_of, is_met, AreTyped, IsStep}
use Rattle.pl_task.specs.States.{IsApplicable}
use Rattle.pl_task.specs.Types.{HasType, IsReached}
use Rattle.pl_task.specs.WellFormed.{IsTermOf, IsLiteralOf, IsSchemaOf}
use Rattle.pl_valid.proofs.AtomSets.{changed-in_turn}
use Rattle.pl_valid.specs.Judging.{HasValue, HasValues, pair_cmp}

-- the schema that the code reads is that of the step
pub schema_read : (task : Task) (step : Instance) (schemas : List Schema) (number : ℕ) (schema : Schema) →
    IsStep task step → schemas ≡ task.schemas →
    number ≡ step.schema → schema ≡ get_or schemas number schema →
    slice_get task.schemas step.schema ≡ Some schema
schema_read task step schemas number schema is_step are is reads =
    let within : step.schema < length task.schemas = slice_get_within task.schemas step.schema
    is_step.schema is_step.found in
    let here : number < length schemas = subst (λ n. n < length schemas) (sym is)
    (subst (λ (l : List Schema). step.schema < length l) (sym are) within) in
    ap (slice_get task.schemas) (sym is) ∙ ap (λ (l : List Schema). slice_get l number) (sym are) ∙
    slice_get_read schemas (length schemas) number schema refl here reads

literal_values : (predicates : List PredicateDef) (objects parameters : ℕ) (l : Literal) →
    IsLiteralOf predicates objects parameters l → HasValues parameters l
literal_values predicates objects parameters (literal.Atom a) h = All-weaker (IsTermOf objects parameters)
    (HasValue parameters) (λ t p. p.parameter) a.terms (h.atom a refl).terms
literal_values predicates objects parameters (literal.NotAtom a) h = All-weaker (IsTermOf objects parameters)
    (HasValue parameters) (λ t p. p.parameter) a.terms (h.not_atom a refl).terms
literal_values predicates objects parameters (literal.Equal a b) h =
    ((h.equal_left a b refl).parameter, (h.equal_right a b refl).parameter)
literal_values predicates objects parameters (literal.NotEqual a b) h =
    ((h.not_equal_left a b refl).parameter, (h.not_equal_right a b refl).parameter)

-- the arguments of a step give each parameter of the precondition a value
pub condition_values : (task : Task) (step : Instance) (schema : Schema) (args : List ℕ)
    (condition : List Literal) → IsStep task step →
    slice_get task.schemas step.schema ≡ Some schema → args ≡ step.args → condition ≡ schema.condition →
    All (HasValues (length args)) condition
condition_values task step schema args condition is_step found same cs =
    let one : is_step.schema ≡ schema = same_schema is_step.found in
    let many : length args ≡ length schema.parameters = ap length same ∙ is_step.many ∙
    ap (λ (x : Schema). length x.parameters) one in
    let within : step.schema < length task.schemas = slice_get_within task.schemas step.schema schema found in
    let well : IsSchemaOf task.types task.objects task.predicates schema =
    subst (IsSchemaOf task.types task.objects task.predicates)
    (get_or_from_slice_get task.schemas step.schema schema schema found)
    (task.schemas_ok.each step.schema schema within) in
    subst (All (HasValues (length args))) (sym cs)
    (All-weaker (IsLiteralOf task.predicates (length task.objects) (length schema.parameters))
    (HasValues (length args))
    (λ l h. subst (λ n. HasValues n l) (sym many) (literal_values task.predicates (length task.objects)
    (length schema.parameters) l h)) schema.condition well.literals)
  where
    same_schema : slice_get task.schemas step.schema ≡ Some is_step.schema → is_step.schema ≡ schema
    same_schema at = cc

-- the deletes and then the adds of the step's schema lead to its result
pub executed : (task : Task) (step : Instance) (s middle after : State) (schema : Schema) (args : List ℕ)
    (deletes adds : List Lifted) →
    slice_get task.schemas step.schema ≡ Some schema → args ≡ step.args →
    deletes ≡ schema.delete → adds ≡ schema.add →
    middle ≡ changed s (map (atom_at args) deletes) [] → after ≡ changed middle [] (map (atom_at args) adds) →
    after ≡ result_of task s step
executed task step s middle after schema args deletes adds found same ds news first second =
    second ∙ ap (λ (t : State). changed t [] (map (atom_at args) adds)) first ∙
    changed-in_turn s (map (atom_at args) deletes) (map (atom_at args) adds) ∙
    ap (λ (l : List Lifted). changed s (map (atom_at args) l) (map (atom_at args) adds)) ds ∙
    ap (λ (l : List Lifted). changed s (map (atom_at args) schema.delete) (map (atom_at args) l)) news ∙
    ap (λ (l : List ℕ). changed_by s l (Some schema)) same ∙
    ap (changed_by s step.args) (sym found)

-- one literal more holds
pub literals_more : (s : State) (args : List ℕ) (condition : List Literal) (i : ℕ) (l : Literal)
    (answer : Bool) → i < length condition →
    l ≡ get_or condition i l → answer ≡ is_met s args l → answer ≡ true →
    All (λ x. IsTrue (is_met s args x)) (take i condition) →
    All (λ x. IsTrue (is_met s args x)) (take (i + 1) condition)
literals_more s args condition i l answer within reads is h held =
    All-more (λ x. IsTrue (is_met s args x)) condition i l within held
    (subst (λ (x : Literal). IsTrue (is_met s args x)) reads (sym is ∙ h))

-- all literals hold
pub literals_all : (s : State) (args : List ℕ) (condition : List Literal) (i : ℕ) → length condition ≤ i →
    All (λ x. IsTrue (is_met s args x)) (take i condition) → IsTrue true ↔
    All (λ x. IsTrue (is_met s args x)) condition
literals_all s args condition i past held = (
  (λ _. All-same (λ x. IsTrue (is_met s args x)) condition (take i condition)
      (sym (take_all i condition past)) held),
  (λ _. refl),
)

-- an answer more in a table of right answers
pub known_more : (task : Task) (old new : BTreeMap (ℕ × ℕ) Bool) (o t : ℕ) (b : Bool) →
    ((o' t' : ℕ) (b' : Bool) → get pair_cmp old (o', t') ≡ Some b' → IsTrue b' ↔ HasType task o' t') →
    (IsTrue b ↔ HasType task o t) →
    ((q : ℕ × ℕ) → get pair_cmp new q ≡ cond (is_at (pair_cmp (o, t)) q) (Some b) (get pair_cmp old q)) →
    (o' t' : ℕ) (b' : Bool) → get pair_cmp new (o', t') ≡ Some b' → IsTrue b' ↔ HasType task o' t'
known_more task old new o t b known right h o' t' b' found =
    elim (cases_Bool (is_at (pair_cmp (o, t)) (o', t'))) [
      | inl hit ↦
          (let again : Some b' ≡ Some b = sym found ∙ h (o', t') ∙
          cond-true (is_at (pair_cmp (o, t)) (o', t'))
          (Some b) (get pair_cmp old (o', t')) hit in
          let answers : b ≡ b' = cc in
          let same : (o, t) ≡ (o', t') = tells_apart
          (exact_pairs nat_cmp nat_cmp exact_unsigned exact_unsigned)
          (o, t) (o', t') hit in
          subst (λ (x : Bool). IsTrue x ↔ HasType task o' t') answers
          (subst (λ (p : ℕ × ℕ). IsTrue b ↔ HasType task p.0 p.1) same right))
      | inr miss ↦ known o' t' b' (sym (h (o', t') ∙ cond-false (is_at (pair_cmp (o, t)) (o', t')) (Some b)
          (get pair_cmp old (o', t')) miss) ∙ found)
    ]

-- a step is applicable where its arguments are typed and its literals hold
pub applicable_where : (task : Task) (s : State) (step : Instance) (schema : Schema)
    (parameters : List Parameter) (args : List ℕ) (condition : List Literal) (answer : Bool) →
    slice_get task.schemas step.schema ≡ Some schema → args ≡ step.args → parameters ≡ schema.parameters →
    condition ≡ schema.condition → AreTyped task parameters args →
    (IsTrue answer ↔ All (λ l. IsTrue (is_met s args l)) condition) → IsTrue answer ↔ IsApplicable task s step
applicable_where task s step schema parameters args condition answer found same ps cs typed h = (
  (λ yes. record { schema = schema; found = found; typed = well_typed; met = here.0 yes }),
  (λ applicable. here.1 (met_of applicable.schema applicable.found applicable.met)),
)
  where
    well_typed : AreTyped task schema.parameters step.args
    well_typed = subst (λ (l : List ℕ). AreTyped task schema.parameters l) same
        (subst (λ (l : List Parameter). AreTyped task l args) ps typed)

    here : IsTrue answer ↔ All (λ l. IsTrue (is_met s step.args l)) schema.condition
    here = subst (λ (l : List ℕ). IsTrue answer ↔ All (λ x. IsTrue (is_met s l x)) schema.condition) same
        (subst (λ (c : List Literal). IsTrue answer ↔ All (λ l. IsTrue (is_met s args l)) c) cs h)

    met_of : (e : Schema) → slice_get task.schemas step.schema ≡ Some e →
        All (λ l. IsTrue (is_met s step.args l)) e.condition →
        All (λ l. IsTrue (is_met s step.args l)) schema.condition
    met_of e at met = let one : e ≡ schema = cc in
        subst (λ (x : Schema). All (λ l. IsTrue (is_met s step.args l)) x.condition) one met

-- a step whose arguments are not typed is not applicable
pub untyped : (task : Task) (s : State) (step : Instance) (schema : Schema)
    (parameters : List Parameter) (args : List ℕ) →
    slice_get task.schemas step.schema ≡ Some schema → args ≡ step.args → parameters ≡ schema.parameters →
    (AreTyped task parameters args → ⊥) →
    IsApplicable task s step → ⊥
untyped task s step schema parameters args found same ps not_typed h =
    let one : h.schema ≡ schema = found_once h.found in
    let typed : AreTyped task schema.parameters step.args =
    subst (λ (x : Schema). AreTyped task x.parameters step.args) one h.typed in
    not_typed (subst (λ (l : List Parameter). AreTyped task l args) (sym ps)
    (subst (λ (l : List ℕ). AreTyped task schema.parameters l) (sym same) typed))
  where
    found_once : slice_get task.schemas step.schema ≡ Some h.schema → h.schema ≡ schema
    found_once at = cc

-- none of a list is any of it
pub none_any : {X : Type 0} (P : X → Type 0) (xs : List X) → All (λ x. P x → ⊥) xs → Any P xs → ⊥
none_any P xs none (k, x, within, is, h) = none k x within (subst P (sym is) h)

-- the object that the code reads
pub object_read : (task : Task) (o : ℕ) (objects : List ObjectDef) (d : ObjectDef) → objects ≡ task.objects →
    o < length task.objects → d ≡ get_or objects o d →
    slice_get task.objects o ≡ Some d
object_read task o objects d are within reads =
    subst (λ (l : List ObjectDef). slice_get l o ≡ Some d) are
    (slice_get_read objects (length task.objects) o d (sym (ap length are)) within reads)

-- an object's only type
pub only_type : (types : List ℕ) → length types ≡ 1 → types ≡ get_or types 0 0 ∷ []
only_type [] many = absurd (omega arith)
only_type (x ∷ []) many = refl
only_type (x ∷ y ∷ rest) many = absurd (omega arith)

-- objects that were declared with the same types have the same types
types_alike : (task : Task) (o o' t : ℕ) (d d' : ObjectDef) → slice_get task.objects o ≡ Some d →
    slice_get task.objects o' ≡ Some d' → d.types ≡ d'.types →
    HasType task o t → HasType task o' t
types_alike task o o' t d d' at at' same h = record {
  definition = d';
  found = at';
  chain = elim h.chain [
    | inl object ↦ inl object
    | inr reached ↦ inr (subst (λ (l : List ℕ). IsReached task.types l t)
        (ap (λ (x : ObjectDef). x.types) one ∙ same) reached)
  ];
}
  where
    one : h.definition ≡ d
    one = same_definition h.definition h.found
      where
        same_definition : (e : ObjectDef) → slice_get task.objects o ≡ Some e → e ≡ d
        same_definition e found = cc

pub same_types : (task : Task) (o o' : ℕ) (objects : List ObjectDef) (d d' : ObjectDef) (types : List ℕ)
    (a : ℕ) → objects ≡ task.objects → o < length task.objects → d ≡ get_or objects o d →
    types ≡ d.types → types ≡ a ∷ [] → slice_get task.objects o' ≡ Some d' → d'.types ≡ a ∷ [] → (t : ℕ) →
    HasType task o' t ↔ HasType task o t
same_types task o o' objects d d' types a are within reads ts only at' only' t =
    let at : slice_get task.objects o ≡ Some d = object_read task o objects d are within reads in
    let same : d.types ≡ d'.types = sym ts ∙ only ∙ sym only' in
    (types_alike task o' o t d' d at' at (sym same), types_alike task o o' t d d' at at' same)

-- an example more
pub alike_more : (task : Task) (old new : BTreeMap ℕ ℕ) (a o : ℕ) (d : ObjectDef) →
    slice_get task.objects o ≡ Some d → d.types ≡ a ∷ [] →
    ((a' o' : ℕ) → get nat_cmp old a' ≡ Some o' → (e : ObjectDef) × (slice_get task.objects o' ≡ Some e) ×
    (e.types ≡ a' ∷ [])) →
    ((q : ℕ) → get nat_cmp new q ≡ cond (is_at (nat_cmp a) q) (Some o) (get nat_cmp old q)) →
    (a' o' : ℕ) → get nat_cmp new a' ≡ Some o' → (e : ObjectDef) × (slice_get task.objects o' ≡ Some e) ×
    (e.types ≡ a' ∷ [])
alike_more task old new a o d at only alike h a' o' found = elim (cases_Bool (is_at (nat_cmp a) a')) [
  | inl hit ↦
      (let again : Some o' ≡ Some o = sym found ∙ h a' ∙ cond-true (is_at (nat_cmp a) a') (Some o)
      (get nat_cmp old a') hit in
      let object : o ≡ o' = cc in
      let declared : a ≡ a' = tells_apart exact_unsigned a a' hit in
      (d, subst (λ n. slice_get task.objects n ≡ Some d) object at, only ∙ ap (λ n. n ∷ []) declared))
  | inr miss ↦ alike a' o' (sym (h a' ∙ cond-false (is_at (nat_cmp a) a') (Some o) (get nat_cmp old a') miss)
      ∙ found)
]
