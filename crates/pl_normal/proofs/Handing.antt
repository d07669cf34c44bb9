-- Recipes, and the relations that are handed in with them.
use Rattle.std.proofs.Common.{◌≡◌, ◌==◌, ℕ, ◌+◌, ◌<◌, zero, suc, Bool, false, not, List, [], ◌∷◌, ◌++◌}
use Rattle.std.proofs.Common.{length, get_or, Option, Some, None, slice_get, refl, sym, ◌∙◌, ap, subst, arith}
use Rattle.std.proofs.Common.{◌↔◌, Contains, is_some, length-append}
use Rattle.std.proofs.lemmas.List.{get_or_default}
use Rattle.std.proofs.lemmas.Bool.{false≢true}
use Rattle.std.proofs.lemmas.Option.{slice_get_read}
use Rattle.pl_task.specs.declared.data.Schema.{Schema}
use Rattle.pl_task.specs.declared.task.Task.{Task}
use Rattle.pl_task.specs.States.{State}
use Rattle.pl_hyper.specs.declared.ear.Ear.{Ear}
use Rattle.pl_hyper.specs.Edges.{Holds}
use Rattle.pl_hyper.specs.Ears.{Removal}
use Rattle.pl_join.specs.Relation.{ClassRows}
use Rattle.pl_reduce.specs.Plan.{relation_at}
use Rattle.pl_reduce.specs.Recipes.{FixedJoin, AreFixed, AreGiven, AreOverNodesOf, chosen, option_at}
use Rattle.pl_reduce.specs.Recipes.{relations_with}
use Rattle.pl_normal.specs.declared.nodes.Share.{Share}
use Rattle.pl_normal.specs.declared.nodes.Share.TheVariants.{Fixed, Given}
use Rattle.pl_normal.specs.declared.form.Edge.{Edge}
use Rattle.pl_normal.specs.declared.form.NormalSchema.{NormalSchema}
use Rattle.pl_normal.specs.Edges.{edges_of}
use Rattle.pl_normal.specs.NormalForm.{IsNormalForm}
use Rattle.pl_normal.specs.NormalTasks.{AreNormalForms}
use Rattle.pl_normal.specs.Query.{KeepsStatic}
use Rattle.pl_normal.specs.Recipes.{AreOfShare, AreRecipes, HasRecipe, IsFixedRelation, IsNodeRelation}
use Rattle.pl_normal.specs.Recipes.{IsOverNode, IsRecipeFor, IsWanted, is_fixed_node, plan_of, takes}
use Rattle.pl_normal.proofs.Joins.{AreNodeRelations, no_ear, plan_walkable, plan_long}
use Rattle.pl_normal.proofs.Pushing.{each_pushed}
use Rattle.pl_normal.proofs.Unchanging.{fixed_relation}

-- ---- the fixed relations

fixed_wanted : (task : Task) (schema : Schema) (s : State) (k : ℕ) (x : Option ClassRows) →
    KeepsStatic task s →
    IsWanted (is_fixed_node task schema k) (IsNodeRelation task schema s k) x →
    IsWanted (is_fixed_node task schema k) (IsFixedRelation task schema k) x
fixed_wanted task schema s k None keeps h = h
fixed_wanted task schema s k (Some r) keeps h = (h.0, fixed_relation task schema s k r keeps h.0 h.1)

-- those of one state are the recipe's
pub recipe_for : (task : Task) (schema : Schema) (s : State) (plan : Removal)
    (entries : List (Option ClassRows)) → KeepsStatic task s →
    plan ≡ plan_of schema → AreOfShare task schema s Fixed (suc (length (plan_of schema).removed)) entries →
    IsRecipeFor task schema (record { plan = plan; fixed = entries })
recipe_for task schema s plan entries keeps is are = record {
  plan = is;
  many = are.many;
  each = λ k d low. fixed_wanted task schema s k (get_or entries k d) keeps
      (are.each k d (subst (λ n. k < n) are.many low));
}

-- what there is of the nodes is over their classes
over_node : (plan : Removal) (k : ℕ) (b : Bool) (P : ClassRows → Type 0) (x : Option ClassRows)
    (r : ClassRows) →
    ((q : ClassRows) → P q → IsOverNode plan k q.classes) → IsWanted b P x → x ≡ Some r →
    IsOverNode plan k r.classes
over_node plan k b P None r over h same = absurd (cc)
over_node plan k b P (Some q) r over h same = (let here : q ≡ r = cc in
    subst (λ (y : ClassRows). IsOverNode plan k y.classes) here (over q h.1))

over_nodes : (task : Task) (schema : Schema) (s : State) (share : Share) (entries : List (Option ClassRows)) →
    AreOfShare task schema s share (suc (length (plan_of schema).removed)) entries →
    AreOverNodesOf (plan_of schema) entries
over_nodes task schema s share entries are = record {
  root_order = λ r same. over_node (plan_of schema) 0 (takes share (is_fixed_node task schema 0))
      (IsNodeRelation task schema s 0)
      (option_at entries 0) r (λ q is. is.classes) (are.each 0 None (omega arith)) same;
  ears = λ i c d r low same.
      subst (λ (e : Ear). Contains r.classes c ↔ Holds (plan_of schema).edges e.edge c)
      (get_or_default (plan_of schema).removed i no_ear d low)
      (over_node (plan_of schema) (suc i) (takes share (is_fixed_node task schema (suc i)))
      (IsNodeRelation task schema s (suc i))
      (option_at entries (suc i)) r (λ q is. is.classes) (are.each (suc i) None (omega (arith, low))) same c);
}

pub fixed_are : (task : Task) (schema : Schema) (s : State) (share : Share) (plan : Removal)
    (entries : List (Option ClassRows)) → plan ≡ plan_of schema →
    0 < length (edges_of schema) → AreOfShare task schema s share (suc (length (plan_of schema).removed))
    entries → AreFixed plan entries
fixed_are task schema s share plan entries is some are =
    subst (λ (p : Removal). AreFixed p entries) (sym is) (record {
      core = (plan_walkable schema).core_is_filled (subst (λ n. 0 < n) (sym (plan_long schema)) some);
      many = are.many;
      over = over_nodes task schema s share entries are;
    })

-- the recipe knows which nodes no state changes
known_fixed : (b : Bool) (P : ClassRows → Type 0) (x : Option ClassRows) → IsWanted b P x → is_some x ≡ b
known_fixed b P None h = sym h
known_fixed b P (Some r) h = sym h.0

pub recipe_knows : (task : Task) (schema : Schema) (recipe : FixedJoin) (k : ℕ) →
    IsRecipeFor task schema recipe → k < suc (length (plan_of schema).removed) →
    is_some (option_at recipe.fixed k) ≡ is_fixed_node task schema k
recipe_knows task schema recipe k is low =
    known_fixed (is_fixed_node task schema k) (IsFixedRelation task schema k) (option_at recipe.fixed k)
    (is.each k None (subst (λ n. k < n) (sym is.many) low))

-- ---- the others

one_each : (b : Bool) (P Q : ClassRows → Type 0) (x y : Option ClassRows) → IsWanted b P x →
    IsWanted (not b) Q y → is_some y ≡ not (is_some x)
one_each b P Q None None h k = absurd (false≢true (sym k ∙ ap not h))
one_each b P Q None (Some q) h k = refl
one_each b P Q (Some r) None h k = refl
one_each b P Q (Some r) (Some q) h k = absurd (false≢true (ap not (sym h.0) ∙ k.0))

pub given_are : (task : Task) (schema : Schema) (s : State) (recipe : FixedJoin)
    (entries : List (Option ClassRows)) →
    IsRecipeFor task schema recipe → AreOfShare task schema s Given (suc (length (plan_of schema).removed))
    entries → AreGiven recipe entries
given_are task schema s recipe entries is are = record {
  many = are.many ∙ sym (ap (λ (p : Removal). suc (length p.removed)) is.plan);
  one_each = λ k low.
      one_each (is_fixed_node task schema k) (IsFixedRelation task schema k)
      (IsNodeRelation task schema s k) (option_at recipe.fixed k) (option_at entries k)
      (is.each k None (subst (λ n. k < n) (are.many ∙ sym is.many) low))
      (are.each k None (subst (λ n. k < n) are.many low));
  over = subst (λ (p : Removal). AreOverNodesOf p entries) (sym is.plan)
      (over_nodes task schema s Given entries are);
}

one_is : (b : Bool) (P Q : ClassRows → Type 0) (x y : Option ClassRows) → ((r : ClassRows) → P r → Q r) →
    IsWanted b P x → IsWanted (not b) Q y → Q (chosen y x)
one_is b P Q x (Some q) weaker h k = k.1
one_is b P Q (Some r) None weaker h k = weaker r h.1
one_is b P Q None None weaker h k = absurd (false≢true (sym k ∙ ap not h))

with_many : (fixed given : List (Option ClassRows)) → length (relations_with fixed given) ≡ length given
with_many fixed [] = refl
with_many [] (g ∷ given) = ap suc (with_many [] given)
with_many (f ∷ fixed) (g ∷ given) = ap suc (with_many fixed given)

with_at : (fixed given : List (Option ClassRows)) (k : ℕ) → length given ≡ length fixed → k < length given →
    relation_at (relations_with fixed given) k ≡ chosen (option_at given k) (option_at fixed k)
with_at fixed [] k many low = absurd (omega (arith, low))
with_at [] (g ∷ given) k many low = absurd (omega (arith, many))
with_at (f ∷ fixed) (g ∷ given) zero many low = refl
with_at (f ∷ fixed) (g ∷ given) (suc k) many low = with_at fixed given k (omega (arith, many))
    (omega (arith, low))

-- all relations together are those of the nodes in the state
pub all_are : (task : Task) (schema : Schema) (s : State) (recipe : FixedJoin)
    (entries : List (Option ClassRows)) → KeepsStatic task s →
    IsRecipeFor task schema recipe → AreOfShare task schema s Given (suc (length (plan_of schema).removed))
    entries →
    AreNodeRelations task schema s (relations_with recipe.fixed entries)
all_are task schema s recipe entries keeps is are = record {
  many = with_many recipe.fixed entries ∙ are.many;
  each = λ k low. each k (subst (λ n. k < n) (with_many recipe.fixed entries ∙ are.many) low);
}
  where
    each : (k : ℕ) → k < suc (length (plan_of schema).removed) →
        IsNodeRelation task schema s k (relation_at (relations_with recipe.fixed entries) k)
    each k low =
        subst (IsNodeRelation task schema s k) (sym (with_at recipe.fixed entries k (are.many ∙ sym is.many)
        (subst (λ n. k < n) (sym are.many) low)))
        (one_is (is_fixed_node task schema k) (IsFixedRelation task schema k)
        (IsNodeRelation task schema s k) (option_at recipe.fixed k) (option_at entries k)
        (λ r fixed. fixed s keeps) (is.each k None (subst (λ n. k < n) (sym is.many) low))
        (are.each k None low))

-- ---- what a normal task keeps

pub form_kept : (inside task : Task) (forms : List NormalSchema) (i : ℕ) (form : NormalSchema) →
    inside ≡ task → AreNormalForms inside forms →
    i < length task.schemas → form ≡ get_or forms i form → (s : Schema) →
    slice_get task.schemas i ≡ Some s → IsNormalForm task s form
form_kept inside task forms i form view are low at s found =
    subst (λ (t : Task). IsNormalForm t s form) view
    (subst (IsNormalForm inside s) (sym at)
    (are.each i s form (subst (λ (t : Task). slice_get t.schemas i ≡ Some s) (sym view) found)
    (subst (λ (t : Task). i < length t.schemas) (sym view) low)))

-- ---- the recipes one after another

pub schema_read : (task : Task) (schemas : List Schema) (i : ℕ) (x : Schema) → schemas ≡ task.schemas →
    i < length schemas → x ≡ get_or schemas i x →
    slice_get task.schemas i ≡ Some x
schema_read task schemas i x same low at =
    subst (λ xs. slice_get xs i ≡ Some x) same (slice_get_read schemas (length schemas) i x refl low at)

pub form_read : (task : Task) (schemas : List Schema) (forms : List NormalSchema) (i : ℕ) (x : Schema)
    (form : NormalSchema) → AreNormalForms task forms →
    schemas ≡ task.schemas → i < length schemas → x ≡ get_or schemas i x → form ≡ get_or forms i form →
    IsNormalForm task x form
form_read task schemas forms i x form are same low at read =
    subst (IsNormalForm task x) (sym read)
    (are.each i x form (schema_read task schemas i x same low at) (subst (λ xs. i < length xs) same low))

pub recipes_more : (task : Task) (schemas : List Schema) (i : ℕ) (x : Schema)
    (old new : List (Option FixedJoin)) (made : Option FixedJoin) →
    AreRecipes task i old → schemas ≡ task.schemas → i < length schemas → x ≡ get_or schemas i x →
    HasRecipe task x made → new ≡ old ++ made ∷ [] →
    AreRecipes task (i + 1) new
recipes_more task schemas i x old new made are same low at has e = record {
  many = ap length e ∙ (length-append old (made ∷ []) ∙ ap (λ k. k + 1) are.many);
  each = λ k schema d lower found.
      each_pushed Holds i old new made are.many (λ j y h s at'. are.each j s y h at') last e k d lower
      schema found;
}
  where
    Holds : ℕ → Option FixedJoin → Type 0
    Holds k y = (s : Schema) → slice_get task.schemas k ≡ Some s → HasRecipe task s y

    some_same : (a b : Schema) → Some a ≡ Some b → a ≡ b
    some_same a b q = cc

    last : Holds i made
    last s found = subst (λ (y : Schema). HasRecipe task y made)
        (some_same x s (sym (schema_read task schemas i x same low at) ∙ found)) has

-- ---- a recipe as it is made

pub some_edges : (schema : Schema) (edges given : List Edge) (b : Bool) → given ≡ edges →
    edges ≡ edges_of schema → b ≡ (length given == 0) → b ≡ false →
    0 < length (edges_of schema)
some_edges schema edges given b read same is fails = at (length given) refl
  where
    at : (n : ℕ) → length given ≡ n → 0 < length (edges_of schema)
    at zero none = absurd (false≢true (sym fails ∙ (is ∙ ap (λ n. n == 0) none)))
    at (suc n) long = let all = ap length (read ∙ same) in omega (arith, long, all)

pub recipe_made : (task : Task) (schema : Schema) (s : State) (plan : Removal)
    (entries : List (Option ClassRows)) (recipe : FixedJoin) → KeepsStatic task s →
    plan ≡ plan_of schema → 0 < length (edges_of schema) →
    AreOfShare task schema s Fixed (suc (length (plan_of schema).removed)) entries →
    recipe ≡ record { plan = plan; fixed = entries } → HasRecipe task schema (Some recipe)
recipe_made task schema s plan entries recipe keeps is some are e =
    (some, subst (IsRecipeFor task schema) (sym e) (recipe_for task schema s plan entries keeps is are))
