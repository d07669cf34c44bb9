-- Which effects could give an atom, place by place, and elements of a list one by one.
use Rattle.std.proofs.Common.{◌≡◌, ◌↔◌, ◌+◌, ◌<◌, ◌≤◌, ℕ, Bool, true, false, cond, IsTrue, List, length}
use Rattle.std.proofs.Common.{get_or, Some, slice_get, All, refl, sym, ap, ◌∙◌, subst, inl, inr, arith}
use Rattle.std.proofs.lemmas.Bool.{cases_order, false≢true}
use Rattle.std.proofs.lemmas.Option.{slice_get_within, slice_get-get_or, get_or_from_slice_get}
use Rattle.std.proofs.lemmas.List.Elements.{All-get_or}
use Rattle.pl_task.specs.declared.data.Atom.{Atom}
use Rattle.pl_task.specs.declared.data.GoalLiteral.{GoalLiteral}
use Rattle.pl_task.specs.declared.data.Lifted.{Lifted}
use Rattle.pl_task.specs.declared.data.Schema.{Schema}
use Rattle.pl_task.specs.declared.data.Term.{Term}
use Rattle.pl_task.specs.declared.data.Term.TheVariants as term
use Rattle.pl_task.specs.declared.task.Task.{Task}
use Rattle.pl_task.specs.Goal.{CouldGive}
use Rattle.pl_hooks.specs.Fixed.{FitsAt, IsFixed}

-- each of the first elements has the property
abbrev pub FirstAre : {X : Type 0} → (X → Type 0) → List X → ℕ → Type 0
FirstAre {X} P xs i = (k : ℕ) (x : X) → k < i → slice_get xs k ≡ Some x → P x

-- the element at a place is the one that was read there
pub same_there : {X : Type 0} (xs : List X) (i : ℕ) (x y : X) → x ≡ get_or xs i x → slice_get xs i ≡ Some y
    → x ≡ y
same_there xs i x y reads found = reads ∙ get_or_from_slice_get xs i y x found

pub first_more : {X : Type 0} (P : X → Type 0) (xs : List X) (i : ℕ) (x : X) → x ≡ get_or xs i x
    → FirstAre P xs i → P x → FirstAre P xs (i + 1)
first_more P xs i x reads before holds k y below found = elim (cases_order k i) [
  | inl at ↦ subst P (same_there xs i x y reads (subst (λ j. slice_get xs j ≡ Some y) at found)) holds
  | inr (inl lower) ↦ before k y lower found
  | inr (inr higher) ↦ absurd (omega (arith, below, higher))
]

pub all_first : {X : Type 0} (P : X → Type 0) (xs : List X) (i : ℕ) → length xs ≤ i → FirstAre P xs i
    → All P xs
all_first P xs i past first k d within = first k (get_or xs k d) (omega (arith, within, past))
    (slice_get-get_or xs k d within)

pub all_at : {X : Type 0} (P : X → Type 0) (xs : List X) (i : ℕ) (x : X) → x ≡ get_or xs i x → i < length xs
    → All P xs → P x
all_at P xs i x reads within all = subst P (sym reads) (All-get_or P xs i x within all)

-- a term for each object, and each fits
pub could_from : (effect : Lifted) (atom : Atom) → effect.predicate ≡ atom.predicate
    → length effect.terms ≡ length atom.objects →
    ((i : ℕ) → i < length effect.terms → FitsAt effect.terms atom.objects i) → CouldGive effect atom
could_from effect atom named many fit = record {
  predicate = named;
  many = many;
  constants = λ i n h. (fit i (slice_get_within effect.terms i (term.Object n) h)).constant n h;
  same = λ i j n h k. (fit i (slice_get_within effect.terms i (term.Parameter n) h)).same j n h k;
}

pub could_fit : (effect : Lifted) (atom : Atom) → CouldGive effect atom → (i : ℕ) → i < length effect.terms
    → FitsAt effect.terms atom.objects i
could_fit effect atom could i within =
    record { constant = λ n h. could.constants i n h; same = λ j n h k. could.same i j n h k }

-- all places so far, and one more
pub fits_more : (terms : List Term) (objects : List ℕ) (i : ℕ) → ((k : ℕ) → k < i → FitsAt terms objects k)
    → FitsAt terms objects i → (k : ℕ) → k < i + 1 → FitsAt terms objects k
fits_more terms objects i before here k below = elim (cases_order k i) [
  | inl at ↦ subst (FitsAt terms objects) (sym at) here
  | inr (inl lower) ↦ before k lower
  | inr (inr higher) ↦ absurd (omega (arith, below, higher))
]

-- none of the effects that would meet the literal could give its atom
abbrev pub IsFixedIn : GoalLiteral → Schema → Type 0
IsFixedIn g schema = All (λ effect. CouldGive effect g.atom → ⊥) (cond g.wanted schema.add schema.delete)

pub fixed_from : (task : Task) (g : GoalLiteral) (schemas : List Schema) (i : ℕ) → schemas ≡ task.schemas
    → length schemas ≤ i → FirstAre (IsFixedIn g) schemas i → IsTrue true ↔ IsFixed task g
fixed_from task g schemas i are past first =
    ((λ _. subst (All (IsFixedIn g)) are (all_first (IsFixedIn g) schemas i past first)), (λ _. refl))

pub not_fixed : (task : Task) (g : GoalLiteral) (schemas : List Schema) (i : ℕ) (schema : Schema)
    → schemas ≡ task.schemas → i < length schemas → schema ≡ get_or schemas i schema →
    (IsFixedIn g schema → ⊥) → IsTrue false ↔ IsFixed task g
not_fixed task g schemas i schema are within reads not_here = (
  (λ no_truth. absurd (false≢true no_truth)),
  (λ fixed. absurd
      (not_here (all_at (IsFixedIn g) schemas i schema reads within
      (subst (All (IsFixedIn g)) (sym are) fixed)))),
)

-- the effect could give the atom where a test of the places says so
pub could_is : (effect : Lifted) (atom : Atom) (terms : List Term) (objects : List ℕ) (b : Bool)
    → terms ≡ effect.terms → objects ≡ atom.objects → effect.predicate ≡ atom.predicate →
    length terms ≡ length objects → IsTrue b ↔ ((i : ℕ) → i < length terms → FitsAt terms objects i)
    → IsTrue b ↔ CouldGive effect atom
could_is effect atom terms objects b are_terms are_objects named many (to, from) = (
  (λ h. could_from effect atom named (sym (ap length are_terms) ∙ many ∙ ap length are_objects)
      (λ i within. subst (λ ts. FitsAt ts atom.objects i) are_terms
      (subst (λ os. FitsAt terms os i) are_objects
      (to h i (subst (λ ts. i < length ts) (sym are_terms) within))))),
  (λ could. from (λ i within. subst (λ ts. FitsAt ts objects i) (sym are_terms)
      (subst (λ os. FitsAt effect.terms os i) (sym are_objects)
      (could_fit effect atom could i (subst (λ ts. i < length ts) are_terms within))))),
)

-- the test of one schema's effects
pub fixed_here : (g : GoalLiteral) (schema : Schema) (effects : List Lifted) (b : Bool)
    → effects ≡ cond g.wanted schema.add schema.delete →
    IsTrue b ↔ All (λ effect. CouldGive effect g.atom → ⊥) effects → b ≡ true → IsFixedIn g schema
fixed_here g schema effects b are (to, from) so = subst (All (λ effect. CouldGive effect g.atom → ⊥)) are
    (to so)

pub not_fixed_here : (g : GoalLiteral) (schema : Schema) (effects : List Lifted) (b : Bool)
    → effects ≡ cond g.wanted schema.add schema.delete →
    IsTrue b ↔ All (λ effect. CouldGive effect g.atom → ⊥) effects → b ≡ false → IsFixedIn g schema → ⊥
not_fixed_here g schema effects b are (to, from) not_so fixed =
    false≢true (sym not_so ∙ from (subst (All (λ effect. CouldGive effect g.atom → ⊥)) (sym are) fixed))
