-- Whether a state is new under a width is decided, where the atoms that can be true in it stand in a list:
-- only lists of such atoms can make it new, and of these there are finitely many.
use Rattle.std.proofs.Common.{◌⊎◌, ◌<◌, ◌≤◌, ℕ, zero, suc, Bool, true, false, IsTrue, List, [], ◌∷◌, length}
use Rattle.std.proofs.Common.{All, Contains, sym, subst, refl, inl, inr, arith}
use Rattle.std.proofs.lemmas.Bool.{false≢true}
use Rattle.std.proofs.lemmas.List.Elements.{All-head, All-tail, All-weaker}
use Rattle.pl_task.specs.declared.data.Atom.{Atom}
use Rattle.pl_task.specs.declared.task.Task.{Task}
use Rattle.pl_task.specs.States.{State}
use Rattle.pl_task.specs.WellFormed.{is_fluent}
use Rattle.pl_registry.specs.Novelty.{HasAll, IsNovel, IsStale}
use Rattle.pl_registry.proofs.Lists.{Contains-nil, Contains-cons_cases, all_or_not}

-- a list of at most k atoms that passes
abbrev HasOne : ℕ → (List Atom → Type 0) → Type 0
HasOne k Q = (atoms : List Atom) × (length atoms ≤ k) × Q atoms

-- lists of atoms of a list
module _ (support : List Atom) where
  -- no list of at most k of them passes
  abbrev HasNone : ℕ → (List Atom → Type 0) → Type 0
  HasNone k Q = (atoms : List Atom) → length atoms ≤ k → All (Contains support) atoms → Q atoms → ⊥

  -- the first one is one of the choices
  by_first : (k : ℕ) (Q : List Atom → Type 0) (choices : List Atom) →
      ((a : Atom) → HasOne k (λ atoms. Q (a ∷ atoms)) ⊎ HasNone k (λ atoms. Q (a ∷ atoms))) →
      HasOne (suc k) Q ⊎ ((a : Atom) → Contains choices a → HasNone k (λ atoms. Q (a ∷ atoms)))
  by_first k Q [] after = inr (λ a has atoms few within q. Contains-nil a has)
  by_first k Q (c ∷ choices) after = elim (after c) [
    | inl found ↦ (let (atoms, few, q) = found in inl (c ∷ atoms, omega (arith, few), q))
    | inr none ↦ elim (by_first k Q choices after) [
      | inl found ↦ inl found
      | inr rest ↦ inr (λ a has atoms few within q. elim (Contains-cons_cases c choices a has) [
        | inl e ↦ none atoms few within (subst (λ b. Q (b ∷ atoms)) (sym e) q)
        | inr later ↦ rest a later atoms few within q
      ])
    ]
  ]

  only_empty : (Q : List Atom → Type 0) → (Q [] → ⊥) → (atoms : List Atom) → length atoms ≤ 0 → Q atoms → ⊥
  only_empty Q none [] few q = none q
  only_empty Q none (a ∷ atoms) few q = omega (arith, few)

  with_first : (k : ℕ) (Q : List Atom → Type 0) → (Q [] → ⊥) →
      ((a : Atom) → Contains support a → HasNone k (λ atoms. Q (a ∷ atoms))) → HasNone (suc k) Q
  with_first k Q none no_first [] few within q = none q
  with_first k Q none no_first (a ∷ atoms) few within q =
      no_first a (All-head (Contains support) a atoms within) atoms (omega (arith, few))
      (All-tail (Contains support) a atoms within) q

  -- a list of at most k atoms passes, or none of theirs does
  by_size : (k : ℕ) (Q : List Atom → Type 0) → ((atoms : List Atom) → Q atoms ⊎ (Q atoms → ⊥)) →
      HasOne k Q ⊎ HasNone k Q
  by_size zero Q decide = elim (decide []) [
    | inl found ↦ inl ([], omega arith, found)
    | inr none ↦ inr (λ atoms few within q. only_empty Q none atoms few q)
  ]
  by_size (suc k) Q decide = elim (decide []) [
    | inl found ↦ inl ([], omega arith, found)
    | inr none ↦ elim (by_first k Q support (λ a. by_size k (λ b. Q (a ∷ b)) (λ b. decide (a ∷ b)))) [
      | inl found ↦ inl found
      | inr no_first ↦ inr (with_first k Q none no_first)
    ]
  ]

-- all atoms are fluent
abbrev AreFluent : Task → List Atom → Type 0
AreFluent task atoms = All (λ (a : Atom). IsTrue (is_fluent task.schemas a.predicate)) atoms

-- none of the states has all of the atoms
abbrev AreUnseen : List State → List Atom → Type 0
AreUnseen seen atoms = All (λ t. HasAll t atoms → ⊥) seen

-- the atoms make the state new
abbrev AreNew : Task → List State → State → List Atom → Type 0
AreNew task seen s atoms = (0 < length atoms) × AreFluent task atoms × HasAll s atoms × AreUnseen seen atoms

true_or_not : (b : Bool) → IsTrue b ⊎ (IsTrue b → ⊥)
true_or_not true = inl refl
true_or_not false = inr false≢true

some_or_none : (atoms : List Atom) → (0 < length atoms) ⊎ (0 < length atoms → ⊥)
some_or_none [] = inr (λ l. omega (arith, l))
some_or_none (a ∷ atoms) = inl (omega arith)

fluent_or_not : (task : Task) (atoms : List Atom) → AreFluent task atoms ⊎ (AreFluent task atoms → ⊥)
fluent_or_not task atoms =
    all_or_not (λ (a : Atom). IsTrue (is_fluent task.schemas a.predicate)) atoms
    (λ a has. true_or_not (is_fluent task.schemas a.predicate))

has_all_or_not : (s : State) (atoms : List Atom) → HasAll s atoms ⊎ (HasAll s atoms → ⊥)
has_all_or_not s atoms = all_or_not (λ a. IsTrue (s a)) atoms (λ a has. true_or_not (s a))

refuted_or_not : {P : Type 0} → P ⊎ (P → ⊥) → (P → ⊥) ⊎ ((P → ⊥) → ⊥)
refuted_or_not (inl p) = inr (λ not. not p)
refuted_or_not (inr not) = inl not

unseen_or_not : (seen : List State) (atoms : List Atom) → AreUnseen seen atoms ⊎ (AreUnseen seen atoms → ⊥)
unseen_or_not seen atoms =
    all_or_not (λ t. HasAll t atoms → ⊥) seen (λ t there. refuted_or_not (has_all_or_not t atoms))

new_or_not : (task : Task) (seen : List State) (s : State) (atoms : List Atom) →
    AreNew task seen s atoms ⊎ (AreNew task seen s atoms → ⊥)
new_or_not task seen s atoms = elim (some_or_none atoms) [
  | inr none ↦ inr (λ w. none w.0)
  | inl some ↦ elim (fluent_or_not task atoms) [
    | inr none ↦ inr (λ w. none w.1)
    | inl fluent ↦ elim (has_all_or_not s atoms) [
      | inr none ↦ inr (λ w. none w.2)
      | inl has ↦ elim (unseen_or_not seen atoms) [
        | inr none ↦ inr (λ w. none w.3)
        | inl unseen ↦ inl (some, fluent, has, unseen)
      ]
    ]
  ]
]

novel_by : (task : Task) (k : ℕ) (seen : List State) (s : State) → HasOne k (AreNew task seen s) →
    IsNovel task k seen s
novel_by task k seen s (atoms, few, new) =
    record { atoms = atoms; some = new.0; few = few; fluent = new.1; has = new.2; unseen = new.3 }

-- where the atoms that are true in a state are in a list, it is new or it is not
pub stale_or_novel : (task : Task) (k : ℕ) (support : List Atom) (seen : List State) (s : State) →
    ((a : Atom) → IsTrue (s a) → Contains support a) → IsStale task k seen s ⊎ IsNovel task k seen s
stale_or_novel task k support seen s only =
    elim (by_size support k (AreNew task seen s) (new_or_not task seen s)) [
      | inl found ↦ inr (novel_by task k seen s found)
      | inr none ↦ inl (λ (n : IsNovel task k seen s). none n.atoms n.few
          (All-weaker (λ a. IsTrue (s a)) (Contains support) only n.atoms n.has)
          (n.some, n.fluent, n.has, n.unseen))
    ]
