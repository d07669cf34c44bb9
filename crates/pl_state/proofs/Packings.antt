-- The rows of the atoms of a predicate, sorted and put behind their number.
use Rattle.std.proofs.Common.{◌≡◌, ◌⊎◌, ◌↔◌, ◌+◌, ◌*◌, ◌<◌, ◌^◌, ◌==◌, ℕ, zero, suc, true, false, cond, List}
use Rattle.std.proofs.Common.{[], ◌∷◌, ◌++◌, length, map, get_or, take, drop, refl, sym, ap, ◌∙◌, subst, inl}
use Rattle.std.proofs.Common.{inr, All, Contains, IsTrue, arith, append_assoc, eqb-true, eq-eqb, nat_eq}
use Rattle.std.proofs.Common.{slice_get, Some, Result, Ok, Err, IfOk}
use Rattle.std.specs.declared.alloc.AllocError.{AllocError}
use Rattle.std.specs.List.{flat_map, filter}
use Rattle.std.proofs.lemmas.Bool.{cases_Bool}
use Rattle.std.proofs.lemmas.List.{take_all, take-append-drop, length-drop, nil_from_length, map_push}
use Rattle.std.proofs.lemmas.List.{append-nil}
use Rattle.std.proofs.lemmas.List.Elements.{filter_more, All-weaker, All-contains, Contains-get_or}
use Rattle.pl_rows.specs.Rows.{rows_of, Rows, AreRows, SameRows}
use Rattle.pl_rows.proofs.Canonical.{Contains-cons_cases, Contains-cons_first, Contains-cons_rest}
use Rattle.pl_rows.proofs.Canonical.{Contains-nil}
use Rattle.pl_rows.proofs.Places.{rows_of-push}
use Rattle.pl_task.specs.declared.data.Atom.{Atom}
use Rattle.pl_task.specs.declared.data.ObjectDef.{ObjectDef}
use Rattle.pl_task.specs.declared.data.PredicateDef.{PredicateDef}
use Rattle.pl_task.specs.WellFormed.{IsAtomOf}
use Rattle.pl_task.specs.States.{state_of}
use Rattle.pl_task.proofs.StateLemmas.{state_of-members}
use Rattle.pl_state.specs.Layout.{atom_of, part_of}
use Rattle.pl_state.specs.Statics.{IsAtomTable}
use Rattle.pl_state.specs.Changing.{AppendsPart, IsAtomAt}

-- rows that are cut out of a flat list, joined again
pub flat-rows_of : (k n : ℕ) (flat : List ℕ) → length flat ≡ k * n →
    flat_map (λ row. row) (rows_of k n flat) ≡ flat
flat-rows_of k zero flat h = sym (nil_from_length flat (omega arith))
flat-rows_of k (suc n) flat h =
    let e : k * suc n ≡ k + k * n = grind arith in
    ap (λ w. take k flat ++ w) (flat-rows_of k n (drop k flat) (omega (arith, length-drop k flat))) ∙
    take-append-drop k flat

-- the number of a table's rows, and its rows
pub table_words : (old pushed flat : List ℕ) (k n word : ℕ) (rows : List (List ℕ)) → n ≡ length rows →
    word ≡ n → pushed ≡ old ++ word ∷ [] → length flat ≡ k * n →
    rows_of k n flat ≡ take n rows → pushed ++ flat ≡ old ++ part_of rows
table_words old pushed flat k n word rows many is push whole cut =
    let all : rows_of k n flat ≡ rows = cut ∙ take_all n rows (omega arith) in
    let joined : flat ≡ flat_map (λ row. row) rows =
    sym (flat-rows_of k n flat whole) ∙ ap (flat_map (λ row. row)) all in
    ap (λ w. w ++ flat) push ∙ append_assoc old (word ∷ []) flat ∙ ap (λ w. old ++ word ∷ w) joined ∙
    ap (λ m. old ++ m ∷ flat_map (λ row. row) rows) (is ∙ many)

-- the rows of the atoms of a predicate
abbrev pub rows_among : ℕ → List Atom → List (List ℕ)
rows_among p atoms = map (λ (a : Atom). a.objects) (filter (λ (a : Atom). a.predicate == p) atoms)

rows_among-cons : (p : ℕ) (a : Atom) (atoms : List Atom) → a.predicate ≡ p →
    rows_among p (a ∷ atoms) ≡ a.objects ∷ rows_among p atoms
rows_among-cons p a atoms e = let t : nat_eq a.predicate p ≡ true = eq-eqb a.predicate p e in rw t refl

rows_among-other : (p : ℕ) (a : Atom) (atoms : List Atom) → nat_eq a.predicate p ≡ false →
    rows_among p (a ∷ atoms) ≡ rows_among p atoms
rows_among-other p a atoms f = rw f refl

-- one more atom
pub gathered_yes : (p : ℕ) (atoms : List Atom) (i k n : ℕ) (flat : List ℕ) (a : Atom) → i < length atoms →
    a ≡ get_or atoms i a → a.predicate ≡ p → length a.objects ≡ k →
    length flat ≡ k * n → rows_of k n flat ≡ rows_among p (take i atoms) →
    rows_of k (n + 1) (flat ++ a.objects) ≡ rows_among p (take (i + 1) atoms)
gathered_yes p atoms i k n flat a within reads is wide whole held =
    let t : nat_eq (get_or atoms i a).predicate p ≡ true =
    subst (λ (x : Atom). nat_eq x.predicate p ≡ true) reads (eq-eqb a.predicate p is) in
    let more : filter (λ (x : Atom). x.predicate == p) (take (i + 1) atoms) ≡ filter
    (λ (x : Atom). x.predicate == p) (take i atoms) ++ a ∷ [] =
    filter_more (λ (x : Atom). x.predicate == p) atoms i a within ∙
    ap (λ b. filter (λ (x : Atom). x.predicate == p) (take i atoms) ++ cond b (get_or atoms i a ∷ []) []) t ∙
    ap (λ (x : Atom). filter (λ (y : Atom). y.predicate == p) (take i atoms) ++ x ∷ []) (sym reads) in
    rows_of-push k n flat a.objects whole wide ∙ ap (λ rs. rs ++ a.objects ∷ []) held ∙
    sym (ap (map (λ (x : Atom). x.objects)) more ∙
    map_push (λ (x : Atom). x.objects) (filter (λ (x : Atom). x.predicate == p) (take i atoms)) a)

pub gathered_no : (p : ℕ) (atoms : List Atom) (i : ℕ) (a : Atom) → i < length atoms → a ≡ get_or atoms i a →
    (a.predicate ≡ p → ⊥) →
    rows_among p (take i atoms) ≡ rows_among p (take (i + 1) atoms)
gathered_no p atoms i a within reads differ =
    let f : nat_eq (get_or atoms i a).predicate p ≡ false =
    subst (λ (x : Atom). nat_eq x.predicate p ≡ false) reads (grind (arith, differ)) in
    let more : filter (λ (x : Atom). x.predicate == p) (take (i + 1) atoms) ≡ filter
    (λ (x : Atom). x.predicate == p) (take i atoms) =
    filter_more (λ (x : Atom). x.predicate == p) atoms i a within ∙
    ap (λ b. filter (λ (x : Atom). x.predicate == p) (take i atoms) ++ cond b (get_or atoms i a ∷ []) []) f ∙
    append-nil (filter (λ (x : Atom). x.predicate == p) (take i atoms)) in
    sym (ap (map (λ (x : Atom). x.objects)) more)

-- the rows of the atoms of a predicate are those of its atoms in the list
rows_among-from : (p : ℕ) (atoms : List Atom) (row : List ℕ) → Contains (rows_among p atoms) row →
    Contains atoms (atom_of p row)
rows_among-from p [] row h = absurd (Contains-nil row h)
rows_among-from p (a ∷ atoms) row h = elim (cases_Bool (nat_eq a.predicate p)) [
  | inl t ↦ here t (λ there. rows_among-from p atoms row there)
      (Contains-cons_cases a.objects (rows_among p atoms) row
      (subst (λ rs. Contains rs row) (rows_among-cons p a atoms (eqb-true a.predicate p t)) h))
  | inr f ↦ Contains-cons_rest a atoms (atom_of p row)
      (rows_among-from p atoms row (subst (λ rs. Contains rs row) (rows_among-other p a atoms f) h))
]
  where
    here : nat_eq a.predicate p ≡ true → (Contains (rows_among p atoms) row → Contains atoms (atom_of p row))
        → (a.objects ≡ row) ⊎ Contains (rows_among p atoms) row → Contains (a ∷ atoms) (atom_of p row)
    here t rest (inl e) =
        let q : a.predicate ≡ p = eqb-true a.predicate p t in
        let same : a ≡ atom_of p row = λ i. record { predicate = q i; objects = e i } in
        subst (Contains (a ∷ atoms)) same (Contains-cons_first a atoms)
    here t rest (inr there) = Contains-cons_rest a atoms (atom_of p row) (rest there)

rows_among-to : (p : ℕ) (atoms : List Atom) (row : List ℕ) → Contains atoms (atom_of p row) →
    Contains (rows_among p atoms) row
rows_among-to p [] row h = absurd (Contains-nil (atom_of p row) h)
rows_among-to p (a ∷ atoms) row h =
    by_place (λ there. rows_among-to p atoms row there) (Contains-cons_cases a atoms (atom_of p row) h)
  where
    by_place : (Contains atoms (atom_of p row) → Contains (rows_among p atoms) row) → (a ≡ atom_of p row) ⊎
        Contains atoms (atom_of p row) → Contains (rows_among p (a ∷ atoms)) row
    by_place rest (inl e) =
        let q : a.predicate ≡ p = ap (λ (x : Atom). x.predicate) e in
        let o : a.objects ≡ row = ap (λ (x : Atom). x.objects) e in
        subst (λ rs. Contains rs row) (sym (rows_among-cons p a atoms q))
        (subst (Contains (a.objects ∷ rows_among p atoms)) o
        (Contains-cons_first a.objects (rows_among p atoms)))
    by_place rest (inr there) = elim (cases_Bool (nat_eq a.predicate p)) [
      | inl t ↦ subst (λ rs. Contains rs row) (sym (rows_among-cons p a atoms (eqb-true a.predicate p t)))
          (Contains-cons_rest a.objects (rows_among p atoms) row (rest there))
      | inr f ↦ subst (λ rs. Contains rs row) (sym (rows_among-other p a atoms f)) (rest there)
    ]

-- the rows of the atoms of a predicate are those of its atoms in the list
pub rows_among-members : (p : ℕ) (atoms : List Atom) (row : List ℕ) → Contains (rows_among p atoms) row ↔
    IsTrue (state_of atoms (atom_of p row))
rows_among-members p atoms row = (
  (λ h. (state_of-members atoms (atom_of p row)).1 (rows_among-from p atoms row h)),
  (λ t. rows_among-to p atoms row ((state_of-members atoms (atom_of p row)).0 t)),
)

-- the table of the atoms of a predicate
gathered_table : (p k n : ℕ) (atoms : List Atom) (flat : List ℕ) (table : Rows) →
    rows_of k n flat ≡ rows_among p atoms → table.arity ≡ k →
    AreRows k table.rows → SameRows table.rows (rows_of k n flat) → IsAtomTable (state_of atoms) p k table
gathered_table p k n atoms flat table gathered arity rows same = record {
  wide = arity;
  rows_are = rows;
  members = λ row. (
    (λ h. (rows_among-members p atoms row).0 (subst (λ rs. Contains rs row) gathered ((same row).0 h))),
    (λ t. (same row).1 (subst (λ rs. Contains rs row) (sym gathered) ((rows_among-members p atoms row).1 t))),
  );
}

pub table_along : (p k n : ℕ) (atoms : List Atom) (flat : List ℕ) (result : Result Rows AllocError) →
    rows_of k n flat ≡ rows_among p atoms → IfOk result (λ (t : Rows). t.arity ≡ k) →
    IfOk result (λ (t : Rows). AreRows k t.rows) →
    IfOk result (λ (t : Rows). SameRows t.rows (rows_of k n flat)) →
    IfOk result (IsAtomTable (state_of atoms) p k)
table_along p k n atoms flat (Ok table) gathered arity rows same =
    gathered_table p k n atoms flat table gathered arity rows same
table_along p k n atoms flat (Err e) gathered arity rows same = tt

-- the part that is appended
pub packed_part : (objects p k : ℕ) (atoms : List Atom) (old new : List ℕ) (table : Rows) →
    All (IsAtomAt objects p k) atoms →
    IsAtomTable (state_of atoms) p k table → new ≡ old ++ part_of table.rows → length table.rows < 2 ^ 32 →
    AppendsPart objects (state_of atoms) p k old new
packed_part objects p k atoms old new table well is words few = record {
  rows = table.rows;
  words_are = words;
  true_rows = record {
    table = is.rows_are;
    members = is.members;
    within = λ i d l. object_rows (get_or table.rows i d) (Contains-get_or table.rows i d l);
    few = few;
  };
}
  where
    object_rows : (row : List ℕ) → Contains table.rows row → All (λ o. o < objects) row
    object_rows row h =
        (All-contains (IsAtomAt objects p k) atoms (atom_of p row) well
        ((state_of-members atoms (atom_of p row)).0 ((is.members row).0 h))).within refl

pub wide_atoms : (objects p k : ℕ) (atoms : List Atom) → All (IsAtomAt objects p k) atoms →
    All (λ (a : Atom). a.predicate ≡ p → length a.objects ≡ k) atoms
wide_atoms objects p k atoms h =
    All-weaker (IsAtomAt objects p k) (λ (a : Atom). a.predicate ≡ p → length a.objects ≡ k) (λ a x. x.wide)
    atoms h

-- atoms of the task have the width of their predicate
pub atoms_at : (objects : List ObjectDef) (predicates : List PredicateDef) (atoms : List Atom) (p : ℕ)
    (d : PredicateDef) → All (IsAtomOf objects predicates) atoms →
    slice_get predicates p ≡ Some d → All (IsAtomAt (length objects) p d.arity) atoms
atoms_at objects predicates atoms p d h found =
    All-weaker (IsAtomOf objects predicates) (IsAtomAt (length objects) p d.arity) one atoms h
  where
    one : (a : Atom) → IsAtomOf objects predicates a → IsAtomAt (length objects) p d.arity a
    one a x = record {
      wide = λ e. x.arity d (subst (λ n. slice_get predicates n ≡ Some d) (sym e) found);
      within = λ e. x.within;
    }
