-- A walk over declarations, with the names of those so far.
use Rattle.std.proofs.Common.{◌≡◌, ℕ, ◌+◌, ◌<◌, ◌≤◌, true, cond, List, [], ◌∷◌, ◌++◌, map, take, drop, length}
use Rattle.std.proofs.Common.{get_or, zero, suc, Option, None, Some, arith, add-one, refl, sym, ap, subst}
use Rattle.std.proofs.Common.{◌∙◌}
use Rattle.std.specs.Prelude.{IsTrue}
use Rattle.std.proofs.lemmas.List.{at_drop_more, at_drop_all}
use Rattle.pl_text.specs.declared.form.Form.{Form}
use Rattle.pl_text.specs.Trees.{tree_of}
use Rattle.pl_check.specs.declared.reading.ReadEnd.{ReadEnd}
use Rattle.pl_check.specs.declared.reading.ReadEnd.TheVariants as read_end
use Rattle.pl_check.specs.Elements.{trees}
use Rattle.pl_check.specs.FaultLists.{first}
use Rattle.pl_check.specs.Predicates.{predicates_faults, declaration_faults, declared_name, declarations}
use Rattle.pl_check.specs.Predicates.{is_declaration, names_after}
use Rattle.pl_check.specs.Reading.{Refuses}
use Rattle.pl_check.proofs.FaultListLemmas.{first_none, first_some}

module _ (text : List ℕ) (types : List (List ℕ)) (all : List (List ℕ)) (whole forms : List Form) (i : ℕ)
    (form : Form)
    (h : i < length forms)
    (decides : first (predicates_faults text types [] (trees whole)) ≡ first
    (predicates_faults text types (take i all) (trees (drop i forms))))
    (here : form ≡ get_or forms i form) where
  at : first (predicates_faults text types (take i all) (trees (drop i forms))) ≡
      first (declaration_faults text types (take i all) (tree_of form) ++
      predicates_faults text types (names_after text (tree_of form) (take i all))
      (trees (drop (i + 1) forms)))
  at = at_drop_more (λ l. first (predicates_faults text types (take i all) (trees l))) forms i form h ∙
      ap (λ f. first (declaration_faults text types (take i all) (tree_of f) ++
      predicates_faults text types (names_after text (tree_of f) (take i all))
      (trees (drop (i + 1) forms)))) (sym here)

  pub declaration_refused : (e : ReadEnd) →
      Refuses (declaration_faults text types (take i all) (tree_of form)) e →
      Refuses (predicates_faults text types [] (trees whole)) e
  declaration_refused (read_end.Fault x) found = decides ∙ at ∙ first_some _ _ x found
  declaration_refused (read_end.Memory e) found = tt

drop_suc : (all : List (List ℕ)) (i : ℕ) (name : List ℕ) (rest : List (List ℕ)) → drop i all ≡ name ∷ rest →
    (take (suc i) all ≡ take i all ++ name ∷ []) × (drop (suc i) all ≡ rest)
drop_suc [] zero name rest h = cc
drop_suc [] (suc i) name rest h = cc
drop_suc (x ∷ all) zero name rest h = (ap (λ y. y ∷ []) (cc), cc)
drop_suc (x ∷ all) (suc i) name rest h = let one = drop_suc all i name rest h in
    (ap (λ l. x ∷ l) one.0, one.1)

-- the next of names that are left
drop_one : (all : List (List ℕ)) (i : ℕ) (name : List ℕ) (rest : List (List ℕ)) → drop i all ≡ name ∷ rest →
    (take (i + 1) all ≡ take i all ++ name ∷ []) × (drop (i + 1) all ≡ rest)
drop_one all i name rest h =
    let next : i + 1 ≡ suc i = omega arith in
    let one = drop_suc all i name rest h in
    (ap (λ n. take n all) next ∙ one.0, ap (λ n. drop n all) next ∙ one.1)

-- what is left past a declaration: its name is one of those so far
pub declaration_passed : (text : List ℕ) (types : List (List ℕ)) (all : List (List ℕ))
    (whole forms : List Form) (i : ℕ) (form : Form) →
    i < length forms →
    first (predicates_faults text types [] (trees whole)) ≡ first
    (predicates_faults text types (take i all) (trees (drop i forms))) →
    form ≡ get_or forms i form →
    drop i all ≡ map (declared_name text) (declarations text (trees (drop i forms))) →
    first (declaration_faults text types (take i all) (tree_of form)) ≡ None →
    is_declaration text (tree_of form) ≡ true →
    (first (predicates_faults text types [] (trees whole)) ≡ first
    (predicates_faults text types (take (i + 1) all) (trees (drop (i + 1) forms)))) ×
    (drop (i + 1) all ≡ map (declared_name text) (declarations text (trees (drop (i + 1) forms))))
declaration_passed text types all whole forms i form h decides here left none is =
    let rest : List (List ℕ) = map (declared_name text) (declarations text (trees (drop (i + 1) forms))) in
    let names : drop i all ≡ declared_name text (tree_of form) ∷ rest =
    left ∙ at_drop_more (λ l. map (declared_name text) (declarations text (trees l))) forms i form h ∙
    ap (λ f. map (declared_name text) (declarations text (tree_of f ∷ trees (drop (i + 1) forms))))
    (sym here) ∙
    ap (λ b. map (declared_name text) (cond b (tree_of form ∷ declarations text (trees (drop (i + 1) forms)))
    (declarations text (trees (drop (i + 1) forms))))) is in
    let one = drop_one all i (declared_name text (tree_of form)) rest names in (
      decides ∙ at text types all whole forms i form h decides here ∙ first_none _ _ none ∙
          ap (λ b. first (predicates_faults text types
          (cond b (take i all ++ declared_name text (tree_of form) ∷ []) (take i all))
          (trees (drop (i + 1) forms)))) is ∙
          ap (λ l. first (predicates_faults text types l (trees (drop (i + 1) forms)))) (sym one.0),
      one.1,
    )
