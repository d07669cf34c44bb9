-- A join with a relation that has no row is empty: what the passes leave of it.
use Rattle.std.proofs.Common.{◌≡◌, ◌≢◌, ◌⊎◌, ◌+◌, ◌<◌, ◌≤◌, ℕ, List, [], ◌∷◌, length, get_or, set, refl, sym}
use Rattle.std.proofs.Common.{ap, ◌∙◌, subst, inl, inr, arith}
use Rattle.std.proofs.lemmas.List.{get_or-set_same, get_or-set_other, length-set, get_or_default}
use Rattle.pl_join.specs.Relation.{ClassRows, Assignment, Holds, HoldsAll}
use Rattle.pl_join.proofs.Assignments.{holds_none}
use Rattle.pl_hyper.proofs.Members.{same_or_not}
use Rattle.pl_reduce.specs.Plan.{relation_at}
use Rattle.pl_reduce.specs.Passes.{AreReduced, AreEmptied, IsPassedDown}

-- no assignment is held by all where one relation has none
pub none_held : (given nodes : List ClassRows) (k : ℕ) → AreReduced given nodes → k < length given
    → (relation_at nodes k).rows ≡ [] → (f : Assignment) → HoldsAll given f → ⊥
none_held given nodes k is l e f all = holds_none (relation_at nodes k) f e (is.kept f k l all)

-- relations without rows are what the passes leave then
pub emptied_down : (given nodes new : List ClassRows) (n : ℕ) → AreReduced given nodes → 0 < length given
    → ((f : Assignment) → HoldsAll given f → ⊥) → AreEmptied nodes new n → n ≡ length nodes
    → IsPassedDown given new 0
emptied_down given nodes new n is some none emptied e = record {
  reduced = record {
    many = emptied.many ∙ is.many;
    classes = λ k. emptied.classes k ∙ is.classes k;
    kept = λ f k l all. absurd (none f all);
    within = λ f k l h. absurd (empty f k (omega (arith, l, is.many, e)) h);
    fewer = λ k. (let a = emptied.fewer k in let b = is.fewer k in omega (arith, a, b));
  };
  extend = λ i l f held.
      absurd (empty f 0 (omega (arith, some, is.many, e))
      (held 0 (omega (arith, some, is.many, emptied.many)) (inl refl)));
  exact = λ k l m f h. absurd (empty f k (omega (arith, l, is.many, e)) h);
}
  where
    empty : (f : Assignment) (k : ℕ) → k < n → Holds (relation_at new k) f → ⊥
    empty f k l h = holds_none (relation_at new k) f (emptied.rows k l) h

pub emptied_none : (nodes : List ClassRows) → AreEmptied nodes nodes 0
emptied_none nodes =
    record { many = refl; classes = λ k. refl; rows = λ k l. absurd (omega arith); fewer = λ k. omega arith }

-- one relation more
pub emptied_more : (old nodes : List ClassRows) (i : ℕ) (this made : ClassRows) → AreEmptied old nodes i
    → i < length nodes → this ≡ get_or nodes i this → made ≡ record { classes = this.classes; rows = [] }
    → AreEmptied old (set nodes i made) (i + 1)
emptied_more old nodes i this made is l at em = record {
  many = length-set nodes i made ∙ is.many;
  classes = λ k. classes k (same_or_not k i) ∙ is.classes k;
  rows = λ k m. rows k m (same_or_not k i);
  fewer = λ k. fewer k (same_or_not k i);
}
  where
    here : relation_at (set nodes i made) i ≡ made
    here = get_or-set_same nodes i made _ l

    there : (k : ℕ) → k ≢ i → relation_at (set nodes i made) k ≡ relation_at nodes k
    there k n = get_or-set_other nodes i k made _ n

    classes : (k : ℕ) → (k ≡ i) ⊎ (k ≢ i) → (relation_at (set nodes i made) k).classes
        ≡ (relation_at nodes k).classes
    classes k (inl e) =
        subst (λ j. (relation_at (set nodes i made) j).classes ≡ (relation_at nodes j).classes) (sym e)
        (ap (λ (r : ClassRows). r.classes) here ∙ ap (λ (r : ClassRows). r.classes) em
        ∙ ap (λ (r : ClassRows). r.classes) (at ∙ sym (get_or_default nodes i _ this l)))
    classes k (inr n) = ap (λ (r : ClassRows). r.classes) (there k n)

    rows : (k : ℕ) → k < i + 1 → (k ≡ i) ⊎ (k ≢ i) → (relation_at (set nodes i made) k).rows ≡ []
    rows k m (inl e) = subst (λ j. (relation_at (set nodes i made) j).rows ≡ []) (sym e)
        (ap (λ (r : ClassRows). r.rows) here ∙ ap (λ (r : ClassRows). r.rows) em)
    rows k m (inr n) = ap (λ (r : ClassRows). r.rows) (there k n) ∙ is.rows k (omega (arith, n))

    fewer : (k : ℕ) → (k ≡ i) ⊎ (k ≢ i) → length (relation_at (set nodes i made) k).rows ≤ length
        (relation_at old k).rows
    fewer k (inl e) =
        let none : (relation_at (set nodes i made) k).rows ≡ [] = rows k (omega (arith, e)) (inl e) in
        let zero : length (relation_at (set nodes i made) k).rows ≡ 0 = ap length none in
        omega (arith, zero)
    fewer k (inr n) =
        (let same = ap (λ (r : ClassRows). length r.rows) (there k n) in let before = is.fewer k in
        omega (arith, same, before))

-- what the two tests of a relation's rows say
pub rowless : (nodes : List ClassRows) (k : ℕ) (this : ClassRows) → this ≡ get_or nodes k this
    → k < length nodes → length this.rows ≡ 0 → (relation_at nodes k).rows ≡ []
rowless nodes k this at l e = no_row (relation_at nodes k).rows
    (ap (λ (r : ClassRows). length r.rows) (sym (at ∙ get_or_default nodes k this _ l)) ∙ e)
  where
    no_row : (rows : List (List ℕ)) → length rows ≡ 0 → rows ≡ []
    no_row [] e = refl
    no_row (row ∷ rows) e = absurd (omega arith)
