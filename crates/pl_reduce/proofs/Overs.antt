-- Relations that are over the classes of their nodes, node by node and all together.
use Rattle.std.proofs.Common.{◌≡◌, ◌↔◌, ◌+◌, ◌<◌, ℕ, suc, List, Option, Some, length, refl, sym, subst, inl}
use Rattle.std.proofs.Common.{inr, arith}
use Rattle.std.proofs.lemmas.Option.{same_Some}
use Rattle.pl_join.specs.Relation.{ClassRows}
use Rattle.pl_hyper.specs.Ears.{Removal}
use Rattle.pl_hyper.proofs.Members.{same_or_not}
use Rattle.pl_reduce.specs.Recipes.{option_at, AreFixed, IsOverEar, IsOverNodeOf}

-- the node of an ear
pub over_ear : (plan : Removal) (node i : ℕ) (r : ClassRows) → node ≡ suc i →
    IsOverEar plan r i ↔ IsOverNodeOf plan node (Some r)
over_ear plan node i r is = (
  λ over. record {
    root_order = λ s z e. absurd (omega (arith, is, z));
    ear = λ s j n e. (let same : i ≡ j = omega (arith, is, n) in
        subst (λ t. IsOverEar plan t j) (same_Some r s e) (subst (λ k. IsOverEar plan r k) same over));
  },
  λ over. over.ear r i is refl,
)

-- the first nodes are over their classes
abbrev pub AreOverFirst : Removal → List (Option ClassRows) → ℕ → Type 0
AreOverFirst plan relations many = (k : ℕ) → k < many → IsOverNodeOf plan k (option_at relations k)

pub one_more_over : (plan : Removal) (relations : List (Option ClassRows)) (many : ℕ)
    → AreOverFirst plan relations many → IsOverNodeOf plan many (option_at relations many)
    → AreOverFirst plan relations (many + 1)
one_more_over plan relations many over last k l = elim (same_or_not k many) [
  | inl e ↦ subst (λ i. IsOverNodeOf plan i (option_at relations i)) (sym e) last
  | inr n ↦ over k (omega (arith, n))
]

pub all_over : (plan : Removal) (relations : List (Option ClassRows)) → 0 < length plan.core
    → length relations ≡ suc (length plan.removed) → AreOverFirst plan relations (length relations)
    → AreFixed plan relations
all_over plan relations core many over = record {
  core = core;
  many = many;
  over = record {
    root_order = λ r e. (over 0 (omega (arith, many))).root_order r refl e;
    ears = λ i c d r l e. (over (suc i) (omega (arith, many, l))).ear r i refl e c d;
  };
}

-- and where relations are over their nodes, each is
pub each_over : (plan : Removal) (relations : List (Option ClassRows)) (k : ℕ) → AreFixed plan relations
    → k < length relations → IsOverNodeOf plan k (option_at relations k)
each_over plan relations k fixed l = record {
  root_order = λ r z e. fixed.over.root_order r (subst (λ i. option_at relations i ≡ Some r) z e);
  ear = λ r i n e c d. fixed.over.ears i c d r (let many = fixed.many in omega (arith, many, l, n))
      (subst (λ k. option_at relations k ≡ Some r) n e);
}
