-- Relations whose columns are put into class order.
use Rattle.std.proofs.Common.{◌≡◌, ◌≢◌, ◌⊎◌, ◌↔◌, ◌+◌, ◌<◌, ◌≤◌, ℕ, List, Option, None, Some, length, take}
use Rattle.std.proofs.Common.{set, Contains, All, refl, sym, ap, ◌∙◌, subst, inl, inr, arith}
use Rattle.std.proofs.lemmas.List.{get_or-set_same, get_or-set_other, length-set}
use Rattle.std.proofs.lemmas.List.Sums.{sum_by_more_le, sum_by_more}
use Rattle.std.proofs.lemmas.List.Elements.{All-contains}
use Rattle.std.proofs.lemmas.List.Kept.{AllPairs-filter}
use Rattle.pl_join.specs.Relation.{ClassRows, Assignment, AreDistinct, Holds, IsProjectionOf, has_class}
use Rattle.pl_join.proofs.Assignments.{map_agree}
use Rattle.pl_join.proofs.Members.{Contains-filter, Contains-from_filter, has_class-Contains}
use Rattle.pl_reduce.specs.Recipes.{option_at}
use Rattle.pl_reduce.specs.Lent.{option_rows, own_rows}
use Rattle.pl_reduce.specs.Arranged.{ordered, IsArranged, IsArrangedAt, AreArrangedBelow}
use Rattle.pl_reduce.proofs.Lists.{all_members}
use Rattle.pl_hyper.proofs.Members.{same_or_not}

pub ordered_held : (order classes : List ℕ) → All (Contains classes) (ordered order classes)
ordered_held order classes = all_members (Contains classes) (ordered order classes) (λ c h.
    (has_class-Contains classes c).0 ((Contains-from_filter (has_class classes) order c h).1))

pub ordered_distinct : (order classes : List ℕ) → AreDistinct order → AreDistinct (ordered order classes)
ordered_distinct order classes d = AllPairs-filter (λ a b. a ≢ b) (has_class classes) order d

pub ordered_has : (order classes : List ℕ) (c : ℕ) → All (Contains order) classes → Contains classes c
    → Contains (ordered order classes) c
ordered_has order classes c held h =
    Contains-filter (has_class classes) order c (All-contains (Contains order) classes c held h)
    ((has_class-Contains classes c).1 h)

-- the projection onto all classes holds what the relation holds
holds_same : (order : List ℕ) (this arranged : ClassRows) (f : Assignment) → All (Contains order) this.classes
    → arranged.classes ≡ ordered order this.classes → IsProjectionOf this arranged → Holds arranged f
    ↔ Holds this f
holds_same order this arranged f held e projects = (
  λ h. (let (g, there, agree) = (projects f).0 h in
      subst (Contains this.rows)
      (sym (map_agree this.classes f g
      (λ c m. agree c
      (subst (λ classes. Contains classes c) (sym e) (ordered_has order this.classes c held m))))) there),
  λ h. (projects f).1 (f, h, λ c m. refl),
)

pub is_arranged : (order : List ℕ) (this arranged : ClassRows) → All (Contains order) this.classes
    → arranged.classes ≡ ordered order this.classes → IsProjectionOf this arranged
    → length arranged.rows ≤ length this.rows → IsArranged order this arranged
is_arranged order this arranged held classes projects fewer = record {
  classes = classes;
  same = λ f. holds_same order this arranged f held classes projects;
  fewer = fewer;
}

pub left_so : (order : List ℕ) (this : ClassRows) → this.classes ≡ ordered order this.classes
    → IsArranged order this this
left_so order this classes = record { classes = classes; same = λ f. (λ h. h, λ h. h); fewer = omega arith }

pub same_some : (a b : ClassRows) (o : Option ClassRows) → o ≡ Some a → o ≡ Some b → a ≡ b
same_some a b o e f = some_is a b (sym e ∙ f)
  where
    some_is : (a b : ClassRows) → Some a ≡ Some b → a ≡ b
    some_is a b e = cc

pub none_some : {X : Type 0} (a : ClassRows) (o : Option ClassRows) → o ≡ Some a → o ≡ None → X
none_some a o e f = absurd (not_none a (sym e ∙ f))
  where
    not_none : (a : ClassRows) → Some a ≡ None → ⊥
    not_none a e = cc

pub set_arranged : (order : List ℕ) (own : List (Option ClassRows)) (node : ℕ) (this arranged : ClassRows)
    → node < length own → option_at own node ≡ Some this → IsArranged order this arranged
    → IsArrangedAt order own (set own node (Some arranged)) node
set_arranged order own node this arranged l e is = record {
  many = length-set own node (Some arranged);
  others = λ k n. get_or-set_other own node k (Some arranged) None n;
  none = λ f. none_some this (option_at own node) e f;
  some = λ r f. (
    arranged,
    get_or-set_same own node (Some arranged) None l,
    subst (λ r. IsArranged order r arranged) (same_some this r (option_at own node) e f) is,
  );
}

pub left_arranged : (order : List ℕ) (own : List (Option ClassRows)) (node : ℕ) (this : ClassRows)
    → option_at own node ≡ Some this → this.classes ≡ ordered order this.classes
    → IsArrangedAt order own own node
left_arranged order own node this e classes = record {
  many = refl;
  others = λ k n. refl;
  none = λ f. f;
  some = λ r f. (
    this,
    e,
    subst (λ r. IsArranged order r this) (same_some this r (option_at own node) e f)
        (left_so order this classes),
  );
}

pub none_to_arrange : (order : List ℕ) (own : List (Option ClassRows)) (node : ℕ) → option_at own node ≡ None
    → IsArrangedAt order own own node
none_to_arrange order own node e =
    record {
      many = refl;
      others = λ k n. refl;
      none = λ f. f;
      some = λ r f.
          none_some r (option_at own node) f e;
    }

-- ---- one after another

pub none_arranged : (order : List ℕ) (own : List (Option ClassRows)) (limit : ℕ) → limit ≤ 1
    → AreArrangedBelow order own own limit
none_arranged order own limit l = record {
  many = refl;
  root = refl;
  rest = λ k m. refl;
  none = λ k e. e;
  some = λ k r some below e. absurd (omega arith);
}

-- one relation more
pub one_arranged : (order : List ℕ) (given old new : List (Option ClassRows)) (node : ℕ) → 0 < node
    → AreArrangedBelow order given old node → IsArrangedAt order old new node
    → AreArrangedBelow order given new (node + 1)
one_arranged order given old new node some are is = record {
  many = is.many ∙ are.many;
  root = is.others 0 (λ e. omega arith) ∙ are.root;
  rest = λ k m. is.others k (λ e. omega arith) ∙ are.rest k (omega arith);
  none = λ k e. none k e (same_or_not k node);
  some = λ k r some below e. some_at k r some below e (same_or_not k node);
}
  where
    was : option_at old node ≡ option_at given node
    was = are.rest node (omega arith)

    none : (k : ℕ) → option_at given k ≡ None → (k ≡ node) ⊎ (k ≢ node) → option_at new k ≡ None
    none k e (inl s) = subst (λ i. option_at new i ≡ None) (sym s)
        (is.none (was ∙ subst (λ i. option_at given i ≡ None) s e))
    none k e (inr n) = is.others k n ∙ are.none k e

    some_at : (k : ℕ) (r : ClassRows) → 0 < k → k < node + 1 → option_at given k ≡ Some r → (k ≡ node)
        ⊎ (k ≢ node) → (s : ClassRows) × (option_at new k ≡ Some s) × IsArranged order r s
    some_at k r low below e (inl s) =
        let (made, at, arranged) = is.some r (was ∙ subst (λ i. option_at given i ≡ Some r) s e) in
        (made, subst (λ i. option_at new i ≡ Some made) (sym s) at, arranged)
    some_at k r low below e (inr n) = let (made, at, arranged) = are.some k r low (omega arith) e in
        (made, is.others k n ∙ at, arranged)

-- ---- what the loop takes

rows_same : (given old : List (Option ClassRows)) (node : ℕ) → option_at old node ≡ option_at given node
    → option_rows (option_at old node) ≡ option_rows (option_at given node)
rows_same given old node e = ap option_rows e

pub arranged_cost : (order : List ℕ) (given old : List (Option ClassRows)) (node start before after : ℕ)
    → node < length given → AreArrangedBelow order given old node
    → before ≤ start + own_rows (take node given) → after ≤ before + option_rows (option_at old node)
    → after ≤ start + own_rows (take (node + 1) given)
arranged_cost order given old node start before after l are so_far step =
    let more = sum_by_more option_rows given node None l in
    let same = rows_same given old node (are.rest node (omega arith)) in
    omega (arith, more, same, so_far, step)

pub arranged_most : (order : List ℕ) (given old : List (Option ClassRows)) (node start before after : ℕ)
    → node < length given → AreArrangedBelow order given old node
    → before ≤ start + own_rows (take node given) → after ≤ before + option_rows (option_at old node)
    → after ≤ start + own_rows given
arranged_most order given old node start before after l are so_far step =
    let more = sum_by_more_le option_rows given node None l in
    let same = rows_same given old node (are.rest node (omega arith)) in
    omega (arith, more, same, so_far, step)
