-- The fixed relations of a recipe, reduced by their fixed neighbours.
use Rattle.std.proofs.Common.{◌≡◌, ◌≢◌, ◌⊎◌, ◌+◌, ◌<◌, ◌≤◌, ℕ, suc, List, Option, None, Some, length, set}
use Rattle.std.proofs.Common.{slice_index, Contains, refl, sym, ◌∙◌, subst, inl, inr, arith}
use Rattle.std.proofs.lemmas.List.{get_or-set_same, get_or-set_other, length-set}
use Rattle.pl_hyper.proofs.Members.{same_or_not}
use Rattle.pl_join.specs.Relation.{ClassRows, Assignment, Holds, IsSemijoinOf}
use Rattle.pl_reduce.specs.Passes.{Remains}
use Rattle.pl_reduce.specs.Recipes.{option_at}
use Rattle.pl_reduce.specs.Lent.{IsSmaller}
use Rattle.pl_reduce.specs.Fixing.{FixedHold, IsPart, IsPairReduction, IsFixedBy, AreFixedFrom, IsUp, IsDown}
use Rattle.pl_reduce.proofs.Arrangements.{same_some, none_some}
use Rattle.pl_reduce.proofs.Beginnings.{some_or}

-- ---- semijoins of parts

whole_part : (a : ClassRows) → IsPart a a
whole_part a = record { classes = refl; within = λ f h. h; fewer = omega arith }

-- what a semijoin left is left by it again
semi_again : (a b s : ClassRows) → s.classes ≡ a.classes → IsSemijoinOf a b s → IsSemijoinOf s b s
semi_again a b s e semi f = (
  λ h. (let (here, (g, there, agree)) = (semi f).0 h in
      (h, (g, there, λ c m n. agree c (subst (λ xs. Contains xs c) e m) n))),
  λ (h, other). h,
)

-- a part of what loses nothing loses nothing
semi_part : (a b s : ClassRows) → IsPart a s → IsSemijoinOf a b a → IsSemijoinOf s b s
semi_part a b s part semi f = (
  λ h. (let (here, (g, there, agree)) = (semi f).0 (part.within f h) in
      (h, (g, there, λ c m n. agree c (subst (λ xs. Contains xs c) part.classes m) n))),
  λ (h, other). h,
)

-- the other relation may lose what agrees with no row
semi_back : (a b s : ClassRows) → s.classes ≡ b.classes → IsSemijoinOf b a s → IsSemijoinOf a b a
    → IsSemijoinOf a s a
semi_back a b s e lost semi f = (
  λ h. (let (here, (g, there, agree)) = (semi f).0 h in (
    h,
    (
      g,
      (lost g).1 (there, (f, h, λ c m n. sym (agree c n m))),
      λ c m n. agree c m (subst (λ xs. Contains xs c) e n),
    ),
  )),
  λ (h, other). h,
)

-- ---- one step

-- what a node has after a step is a part of what it had
part_of : (old new : List (Option ClassRows)) (keep by k : ℕ) (s : ClassRows) → IsFixedBy old new keep by
    → option_at new k ≡ Some s → (a : ClassRows) × (option_at old k ≡ Some a) × IsPart a s
part_of old new keep by k s is e = elim (same_or_not k keep) [
  | inl same ↦ (subst (λ n. (a : ClassRows) × (option_at old n ≡ Some a) × IsPart a s) (sym same)
      (here (subst (λ n. option_at new n ≡ Some s) same e) (some_or (option_at old keep))))
  | inr other ↦ (s, sym (is.others k other) ∙ e, whole_part s)
]
  where
    here : option_at new keep ≡ Some s → (option_at old keep ≡ None)
        ⊎ ((r : ClassRows) × (option_at old keep ≡ Some r)) → (a : ClassRows) × (option_at old keep ≡ Some a)
        × IsPart a s
    here f (inl none) = none_some s (option_at new keep) f (is.none none)
    here f (inr (a, at)) =
        (let (t, there, part) = is.some a at in
        (a, at, subst (IsPart a) (same_some t s (option_at new keep) there f) part))

part_step : (old new : List (Option ClassRows)) (keep by k : ℕ) (a : ClassRows) → IsFixedBy old new keep by
    → option_at old k ≡ Some a → (s : ClassRows) × (option_at new k ≡ Some s) × IsPart a s
part_step old new keep by k a is e = elim (same_or_not k keep) [
  | inl same ↦ (subst (λ n. (s : ClassRows) × (option_at new n ≡ Some s) × IsPart a s) (sym same)
      (is.some a (subst (λ n. option_at old n ≡ Some a) same e)))
  | inr other ↦ (a, is.others k other ∙ e, whole_part a)
]

none_step : (old new : List (Option ClassRows)) (keep by k : ℕ) → IsFixedBy old new keep by
    → option_at old k ≡ None → option_at new k ≡ None
none_step old new keep by k is e = elim (same_or_not k keep) [
  | inl same ↦ subst (λ n. option_at new n ≡ None) (sym same)
      (is.none (subst (λ n. option_at old n ≡ None) same e))
  | inr other ↦ is.others k other ∙ e
]

-- an assignment of all relations is still one
hold_step : (old new : List (Option ClassRows)) (keep by : ℕ) (f : Assignment) → IsFixedBy old new keep by
    → FixedHold old f → FixedHold new f
hold_step old new keep by f is hold k s e = elim (same_or_not k keep) [
  | inl same ↦ here (subst (λ n. option_at new n ≡ Some s) same e) (some_or (option_at old keep))
      (some_or (option_at old by))
  | inr other ↦ hold k s (sym (is.others k other) ∙ e)
]
  where
    here : option_at new keep ≡ Some s → (option_at old keep ≡ None)
        ⊎ ((r : ClassRows) × (option_at old keep ≡ Some r)) → (option_at old by ≡ None)
        ⊎ ((r : ClassRows) × (option_at old by ≡ Some r)) → Holds s f
    here g (inl none) o = none_some s (option_at new keep) g (is.none none)
    here g (inr (a, at)) (inl none) = hold keep s (sym (is.same none) ∙ g)
    here g (inr (a, at)) (inr (b, there)) = (is.semi a b s at there g f).1
        (hold keep a at, (f, hold by b there, λ c m n. refl))

part_on : (a b c : ClassRows) → IsPart a b → IsPart b c → IsPart a c
part_on a b c p q =
    record {
      classes = q.classes ∙ p.classes;
      within = λ f h. p.within f (q.within f h);
      fewer =
          omega (arith, p.fewer, q.fewer);
    }

pub fixed_begins : (nodes : List (Option ClassRows)) → AreFixedFrom nodes nodes
fixed_begins nodes =
    record { many = refl; none = λ k e. e; some = λ k r e. (r, e, whole_part r); kept = λ f h. h }

pub fixed_goes_on : (given old new : List (Option ClassRows)) (keep by : ℕ) → AreFixedFrom given old
    → IsFixedBy old new keep by → AreFixedFrom given new
fixed_goes_on given old new keep by are is = record {
  many = is.many ∙ are.many;
  none = λ k e. none_step old new keep by k is (are.none k e);
  some = λ k r e.
      (let (s, at, part) = are.some k r e in let (t, there, more) = part_step old new keep by k s is at in
      (t, there, part_on r s t part more));
  kept = λ f h. hold_step old new keep by f is (are.kept f h);
}

-- ---- the pass to the root

remains_not : (j p : ℕ) → Remains (suc j) p → (i : ℕ) → 0 < i → i ≤ suc j → i ≢ p
remains_not j p (inl e) i some l = λ s. omega arith
remains_not j p (inr m) i some l = λ s. omega arith

pub up_step : (parents : List ℕ) (old new : List (Option ClassRows)) (j : ℕ)
    → IsFixedBy old new (slice_index parents (suc j)) (suc j) → Remains (suc j) (slice_index parents (suc j))
    → ((i : ℕ) → 0 < i → i ≤ j → IsUp parents old i) → (i : ℕ) → 0 < i → i ≤ suc j → IsUp parents new i
up_step parents old new j is remain up i some l a b ea eb = elim (same_or_not i (suc j)) [
  | inl e ↦ (subst (λ n. IsUp parents new n) (sym e) last a b ea eb)
  | inr n ↦ (let (o, eo, part) = part_of old new p (suc j) (slice_index parents i) a is ea in
      semi_part o b a part
      (up i some (omega (arith, n)) o b eo (sym (is.others i (remains_not j p remain i some l)) ∙ eb)))
]
  where
    p : ℕ
    p = slice_index parents (suc j)

    last : IsUp parents new (suc j)
    last a b ea eb =
        let (o, eo, part) = part_of old new p (suc j) p a is ea in
        semi_again o b a part.classes
        (is.semi o b a eo
        (sym (is.others (suc j) (remains_not j p remain (suc j) (omega arith) (omega arith))) ∙ eb) ea)

-- ---- the pass back

later_not : (i j p : ℕ) → Remains i p → suc j ≤ i → 0 < i → p ≢ suc j
later_not i j p (inl e) l some = λ s. omega arith
later_not i j p (inr m) l some = λ s. omega arith

pub down_up_step : (parents : List ℕ) (old new : List (Option ClassRows)) (j : ℕ)
    → IsFixedBy old new (suc j) (slice_index parents (suc j)) → Remains (suc j) (slice_index parents (suc j))
    → ((i : ℕ) → 0 < i → i < length parents → IsUp parents old i) → (i : ℕ) → 0 < i → i < length parents
    → IsUp parents new i
down_up_step parents old new j is remain up i some l a b ea eb = elim (same_or_not i (suc j)) [
  | inl e ↦ (subst (λ n. IsUp parents new n) (sym e) (last (subst (λ n. n < length parents) e l)) a b ea eb)
  | inr n ↦ (let (o, eo, part) = part_of old new (suc j) p (slice_index parents i) a is ea in
      semi_part o b a part (up i some l o b eo (sym (is.others i n) ∙ eb)))
]
  where
    p : ℕ
    p = slice_index parents (suc j)

    last : suc j < length parents → IsUp parents new (suc j)
    last m a b ea eb =
        let (o, eo, part) = part_of old new (suc j) p (suc j) b is eb in
        let at : option_at old p ≡ Some a =
        sym (is.others p (later_not (suc j) j p remain (omega arith) (omega arith))) ∙ ea in
        semi_back a o b part.classes (is.semi o a b eo at eb) (up (suc j) (omega arith) m a o at eo)

pub down_step : (parents : List ℕ) (old new : List (Option ClassRows)) (j : ℕ)
    → IsFixedBy old new (suc j) (slice_index parents (suc j))
    → ((i : ℕ) → 0 < i → i < length parents → Remains i (slice_index parents i)) → suc j < length parents
    → ((i : ℕ) → suc j < i → i < length parents → IsDown parents old i) → (i : ℕ) → j < i → i < length parents
    → IsDown parents new i
down_step parents old new j is remain m down i low l a b ea eb = elim (same_or_not i (suc j)) [
  | inl e ↦ (subst (λ n. IsDown parents new n) (sym e) last a b ea eb)
  | inr n ↦ down i (omega (arith, n)) l a b
      (sym (is.others (slice_index parents i)
      (later_not i j (slice_index parents i) (remain i (omega arith) l) (omega arith) (omega arith))) ∙ ea)
      (sym (is.others i n) ∙ eb)
]
  where
    p : ℕ
    p = slice_index parents (suc j)

    last : IsDown parents new (suc j)
    last a b ea eb =
        let (o, eo, part) = part_of old new (suc j) p (suc j) b is eb in
        let at : option_at old p ≡ Some a =
        sym (is.others p
        (later_not (suc j) j p (remain (suc j) (omega arith) m) (omega arith) (omega arith))) ∙ ea in
        semi_again o a b part.classes (is.semi o a b eo at eb)

-- ---- one call

pub pair_smaller : (nodes : List (Option ClassRows)) (keep by : ℕ) (kept : ClassRows) → keep < length nodes
    → IsPairReduction (option_at nodes keep) (option_at nodes by) (Some kept)
    → IsFixedBy nodes (set nodes keep (Some kept)) keep by
pair_smaller nodes keep by kept l is = made (some_or (option_at nodes keep)) (some_or (option_at nodes by))
  where
    here : option_at (set nodes keep (Some kept)) keep ≡ Some kept
    here = get_or-set_same nodes keep (Some kept) None l

    lost : {X : Type 0} → Some kept ≡ None → X
    lost e = none_some kept (Some kept) refl e

    made : (option_at nodes keep ≡ None) ⊎ ((r : ClassRows) × (option_at nodes keep ≡ Some r))
        → (option_at nodes by ≡ None) ⊎ ((r : ClassRows) × (option_at nodes by ≡ Some r))
        → IsFixedBy nodes (set nodes keep (Some kept)) keep by
    made (inl none) o = lost (subst (λ x. IsPairReduction x (option_at nodes by) (Some kept)) none is)
    made (inr (a, at)) (inl none) =
        lost (subst (λ x. IsPairReduction (Some a) x (Some kept)) none
        (subst (λ x. IsPairReduction x (option_at nodes by) (Some kept)) at is))
    made (inr (a, at)) (inr (b, there)) =
        let smaller : IsSmaller a b kept = subst (λ x. IsPairReduction (Some a) x (Some kept)) there
        (subst (λ x. IsPairReduction x (option_at nodes by) (Some kept)) at is) in
        record {
          many = length-set nodes keep (Some kept);
          others = λ k n. get_or-set_other nodes keep k (Some kept) None n;
          none = λ e. none_some a (option_at nodes keep) at e;
          some = λ r e. (
            kept,
            here,
            subst (λ x. IsPart x kept) (same_some a r (option_at nodes keep) at e)
                (record {
                  classes = smaller.classes;
                  within = λ f h. ((smaller.rows f).0 h).0;
                  fewer =
                      omega (arith, smaller.fewer);
                }),
          );
          semi = λ r s t er es et.
              subst (IsSemijoinOf r s)
              (same_some kept t (option_at (set nodes keep (Some kept)) keep) here et)
              (subst (λ x. IsSemijoinOf x s kept) (same_some a r (option_at nodes keep) at er)
              (subst (λ x. IsSemijoinOf a x kept) (same_some b s (option_at nodes by) there es)
              smaller.rows));
          same = λ e. none_some b (option_at nodes by) there e;
        }

pub pair_same : (nodes : List (Option ClassRows)) (keep by : ℕ)
    → IsPairReduction (option_at nodes keep) (option_at nodes by) None → IsFixedBy nodes nodes keep by
pair_same nodes keep by is = record {
  many = refl;
  others = λ k n. refl;
  none = λ e. e;
  some = λ r e. (r, e, whole_part r);
  semi = λ a b s ea eb es.
      subst (IsSemijoinOf a b) (same_some a s (option_at nodes keep) ea es)
      (subst (λ x. IsPairReduction (Some a) x None) eb
      (subst (λ x. IsPairReduction x (option_at nodes by) None) ea is));
  same = λ e. refl;
}

-- the same steps, at the numbers of the loops
pub up_step_at : (parents : List ℕ) (old new : List (Option ClassRows)) (j : ℕ)
    → IsFixedBy old new (slice_index parents (j + 1)) (j + 1) → Remains (j + 1) (slice_index parents (j + 1))
    → ((i : ℕ) → 0 < i → i ≤ j → IsUp parents old i) → (i : ℕ) → 0 < i → i ≤ j + 1 → IsUp parents new i
up_step_at parents old new j is remain up i some l =
    let e : j + 1 ≡ suc j = omega arith in
    up_step parents old new j (subst (λ n. IsFixedBy old new (slice_index parents n) n) e is)
    (subst (λ n. Remains n (slice_index parents n)) e remain) up i some (omega (arith, l))

pub down_up_at : (parents : List ℕ) (old new : List (Option ClassRows)) (j node : ℕ) → node ≡ j + 1
    → IsFixedBy old new node (slice_index parents node) → Remains node (slice_index parents node)
    → ((i : ℕ) → 0 < i → i < length parents → IsUp parents old i) → (i : ℕ) → 0 < i → i < length parents
    → IsUp parents new i
down_up_at parents old new j node n is remain up =
    let e : node ≡ suc j = omega (arith, n) in
    down_up_step parents old new j (subst (λ n. IsFixedBy old new n (slice_index parents n)) e is)
    (subst (λ n. Remains n (slice_index parents n)) e remain) up

pub down_at : (parents : List ℕ) (old new : List (Option ClassRows)) (j node : ℕ) → node ≡ j + 1
    → IsFixedBy old new node (slice_index parents node)
    → ((i : ℕ) → 0 < i → i < length parents → Remains i (slice_index parents i)) → node < length parents
    → ((i : ℕ) → node < i → i < length parents → IsDown parents old i) → (i : ℕ) → j < i → i < length parents
    → IsDown parents new i
down_at parents old new j node n is remain m down i low l =
    let e : node ≡ suc j = omega (arith, n) in
    down_step parents old new j (subst (λ n. IsFixedBy old new n (slice_index parents n)) e is) remain
    (omega (arith, m, n)) (λ k a b. down k (omega (arith, a, n)) b) i low l
