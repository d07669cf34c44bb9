-- The two passes of the full reducer: what a semijoin with a child or a parent keeps, and what it brings.
use Rattle.std.proofs.Common.{◌≡◌, ◌≢◌, ◌⊎◌, ◌+◌, ◌<◌, ◌≤◌, ℕ, zero, suc, List, length, slice_index, get_or}
use Rattle.std.proofs.Common.{set, Contains, refl, sym, ap, ◌∙◌, subst, inl, inr, arith}
use Rattle.std.proofs.lemmas.List.{get_or_default, get_or-set_same, get_or-set_other, length-set}
use Rattle.pl_join.specs.Relation.{ClassRows, Assignment, Holds, HoldsAll, Agree, IsSemijoinOf}
use Rattle.pl_join.proofs.Assignments.{map_agree}
use Rattle.pl_reduce.specs.Plan.{relation_at}
use Rattle.pl_reduce.specs.Passes.{Remains, AreParents, RemainingExtend, IsExtended, AreReduced, IsPassedUp}
use Rattle.pl_reduce.specs.Passes.{IsPassedDown, IsReducedBy}
use Rattle.pl_reduce.proofs.Walks.{glued, glued_there, glued_elsewhere}
use Rattle.pl_hyper.proofs.Members.{same_or_not}

-- an assignment is held with another that agrees on the classes
held_along : (relation : ClassRows) (f g : Assignment) → Agree relation.classes f g → Holds relation f
    → Holds relation g
held_along relation f g same h = subst (Contains relation.rows) (map_agree relation.classes f g same) h

each_given : (given : List ClassRows) (f : Assignment) (k : ℕ) → k < length given → HoldsAll given f
    → Holds (relation_at given k) f
each_given given f k l all = all k _ l

-- at the start nothing is reduced, and all nodes remain
pub none_reduced : (given : List ClassRows) → AreReduced given given
none_reduced given = record {
  many = refl;
  classes = λ k. refl;
  kept = λ f k l all. each_given given f k l all;
  within = λ f k l h. h;
  fewer = λ k. omega arith;
}

pub all_extend : (given nodes : List ClassRows) → AreReduced given nodes → RemainingExtend given nodes 0
all_extend given nodes is f held = (
  f,
  λ k d l. subst (λ relation. Holds relation f) (default k d l)
      (is.within f k l (held k (many k l) (all k))),
  λ k l r c m. refl,
)
  where
    many : (k : ℕ) → k < length given → k < length nodes
    many k l = let e = is.many in omega arith

    all : (k : ℕ) → Remains 0 k
    all zero = inl refl
    all (suc k) = inr (omega arith)

    default : (k : ℕ) (d : ClassRows) → k < length given → relation_at given k ≡ get_or given k d
    default k d l = get_or_default given k _ d l

-- what a relation that became smaller holds, it held before
was_held : (old new : List ClassRows) (keep by k : ℕ) (f : Assignment) → IsReducedBy old new keep by
    → Holds (relation_at new k) f → Holds (relation_at old k) f
was_held old new keep by k f r h = elim (same_or_not k keep) [
  | inl e ↦ subst (λ i. Holds (relation_at old i) f) (sym e)
      (((r.rows f).0 (subst (λ i. Holds (relation_at new i) f) e h)).0)
  | inr n ↦ subst (λ relation. Holds relation f) (r.others k n) h
]

same_classes : (old new : List ClassRows) (keep by k : ℕ) → IsReducedBy old new keep by
    → (relation_at new k).classes ≡ (relation_at old k).classes
same_classes old new keep by k r = elim (same_or_not k keep) [
  | inl e ↦ subst (λ i. (relation_at new i).classes ≡ (relation_at old i).classes) (sym e) r.classes
  | inr n ↦ ap (λ (relation : ClassRows). relation.classes) (r.others k n)
]

no_more_rows : (old new : List ClassRows) (keep by k : ℕ) → IsReducedBy old new keep by
    → length (relation_at new k).rows ≤ length (relation_at old k).rows
no_more_rows old new keep by k r = elim (same_or_not k keep) [
  | inl e ↦ subst (λ i. length (relation_at new i).rows ≤ length (relation_at old i).rows) (sym e) r.fewer
  | inr n ↦ (let same = ap (λ (relation : ClassRows). length relation.rows) (r.others k n) in
      omega (arith, same))
]

still_kept : (given old new : List ClassRows) (keep by k : ℕ) (f : Assignment) → AreReduced given old
    → IsReducedBy old new keep by → keep < length given → by < length given → k < length given
    → HoldsAll given f → Holds (relation_at new k) f
still_kept given old new keep by k f is r lk lb l all = elim (same_or_not k keep) [
  | inl e ↦ subst (λ i. Holds (relation_at new i) f) (sym e)
      ((r.rows f).1 (is.kept f keep lk all, (f, is.kept f by lb all, λ c m n. refl)))
  | inr n ↦ subst (λ relation. Holds relation f) (sym (r.others k n)) (is.kept f k l all)
]

pub still_reduced : (given old new : List ClassRows) (keep by : ℕ) → AreReduced given old
    → IsReducedBy old new keep by → keep < length given → by < length given → AreReduced given new
still_reduced given old new keep by is r lk lb = record {
  many = r.many ∙ is.many;
  classes = λ k. same_classes old new keep by k r ∙ is.classes k;
  kept = λ f k l all. still_kept given old new keep by k f is r lk lb l all;
  within = λ f k l h. is.within f k l (was_held old new keep by k f r h);
  fewer = λ k. (let a = no_more_rows old new keep by k r in let b = is.fewer k in omega (arith, a, b));
}

pub still_extend : (given old new : List ClassRows) (keep by i : ℕ) → IsReducedBy old new keep by
    → RemainingExtend given old i → RemainingExtend given new i
still_extend given old new keep by i r extend f held =
    let (g, all, agree) =
    extend f (λ k l m. was_held old new keep by k f r (held k (let e = r.many in omega (arith, e)) m)) in (
      g,
      all,
      λ k l m c h. agree k (let e = r.many in omega (arith, e)) m c
          (subst (λ classes. Contains classes c) (same_classes old new keep by k r) h),
    )

-- a node that remains when one before it was removed is that one, or remains still
remains_or : (j k : ℕ) → Remains j k → (k ≡ suc j) ⊎ Remains (suc j) k
remains_or j k (inl e) = inr (inl e)
remains_or j k (inr l) = elim (same_or_not k (suc j)) [
  | inl e ↦ inl e
  | inr n ↦ inr (inr (omega arith))
]

remained : (j k : ℕ) → Remains (suc j) k → Remains j k
remained j k (inl e) = inl e
remained j k (inr l) = inr (omega arith)

-- the shared classes are the parent's
parent_has : (given nodes : List ClassRows) (parents : List ℕ) (i k c : ℕ) → AreReduced given nodes
    → AreParents parents given → 0 < i → i < length given → k < length given → Remains i k
    → Contains (relation_at nodes i).classes c → Contains (relation_at nodes k).classes c
    → Contains (relation_at nodes (slice_index parents i)).classes c
parent_has given nodes parents i k c is are some l lk m h there =
    subst (λ classes. Contains classes c) (sym (is.classes (slice_index parents i)))
    (are.share i k c some l lk m (subst (λ classes. Contains classes c) (is.classes i) h)
    (subst (λ classes. Contains classes c) (is.classes k) there))

-- after the parent was reduced by a node, the others extend without the node
pub one_up : (given old new : List ClassRows) (parents : List ℕ) (j : ℕ) → AreParents parents given
    → AreReduced given old → IsReducedBy old new (slice_index parents (suc j)) (suc j) → suc j < length given
    → RemainingExtend given old j → RemainingExtend given new (suc j)
one_up given old new parents j are is r l extend f held =
    let p : ℕ = slice_index parents (suc j) in
    let (was, (h, there, agree)) = (r.rows f).0
    (held p (let e = r.many ∙ is.many in let w = are.within (suc j) (omega arith) l in
    omega (arith, e, w)) (are.remain (suc j) (omega arith) l)) in
    let both : Assignment = glued (relation_at old (suc j)).classes h f in
    let same : (k : ℕ) → k < length given → Remains (suc j) k → Agree (relation_at old k).classes f both =
    λ k lk m c at. sym (glued_elsewhere (relation_at old (suc j)).classes h f c (λ shared.
    sym (agree c (parent_has given old parents (suc j) k c is are (omega arith) l lk m shared at) shared))) in
    let (g, all, alike) = extend both
    (λ k lk m. one_held k (let e = is.many in omega (arith, e)) (remains_or j k m) h both there
    (λ c at. sym (glued_there (relation_at old (suc j)).classes h f c at)) same) in (
      g,
      all,
      λ k lk m c at.
          (let held_there : Contains (relation_at old k).classes c = subst (λ classes. Contains classes c)
          (same_classes old new p (suc j) k r) at in
          same k (let e = r.many ∙ is.many in omega (arith, e)) m c held_there
          ∙ alike k (let e = r.many in omega (arith, e)) (remained j k m) c held_there),
    )
  where
    one_held : (k : ℕ) → k < length given → (k ≡ suc j) ⊎ Remains (suc j) k → (h both : Assignment)
        → Holds (relation_at old (suc j)) h → Agree (relation_at old (suc j)).classes h both
        → ((k : ℕ) → k < length given → Remains (suc j) k → Agree (relation_at old k).classes f both)
        → Holds (relation_at old k) both
    one_held k lk (inl e) h both there a same = subst (λ i. Holds (relation_at old i) both) (sym e)
        (held_along (relation_at old (suc j)) h both a there)
    one_held k lk (inr m) h both there a same =
        held_along (relation_at old k) f both (same k lk m)
        (was_held old new (slice_index parents (suc j)) (suc j) k f r
        (held k (let e = r.many ∙ is.many in omega (arith, e)) m))

-- a node that was reduced by its parent, which is a projection of the join, is one itself
pub one_down : (given old new : List ClassRows) (parents : List ℕ) (j : ℕ) → AreParents parents given
    → AreReduced given old → IsReducedBy old new (suc j) (slice_index parents (suc j)) → suc j < length given
    → RemainingExtend given old j → IsExtended given (relation_at old (slice_index parents (suc j)))
    → IsExtended given (relation_at new (suc j))
one_down given old new parents j are is r l extend exact f held =
    let p : ℕ = slice_index parents (suc j) in
    let (was, (h, there, agree)) = (r.rows f).0 held in
    let (g0, all0, like) = exact h there in
    let both : Assignment = glued (relation_at old (suc j)).classes f g0 in
    let same : (k : ℕ) → k < length given → Remains (suc j) k → Agree (relation_at old k).classes g0 both =
    λ k lk m c at. sym (glued_elsewhere (relation_at old (suc j)).classes f g0 c (λ shared.
    (let parent = parent_has given old parents (suc j) k c is are (omega arith) l lk m shared at in
    agree c shared parent ∙ like c parent))) in
    let here : Agree (relation_at old (suc j)).classes f both = λ c at.
    sym (glued_there (relation_at old (suc j)).classes f g0 c at) in
    let (g, all, alike) = extend both
    (λ k lk m. one_held k (let e = is.many in omega (arith, e))
    (remains_or j k m) g0 both all0 was here same) in (
      g,
      all,
      λ c at.
          (let held_there : Contains (relation_at old (suc j)).classes c =
          subst (λ classes. Contains classes c) r.classes at in
          here c held_there ∙ alike (suc j) (let e = is.many in omega (arith, e))
          (inr (omega arith)) c held_there),
    )
  where
    one_held : (k : ℕ) → k < length given → (k ≡ suc j) ⊎ Remains (suc j) k → (g0 both : Assignment)
        → HoldsAll given g0 → Holds (relation_at old (suc j)) f
        → Agree (relation_at old (suc j)).classes f both
        → ((k : ℕ) → k < length given → Remains (suc j) k → Agree (relation_at old k).classes g0 both)
        → Holds (relation_at old k) both
    one_held k lk (inl e) g0 both all0 was here same = subst (λ i. Holds (relation_at old i) both) (sym e)
        (held_along (relation_at old (suc j)) f both here was)
    one_held k lk (inr m) g0 both all0 was here same = held_along (relation_at old k) g0 both (same k lk m)
        (is.kept g0 k lk all0)

-- ---- the pass to the root

pub up_begins : (given : List ClassRows) → IsPassedUp given given 0
up_begins given = record {
  reduced = none_reduced given;
  extend = λ i l.
      (let e : i ≡ 0 = omega arith in subst (RemainingExtend given given) (sym e)
      (all_extend given given (none_reduced given)));
}

pub up_goes_on : (given old new : List ClassRows) (parents : List ℕ) (j : ℕ) → AreParents parents given
    → IsPassedUp given old j → IsReducedBy old new (slice_index parents (suc j)) (suc j)
    → suc j < length given → IsPassedUp given new (suc j)
up_goes_on given old new parents j are is r l = record {
  reduced = still_reduced given old new (slice_index parents (suc j)) (suc j) is.reduced r
      (are.within (suc j) (omega arith) l) l;
  extend = λ i m. last_or i m (same_or_not i (suc j));
}
  where
    last_or : (i : ℕ) → i ≤ suc j → (i ≡ suc j) ⊎ (i ≢ suc j) → RemainingExtend given new i
    last_or i m (inl e) = subst (RemainingExtend given new) (sym e)
        (one_up given old new parents j are is.reduced r l (is.extend j (omega arith)))
    last_or i m (inr n) = still_extend given old new (slice_index parents (suc j)) (suc j) i r
        (is.extend i (omega arith))

-- ---- the pass back

-- where all but the root were removed, the root is a projection of the join
root_exact : (given nodes : List ClassRows) (last : ℕ) → AreReduced given nodes → length given ≡ suc last
    → RemainingExtend given nodes last → IsExtended given (relation_at nodes 0)
root_exact given nodes last is many extend f h =
    let (g, all, alike) =
    extend f (λ k l m. subst (λ i. Holds (relation_at nodes i) f) (sym (only k l m)) h) in
    (g, all, alike 0 (let e = is.many in omega (arith, e, many)) (inl refl))
  where
    only : (k : ℕ) → k < length nodes → Remains last k → k ≡ 0
    only k l (inl e) = e
    only k l (inr m) = absurd (let e = is.many in omega (arith, e, many))

pub down_begins : (given nodes : List ClassRows) (last : ℕ) → length given ≡ suc last
    → IsPassedUp given nodes last → IsPassedDown given nodes last
down_begins given nodes last many is = record {
  reduced = is.reduced;
  extend = λ i l. is.extend i (omega (arith, many));
  exact = λ k l m. subst (λ i. IsExtended given (relation_at nodes i)) (sym (only k l m))
      (root_exact given nodes last is.reduced many (is.extend last (omega arith)));
}
  where
    only : (k : ℕ) → k < length given → Remains last k → k ≡ 0
    only k l (inl e) = e
    only k l (inr m) = absurd (omega (arith, many))

pub down_goes_on : (given old new : List ClassRows) (parents : List ℕ) (j : ℕ) → AreParents parents given
    → IsPassedDown given old (suc j) → IsReducedBy old new (suc j) (slice_index parents (suc j))
    → suc j < length given → IsPassedDown given new j
down_goes_on given old new parents j are is r l = record {
  reduced = still_reduced given old new (suc j) (slice_index parents (suc j)) is.reduced r l
      (are.within (suc j) (omega arith) l);
  extend = λ i m. still_extend given old new (suc j) (slice_index parents (suc j)) i r (is.extend i m);
  exact = λ k lk m. this_or k lk (same_or_not k (suc j)) (remains_or j k m);
}
  where
    here : IsExtended given (relation_at new (suc j))
    here = one_down given old new parents j are is.reduced r l (is.extend j (omega arith))
        (is.exact (slice_index parents (suc j)) (are.within (suc j) (omega arith) l)
        (are.remain (suc j) (omega arith) l))

    this_or : (k : ℕ) → k < length given → (k ≡ suc j) ⊎ (k ≢ suc j) → (k ≡ suc j) ⊎ Remains (suc j) k
        → IsExtended given (relation_at new k)
    this_or k lk (inl e) m = subst (λ i. IsExtended given (relation_at new i)) (sym e) here
    this_or k lk (inr n) (inl e) = absurd (n e)
    this_or k lk (inr n) (inr m) = subst (IsExtended given) (sym (r.others k n)) (is.exact k lk m)

-- ---- one relation of the nodes

pub set_reduced : (nodes : List ClassRows) (keep by : ℕ) (kept this other : ClassRows) → keep < length nodes
    → by < length nodes → this ≡ get_or nodes keep this → other ≡ get_or nodes by other
    → kept.classes ≡ this.classes → IsSemijoinOf this other kept → length kept.rows < length this.rows
    → IsReducedBy nodes (set nodes keep kept) keep by
set_reduced nodes keep by kept this other lk lb et eo classes semi fewer = record {
  many = length-set nodes keep kept;
  others = λ k n. get_or-set_other nodes keep k kept _ n;
  classes = ap (λ (r : ClassRows). r.classes) here ∙ classes ∙ ap (λ (r : ClassRows). r.classes) was;
  rows = subst (λ r. IsSemijoinOf (relation_at nodes keep) (relation_at nodes by) r) (sym here)
      (subst (λ r. IsSemijoinOf (relation_at nodes keep) r kept) by_was
      (subst (λ r. IsSemijoinOf r other kept) was semi));
  fewer = omega (
    arith,
    ap (λ (r : ClassRows). length r.rows) here,
    ap (λ (r : ClassRows). length r.rows) was,
    fewer,
  );
}
  where
    here : relation_at (set nodes keep kept) keep ≡ kept
    here = get_or-set_same nodes keep kept _ lk

    was : this ≡ relation_at nodes keep
    was = et ∙ get_or_default nodes keep this _ lk

    by_was : other ≡ relation_at nodes by
    by_was = eo ∙ get_or_default nodes by other _ lb

pub left_reduced : (nodes : List ClassRows) (keep by : ℕ) (this other : ClassRows) → keep < length nodes
    → by < length nodes → this ≡ get_or nodes keep this → other ≡ get_or nodes by other
    → IsSemijoinOf this other this → IsReducedBy nodes nodes keep by
left_reduced nodes keep by this other lk lb et eo semi = record {
  many = refl;
  others = λ k n. refl;
  classes = refl;
  rows = subst (λ r. IsSemijoinOf r (relation_at nodes by) r) (et ∙ get_or_default nodes keep this _ lk)
      (subst (λ r. IsSemijoinOf this r this) (eo ∙ get_or_default nodes by other _ lb) semi);
  fewer = omega arith;
}

-- the same steps, at the numbers of the loops
pub up_at : (given old new : List ClassRows) (parents : List ℕ) (j : ℕ) → AreParents parents given
    → j + 1 < length given → IsPassedUp given old j → IsReducedBy old new (slice_index parents (j + 1))
    (j + 1) → IsPassedUp given new (j + 1)
up_at given old new parents j are l is r =
    let e : j + 1 ≡ suc j = omega arith in
    rw e (up_goes_on given old new parents j are is
    (subst (λ n. IsReducedBy old new (slice_index parents n) n) e r) (omega arith))

pub down_at : (given old new : List ClassRows) (parents : List ℕ) (j node : ℕ) → node ≡ j + 1
    → AreParents parents given → node < length given → IsPassedDown given old node
    → IsReducedBy old new node (slice_index parents node) → IsPassedDown given new j
down_at given old new parents j node n are l is r =
    let e : node ≡ suc j = omega (arith, n) in
    down_goes_on given old new parents j are (subst (IsPassedDown given old) e is)
    (subst (λ k. IsReducedBy old new k (slice_index parents k)) e r) (omega (arith, e))
