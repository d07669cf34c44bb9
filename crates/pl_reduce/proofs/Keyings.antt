-- The fixed relations of a recipe, keyed: what is lent of them.
use Rattle.std.proofs.Common.{◌≡◌, ◌⊎◌, ◌↔◌, ◌+◌, ◌<◌, ◌≤◌, ◌≢◌, ℕ, zero, suc, Bool, not, List, [], ◌∷◌, ◌++◌}
use Rattle.std.proofs.Common.{Option, None, Some, length, map, filter, get_or, slice_index, Contains, All}
use Rattle.std.proofs.Common.{refl, sym, ap, ◌∙◌, subst, inl, inr, arith}
use Rattle.std.proofs.lemmas.Bool.{cases_Bool}
use Rattle.std.proofs.lemmas.List.{length_push}
use Rattle.std.proofs.lemmas.Grind.{common_steps}
use Rattle.std.proofs.lemmas.List.Elements.{All-contains, All-get_or, Contains-append_left}
use Rattle.std.proofs.lemmas.List.Elements.{Contains-append_right, Contains-append_cases}
use Rattle.std.proofs.lemmas.List.Kept.{AllPairs-filter}
use Rattle.pl_hyper.specs.declared.ear.Ear.{Ear}
use Rattle.pl_hyper.specs.Ears.{Removal, IsWalkable, ear_at}
use Rattle.pl_hyper.specs.ClassOrder.{class_order, IsClass}
use Rattle.pl_join.specs.Relation.{ClassRows, Assignment, AreDistinct, Holds, has_class, without}
use Rattle.pl_join.specs.Keyed.{KeyedRows}
use Rattle.pl_join.proofs.Members.{Contains-filter, Contains-from_filter, has_class-Contains}
use Rattle.pl_reduce.specs.Recipes.{option_at, AreFixed}
use Rattle.pl_reduce.specs.Lent.{keyed_at, lent_of, IsTurned, AreLent}
use Rattle.pl_reduce.specs.Arranged.{AreArrangedBelow, key_width}
use Rattle.pl_reduce.specs.Fixing.{FixedHold, node_order, IsFixedFor, AreLentOf, AreFixedFrom, AreFixedPairs}
use Rattle.pl_reduce.specs.Fixing.{IsKeyedOf, AreKeyedOf, IsTurnedOf, AreTurnedOf}
use Rattle.pl_reduce.proofs.Lists.{all_members}
use Rattle.pl_reduce.proofs.Options.{lent_mapped, lent_within, some_within}
use Rattle.pl_reduce.proofs.Arrangements.{same_some, none_some}
use Rattle.pl_reduce.proofs.Beginnings.{some_or}
use Rattle.pl_reduce.proofs.Wholes.{bare, same_width}

same_or_less : (i n : ℕ) → i < n + 1 → (i < n) ⊎ (i ≡ n)
same_or_less i n l = grind arith

before : {X : Type 0} (xs : List X) (x d : X) (i : ℕ) → i < length xs
    → get_or (xs ++ x ∷ []) i d ≡ get_or xs i d
before xs x d i l = grind (arith, common_steps)

at_end : {X : Type 0} (xs : List X) (x d : X) (i : ℕ) → i ≡ length xs → get_or (xs ++ x ∷ []) i d ≡ x
at_end xs x d i e = grind (arith, common_steps)

-- ---- one after another

pub none_keyed : (plan : Removal) → AreKeyedOf plan [] []
none_keyed plan = record { many = refl; are = λ k l. absurd (omega arith) }

pub one_keyed : (plan : Removal) (nodes : List (Option ClassRows)) (lent : List (Option KeyedRows))
    (relation : Option ClassRows) (keyed : Option KeyedRows) → AreKeyedOf plan nodes lent
    → IsKeyedOf plan (length lent) relation keyed → AreKeyedOf plan (nodes ++ relation ∷ [])
    (lent ++ keyed ∷ [])
one_keyed plan nodes lent relation keyed are is = record {
  many = omega (arith, length_push lent keyed, length_push nodes relation, are.many);
  are = λ k l. at k (same_or_less k (length nodes) (omega (arith, l, length_push nodes relation)));
}
  where
    at : (k : ℕ) → (k < length nodes) ⊎ (k ≡ length nodes)
        → IsKeyedOf plan k (option_at (nodes ++ relation ∷ []) k) (keyed_at (lent ++ keyed ∷ []) k)
    at k (inl l) =
        subst (λ o. IsKeyedOf plan k o (keyed_at (lent ++ keyed ∷ []) k))
        (sym (before nodes relation None k l))
        (subst (λ o. IsKeyedOf plan k (option_at nodes k) o)
        (sym (before lent keyed None k (omega (arith, l, are.many)))) (are.are k l))
    at k (inr e) =
        subst (λ o. IsKeyedOf plan k o (keyed_at (lent ++ keyed ∷ []) k))
        (sym (at_end nodes relation None k e))
        (subst (λ o. IsKeyedOf plan k relation o)
        (sym (at_end lent keyed None k (omega (arith, e, are.many))))
        (subst (λ n. IsKeyedOf plan n relation keyed) (omega (arith, e, are.many)) is))

pub none_turned : (parents : List ℕ) (lent : List (Option KeyedRows)) → AreTurnedOf parents lent []
none_turned parents lent i l = absurd (omega arith)

pub one_turned : (parents : List ℕ) (lent turned : List (Option KeyedRows)) (keyed : Option KeyedRows)
    → AreTurnedOf parents lent turned → IsTurnedOf (keyed_at lent (slice_index parents (length turned))) keyed
    → AreTurnedOf parents lent (turned ++ keyed ∷ [])
one_turned parents lent turned keyed are is i l =
    at (same_or_less i (length turned) (omega (arith, l, length_push turned keyed)))
  where
    at : (i < length turned) ⊎ (i ≡ length turned) → IsTurnedOf (keyed_at lent (slice_index parents i))
        (keyed_at (turned ++ keyed ∷ []) i)
    at (inl low) = subst (IsTurnedOf (keyed_at lent (slice_index parents i)))
        (sym (before turned keyed None i low)) (are i low)
    at (inr e) = subst (IsTurnedOf (keyed_at lent (slice_index parents i)))
        (sym (at_end turned keyed None i e))
        (subst (λ n. IsTurnedOf (keyed_at lent (slice_index parents n)) keyed) (sym e) is)

-- ---- the key in front

pub kept_held : (p : ℕ → Bool) (classes : List ℕ) → All (Contains classes) (filter p classes)
kept_held p classes = all_members (Contains classes) (filter p classes)
    (λ c h. (Contains-from_filter p classes c h).0)

pub kept_distinct : (p : ℕ → Bool) (classes : List ℕ) → AreDistinct classes → AreDistinct (filter p classes)
kept_distinct p classes d = AllPairs-filter (λ a b. a ≢ b) p classes d

front_has : (classes key : List ℕ) (c : ℕ) → Contains classes c → Contains (key ++ without classes key) c
front_has classes key c h = elim (cases_Bool (has_class key c)) [
  | inl y ↦ Contains-append_left key (without classes key) c ((has_class-Contains key c).0 y)
  | inr n ↦ Contains-append_right key (without classes key) c
      (Contains-filter (λ k. not (has_class key k)) classes c h (ap not n))
]

front_within : (classes key : List ℕ) (c : ℕ) → All (Contains classes) key
    → Contains (key ++ without classes key) c → Contains classes c
front_within classes key c held h = elim (Contains-append_cases key (without classes key) c h) [
  | inl k ↦ All-contains (Contains classes) key c held k
  | inr r ↦ (Contains-from_filter (λ k. not (has_class key k)) classes c r).0
]

pub turned_made : (whole : KeyedRows) (relation : ClassRows) (key : List ℕ) (made : KeyedRows)
    → relation ≡ whole.relation → All (Contains relation.classes) key → made.relation.classes ≡ key
    ++ without relation.classes key → ((f : Assignment) → Holds made.relation f ↔ Holds relation f)
    → length made.relation.rows ≤ length relation.rows → IsTurned whole made
turned_made whole relation key made e held classes same most = subst (λ r. IsPartTurned r) e (record {
  same = same;
  classes = λ c. (
    λ h. front_within relation.classes key c held (subst (λ xs. Contains xs c) classes h),
    λ h. subst (λ xs. Contains xs c) (sym classes) (front_has relation.classes key c h),
  );
  fewer = most;
})
  where
    IsPartTurned : ClassRows → Type 0
    IsPartTurned r = IsTurned (record { relation = r; width = whole.width }) made

-- ---- the whole

keyed_or : (o : Option KeyedRows) → (o ≡ None) ⊎ ((q : KeyedRows) × (o ≡ Some q))
keyed_or None = inl refl
keyed_or (Some q) = inr (q, refl)

no_keyed : {X : Type 0} (q : KeyedRows) (o : Option KeyedRows) → o ≡ Some q → o ≡ None → X
no_keyed q o e f = absurd (not_none q (sym e ∙ f))
  where
    not_none : (q : KeyedRows) → Some q ≡ None → ⊥
    not_none q e = cc

same_keyed : (p q : KeyedRows) (o : Option KeyedRows) → o ≡ Some p → o ≡ Some q → p ≡ q
same_keyed p q o e f = some_is p q (sym e ∙ f)
  where
    some_is : (p q : KeyedRows) → Some p ≡ Some q → p ≡ q
    some_is p q e = cc

keyed_none : (plan : Removal) (nodes : List (Option ClassRows)) (lent : List (Option KeyedRows)) (k : ℕ)
    → AreKeyedOf plan nodes lent → option_at nodes k ≡ None → keyed_at lent k ≡ None
keyed_none plan nodes lent k are e = elim (keyed_or (keyed_at lent k)) [
  | inl none ↦ none
  | inr (q, at) ↦ (let l = lent_within lent k q at in subst (λ o. IsKeyedOf plan k o (keyed_at lent k)) e
      (are.are k (omega (arith, l, are.many))))
]

keyed_some : (plan : Removal) (nodes : List (Option ClassRows)) (lent : List (Option KeyedRows)) (k : ℕ)
    (r : ClassRows) → AreKeyedOf plan nodes lent → k < length nodes → option_at nodes k ≡ Some r
    → keyed_at lent k ≡ Some (record { relation = r; width = key_width plan k r.classes })
keyed_some plan nodes lent k r are l e = subst (λ o. IsKeyedOf plan k o (keyed_at lent k)) e (are.are k l)

-- ---- what a recipe lends

arranged_some : (order : List ℕ) (fixed arranged : List (Option ClassRows)) (k : ℕ) (r : ClassRows)
    → AreArrangedBelow order fixed arranged (length fixed) → k < length fixed → option_at fixed k ≡ Some r
    → (s : ClassRows) × (option_at arranged k ≡ Some s) × (s.classes ≡ node_order order k r.classes)
    × ((f : Assignment) → Holds s f ↔ Holds r f) × (length s.rows ≤ length r.rows)
arranged_some order fixed arranged zero r is l e = (r, is.root ∙ e, refl, λ f. (λ h. h, λ h. h), omega arith)
arranged_some order fixed arranged (suc i) r is l e =
    let (s, at, for) = is.some (suc i) r (omega arith) l e in
    (s, at, for.classes, for.same, for.fewer)

-- an assignment of the fixed relations is one of the arranged ones
arranged_hold : (order : List ℕ) (fixed arranged : List (Option ClassRows)) (f : Assignment)
    → AreArrangedBelow order fixed arranged (length fixed) → FixedHold fixed f → FixedHold arranged f
arranged_hold order fixed arranged f is hold k s e = elim (some_or (option_at fixed k)) [
  | inl none ↦ none_some s (option_at arranged k) e (is.none k none)
  | inr (r, at) ↦ (let (t, there, classes, same, fewer) = arranged_some order fixed arranged k r is
      (some_within fixed k r at) at in
      (subst (λ x. Holds x f) (same_some t s (option_at arranged k) there e) ((same f).1 (hold k r at))))
]

pub fixed_lent : (plan : Removal) (fixed arranged reduced : List (Option ClassRows))
    (lent : List (Option KeyedRows)) → AreArrangedBelow (class_order plan) fixed arranged (length fixed)
    → AreFixedFrom arranged reduced → AreKeyedOf (bare plan) reduced lent → AreLentOf plan fixed lent
fixed_lent plan fixed arranged reduced lent is are keyed = record {
  none = λ k e. keyed_none (bare plan) reduced lent k keyed (are.none k (is.none k e));
  some = λ k r e. some k r e;
  widths = λ k q e. widths k q e (some_or (option_at reduced k));
}
  where
    some : (k : ℕ) (r : ClassRows) → option_at fixed k ≡ Some r → (q : KeyedRows) × (keyed_at lent k ≡ Some q)
        × IsFixedFor (class_order plan) fixed k r q.relation
    some k r e =
        let l = some_within fixed k r e in
        let (s, at, classes, same, fewer) = arranged_some (class_order plan) fixed arranged k r is l e in
        let (t, there, part) = are.some k s at in (
          record { relation = t; width = key_width (bare plan) k t.classes },
          keyed_some (bare plan) reduced lent k t keyed (some_within reduced k t there) there,
          record {
            classes = part.classes ∙ classes;
            within = λ f h. (same f).0 (part.within f h);
            kept = λ f h. are.kept f (arranged_hold (class_order plan) fixed arranged f is h) k t there;
            fewer = omega (arith, part.fewer, fewer);
          },
        )

    widths : (k : ℕ) (q : KeyedRows) → keyed_at lent k ≡ Some q → (option_at reduced k ≡ None)
        ⊎ ((r : ClassRows) × (option_at reduced k ≡ Some r)) → q.width ≡ key_width plan k q.relation.classes
    widths k q e (inl none) = no_keyed q (keyed_at lent k) e
        (keyed_none (bare plan) reduced lent k keyed none)
    widths k q e (inr (t, there)) =
        let at = keyed_some (bare plan) reduced lent k t keyed (some_within reduced k t there) there in
        subst (λ (x : KeyedRows). x.width ≡ key_width plan k x.relation.classes)
        (same_keyed _ q (keyed_at lent k) at e) (same_width plan k t.classes)

-- what is lent is what was reduced
pub lent_same : (plan : Removal) (reduced : List (Option ClassRows)) (lent : List (Option KeyedRows)) (k : ℕ)
    → AreKeyedOf plan reduced lent → (option_at reduced k ≡ None)
    ⊎ ((r : ClassRows) × (option_at reduced k ≡ Some r))
    → option_at (map lent_of lent) k ≡ option_at reduced k
lent_same plan reduced lent k keyed (inl none) = lent_mapped lent k
    ∙ ap lent_of (keyed_none plan reduced lent k keyed none) ∙ sym none
lent_same plan reduced lent k keyed (inr (t, there)) = lent_mapped lent k
    ∙ ap lent_of (keyed_some plan reduced lent k t keyed (some_within reduced k t there) there) ∙ sym there

pub lent_pairs : (plan : Removal) (parents : List ℕ) (reduced : List (Option ClassRows))
    (lent : List (Option KeyedRows)) → AreKeyedOf plan reduced lent → AreFixedPairs parents reduced
    → AreFixedPairs parents (map lent_of lent)
lent_pairs plan parents reduced lent keyed pairs = record {
  up = λ i some l a b ea eb. pairs.up i some l a b (sym (same (slice_index parents i)) ∙ ea)
      (sym (same i) ∙ eb);
  down = λ i some l a b ea eb. pairs.down i some l a b (sym (same (slice_index parents i)) ∙ ea)
      (sym (same i) ∙ eb);
}
  where
    same : (k : ℕ) → option_at (map lent_of lent) k ≡ option_at reduced k
    same k = lent_same plan reduced lent k keyed (some_or (option_at reduced k))

pub are_lent : (parents : List ℕ) (lent turned : List (Option KeyedRows))
    → AreFixedPairs parents (map lent_of lent) → AreTurnedOf parents lent turned → AreLent parents lent turned
are_lent parents lent turned pairs are i some l = record {
  turned_is = λ q t eq et. subst (λ o. IsTurnedOf o (Some t)) eq (of t et);
  turned_of = λ t et. turned_of t et (keyed_or (keyed_at lent (slice_index parents i)));
  up = λ q k eq ek. pairs.up i some l q.relation k.relation
      (lent_mapped lent (slice_index parents i) ∙ ap lent_of eq) (lent_mapped lent i ∙ ap lent_of ek);
  down = λ q k eq ek. pairs.down i some l q.relation k.relation
      (lent_mapped lent (slice_index parents i) ∙ ap lent_of eq) (lent_mapped lent i ∙ ap lent_of ek);
}
  where
    of : (t : KeyedRows) → keyed_at turned i ≡ Some t
        → IsTurnedOf (keyed_at lent (slice_index parents i)) (Some t)
    of t et = subst (IsTurnedOf (keyed_at lent (slice_index parents i))) et
        (are i (lent_within turned i t et))

    turned_of : (t : KeyedRows) → keyed_at turned i ≡ Some t → (keyed_at lent (slice_index parents i) ≡ None)
        ⊎ ((q : KeyedRows) × (keyed_at lent (slice_index parents i) ≡ Some q)) → (q : KeyedRows)
        × (keyed_at lent (slice_index parents i) ≡ Some q)
    turned_of t et (inl none) = absurd (subst (λ o. IsTurnedOf o (Some t)) none (of t et))
    turned_of t et (inr found) = found

-- ---- the key of a lent parent

pub key_held : (p : ℕ → Bool) (slice items given classes : List ℕ) → slice ≡ items → items ≡ filter p given
    → given ≡ classes → All (Contains classes) slice
key_held p slice items given classes es ei eg = subst (All (Contains classes))
    (sym (es ∙ ei ∙ ap (filter p) eg)) (kept_held p classes)

pub key_distinct : (p : ℕ → Bool) (slice items given classes : List ℕ) → slice ≡ items
    → items ≡ filter p given → given ≡ classes → AreDistinct classes → AreDistinct slice
key_distinct p slice items given classes es ei eg d = subst AreDistinct (sym (es ∙ ei ∙ ap (filter p) eg))
    (kept_distinct p classes d)

pub turned_some : (o : Option KeyedRows) (whole made : KeyedRows) → o ≡ Some whole → IsTurned whole made
    → IsTurnedOf o (Some made)
turned_some o whole made e is = subst (λ x. IsTurnedOf x (Some made)) (sym e) is

-- ---- what the calls are asked

abbrev any_ear : Ear
any_ear = record { edge = 0; parent = 0 }

pub fixed_held : (plan : Removal) (fixed : List (Option ClassRows)) (order : List ℕ) (k : ℕ) (r : ClassRows)
    → IsWalkable plan → AreFixed plan fixed → ((c : ℕ) → Contains order c ↔ IsClass plan.edges c) → 0 < k
    → option_at fixed k ≡ Some r → All (Contains order) r.classes
fixed_held plan fixed order zero r walk are classes some e = absurd (omega arith)
fixed_held plan fixed order (suc i) r walk are classes some e =
    let l : i < length plan.removed = omega (arith, some_within fixed (suc i) r e, are.many) in
    let within : (ear_at plan i any_ear).edge < length plan.edges =
    All-get_or (λ (ear : Ear). ear.edge < length plan.edges) plan.removed i any_ear l
    walk.ears_are_edges in
    all_members (Contains order) r.classes
    (λ c h. (classes c).1 ((ear_at plan i any_ear).edge, within, (are.over.ears i c any_ear r l e).0 h))

pub parents_edges : (plan : Removal) (edges : List ℕ) (ears : List Ear) → edges ≡ plan.edges
    → ears ≡ plan.removed → IsWalkable plan → All (λ (ear : Ear). ear.parent < length edges) ears
parents_edges plan edges ears ee er walk = subst (λ xs. All (λ (ear : Ear). ear.parent < length edges) xs)
    (sym er) (subst (λ es. All (λ (ear : Ear). ear.parent < length es) plan.removed)
    (sym ee) walk.parents_are_edges)

pub lent_of_result : (plan : Removal) (edges : List ℕ) (ears : List Ear)
    (fixed arranged reduced : List (Option ClassRows)) (lent : List (Option KeyedRows)) → edges ≡ plan.edges
    → ears ≡ plan.removed → AreArrangedBelow (class_order plan) fixed arranged (length fixed)
    → AreFixedFrom arranged reduced → AreKeyedOf (record { edges = edges; removed = ears; core = [] }) reduced
    lent → AreLentOf plan fixed lent
lent_of_result plan edges ears fixed arranged reduced lent ee er is are keyed =
    fixed_lent plan fixed arranged reduced lent is are
    (subst (λ es. AreKeyedOf (record { edges = es; removed = plan.removed; core = [] }) reduced lent) ee
    (subst (λ xs. AreKeyedOf (record { edges = edges; removed = xs; core = [] }) reduced lent) er keyed))
