-- Sets of classes as the bits of a number: those of a list, and those that some edges hold.
use Rattle.std.proofs.Common.{◌≡◌, ◌⊎◌, ◌↔◌, ◌==◌, ◌+◌, ◌*◌, ◌%◌, ◌^◌, ◌<◌, ◌≤◌, ℕ, List, [], ◌∷◌, ◌++◌}
use Rattle.std.proofs.Common.{length, take, filter, get_or, Contains, sym, ap, ◌∙◌, subst, inl, inr, arith}
use Rattle.std.proofs.Common.{w64}
use Rattle.std.specs.Prelude.{bit_or, slice_index}
use Rattle.std.specs.Int.{bit_at}
use Rattle.std.proofs.lemmas.Bool.{cases_eq}
use Rattle.std.proofs.lemmas.Bool.Decides.{Decides-eqb}
use Rattle.std.proofs.lemmas.List.{take_more, take_all}
use Rattle.std.proofs.lemmas.List.Elements.{Contains-append_left, Contains-append_right, Contains-push_cases}
use Rattle.std.proofs.lemmas.Nat.Bits.{bit_at-lt, bit_at_set_same, bit_at_set_other, same_from_bits}
use Rattle.pl_rows.proofs.Canonical.{Contains-cons_first}
use Rattle.pl_hyper.specs.Edges.{Holds}
use Rattle.pl_hyper.specs.Ears.{Removal}
use Rattle.pl_hyper.specs.ClassOrder.{IsHeldBy, class_order}
use Rattle.pl_hyper.proofs.Bits.{or_bit}
use Rattle.pl_reduce.specs.Plan.{core_order}
use Rattle.pl_reduce.proofs.Columns.{core_kept}

-- ---- bits

-- a set with one class more
set_bit : (set class c : ℕ) → class < 64 → (bit_at (bit_or set (1 * 2 ^ class % 2 ^ 64)) c ≡ 1)
    ↔ ((bit_at set c ≡ 1) ⊎ (class ≡ c))
set_bit set class c low = (
  λ h. elim (cases_eq c class)
      [ inl e ↦ inr (sym e) | inr n ↦ inl (sym (bit_at_set_other w64 set class low c n) ∙ h) ],
  λ either. elim (cases_eq c class) [
    | inl e ↦ subst (λ i. bit_at (bit_or set (1 * 2 ^ class % 2 ^ 64)) i ≡ 1) (sym e)
        (bit_at_set_same w64 set class low)
    | inr n ↦ (elim either [
      | inl h ↦ bit_at_set_other w64 set class low c n
          ∙ h
      | inr e ↦ absurd (n (sym e))
    ])
  ],
)

same_bit : (x y : ℕ) → x < 2 → y < 2 → ((x ≡ 1) ↔ (y ≡ 1)) → x ≡ y
same_bit x y h k both = elim (cases_eq x 1) [
  | inl e ↦ e ∙ sym (both.0 e)
  | inr n ↦ (elim (cases_eq y 1) [ inl e ↦ absurd (n (both.1 e)) | inr m ↦ omega arith ])
]

-- two sets with the same classes are the same
same_set : (a b : ℕ) → ((c : ℕ) → (bit_at a c ≡ 1) ↔ (bit_at b c ≡ 1)) → a ≡ b
same_set a b same = same_from_bits a b
    (λ c. same_bit (bit_at a c) (bit_at b c) (bit_at-lt a c) (bit_at-lt b c) (same c))

-- ---- the classes of a list

-- the bits of the number are the classes of the list
abbrev pub IsSetOf : ℕ → List ℕ → Type 0
IsSetOf set classes = (c : ℕ) → (bit_at set c ≡ 1) ↔ Contains classes c

-- one class more, which the code shifts a bit to
pub set_more : (classes : List ℕ) (place set : ℕ) → place < length classes → get_or classes place 0 < 64
    → IsSetOf set (take place classes) → IsSetOf (bit_or set (1 * 2 ^ get_or classes place 0 % 2 ^ 64))
    (take (place + 1) classes)
set_more classes place set l low is c =
    subst (λ cs. (bit_at (bit_or set (1 * 2 ^ class % 2 ^ 64)) c ≡ 1) ↔ Contains cs c)
    (sym (take_more classes place 0 l)) both
  where
    class : ℕ
    class = get_or classes place 0

    both : (bit_at (bit_or set (1 * 2 ^ class % 2 ^ 64)) c ≡ 1)
        ↔ Contains (take place classes ++ class ∷ []) c
    both = (
      λ h. elim ((set_bit set class c low).0 h) [
        | inl m ↦ Contains-append_left (take place classes) (class ∷ []) c ((is c).0 m)
        | inr e ↦ Contains-append_right (take place classes) (class ∷ []) c
            (subst (Contains (class ∷ [])) e (Contains-cons_first class []))
      ],
      λ h. (set_bit set class c low).1 (elim (Contains-push_cases (take place classes) class c h) [
        | inl m ↦ inl ((is c).1 m)
        | inr e ↦ inr e
      ]),
    )

pub set_all : (classes : List ℕ) (place set : ℕ) → length classes ≤ place → IsSetOf set (take place classes)
    → IsSetOf set classes
set_all classes place set l is = subst (IsSetOf set) (take_all place classes l) is

-- a list has the classes of an edge exactly where its set is the edge
pub set_is_edge : (classes : List ℕ) (set edge : ℕ) → IsSetOf set classes → (set ≡ edge)
    ↔ ((c : ℕ) → Contains classes c ↔ (bit_at edge c ≡ 1))
set_is_edge classes set edge is = (
  λ e c. (
    λ h. subst (λ n. bit_at n c ≡ 1) e ((is c).1 h),
    λ h. (is c).0
        (subst (λ n. bit_at n c ≡ 1) (sym e) h),
  ),
  λ same. same_set set edge (λ c. (λ h. (same c).0 ((is c).0 h), λ h. (is c).1 ((same c).1 h))),
)

-- ---- the classes that some edges hold

-- the bits of the number are the classes that one of these edges holds
abbrev pub IsUnionOf : List ℕ → ℕ → List ℕ → Type 0
IsUnionOf edges set some = (c : ℕ) → (bit_at set c ≡ 1) ↔ IsHeldBy edges some c

-- one edge more
pub union_more : (edges some : List ℕ) (place set : ℕ) → place < length some
    → IsUnionOf edges set (take place some)
    → IsUnionOf edges (bit_or set (slice_index edges (get_or some place 0))) (take (place + 1) some)
union_more edges some place set l is c =
    subst (λ es. (bit_at (bit_or set (slice_index edges edge)) c ≡ 1) ↔ IsHeldBy edges es c)
    (sym (take_more some place 0 l)) both
  where
    edge : ℕ
    edge = get_or some place 0

    within : Holds edges edge c → IsHeldBy edges (take place some ++ edge ∷ []) c
    within h = (
      edge,
      Contains-append_right (take place some) (edge ∷ []) edge (Contains-cons_first edge []),
      h,
    )

    before : IsHeldBy edges (take place some) c → IsHeldBy edges (take place some ++ edge ∷ []) c
    before (e, there, h) = (e, Contains-append_left (take place some) (edge ∷ []) e there, h)

    parts : IsHeldBy edges (take place some ++ edge ∷ []) c → (bit_at set c ≡ 1) ⊎ Holds edges edge c
    parts (e, there, h) = elim (Contains-push_cases (take place some) edge e there) [
      | inl m ↦ inl ((is c).1 (e, m, h))
      | inr same ↦ inr (subst (λ x. Holds edges x c) (sym same) h)
    ]

    both : (bit_at (bit_or set (slice_index edges edge)) c ≡ 1)
        ↔ IsHeldBy edges (take place some ++ edge ∷ []) c
    both = (
      λ h. elim ((or_bit set (slice_index edges edge) c).0 h)
          [ inl m ↦ before ((is c).0 m) | inr m ↦ within m ],
      λ h. (or_bit set (slice_index edges edge) c).1 (parts h),
    )

pub union_all : (edges some : List ℕ) (place set : ℕ) → length some ≤ place
    → IsUnionOf edges set (take place some) → IsUnionOf edges set some
union_all edges some place set l is = subst (IsUnionOf edges set) (take_all place some l) is

-- ---- the core

-- the class order without the classes that the core's set lacks
pub core_of_set : (plan : Removal) (order edges core : List ℕ) (set : ℕ) → order ≡ class_order plan
    → edges ≡ plan.edges → core ≡ plan.core → IsUnionOf edges set core
    → filter (λ c. bit_at set c == 1) order ≡ core_order plan
core_of_set plan order edges core set o e k is =
    ap (filter (λ c. bit_at set c == 1)) o
    ∙ core_kept plan (λ c. bit_at set c == 1)
    (λ c. (λ h. (there c).0 ((Decides-eqb _ 1).0 h), λ h. (Decides-eqb _ 1).1 ((there c).1 h)))
  where
    there : IsUnionOf plan.edges set plan.core
    there = rw (← e, ← k) is
