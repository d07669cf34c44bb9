-- The search for the next ear: the classes that are shared, the parents of an edge, and where no ear stands.
use Rattle.std.proofs.Common.{◌≡◌, ◌≢◌, ℕ, ◌+◌, ◌<◌, ◌≤◌, ◌⊎◌, ◌↔◌, List, length, get_or, sym, ap, ◌∙◌, subst}
use Rattle.std.proofs.Common.{inl, inr, arith, refl}
use Rattle.std.specs.Prelude.{bit_and, bit_or, slice_index}
use Rattle.std.specs.Int.{bit_at}
use Rattle.std.specs.List.{Contains, AllPairs}
use Rattle.std.proofs.lemmas.List.{get_or_default}
use Rattle.std.proofs.lemmas.List.Elements.{Contains-get_or}
use Rattle.pl_hyper.specs.Edges.{Holds}
use Rattle.pl_hyper.specs.Ears.{IsEar, without}
use Rattle.pl_hyper.specs.Search.{IsShared, AreShared, IsParent, IsFirstParent, IsEarAt}
use Rattle.pl_hyper.specs.Holders.{AreSharedBut}
use Rattle.pl_hyper.proofs.Members.{same_or_not, within_without, without_contains}
use Rattle.pl_hyper.proofs.Bits.{and_bit, or_bit, no_bit}

either : {A B C D : Type 0} → (A → C) → (B → D) → A ⊎ B → C ⊎ D
either f g (inl a) = inl (f a)
either f g (inr b) = inr (g b)

in_order : (a b : ℕ) → (a < b) ⊎ ((a ≡ b) ⊎ (b < a))
in_order a b = grind arith

-- ---- the classes that the first edges hold, and those that two of them hold

pub record Seen (edges remaining : List ℕ) (n class : ℕ) : Type 0 where
  pub place : ℕ
  pub before : place < n
  pub holds : Holds edges (get_or remaining place 0) class

pub record SeenTwice (edges remaining : List ℕ) (n class : ℕ) : Type 0 where
  pub place : ℕ
  pub later : ℕ
  pub in_order : place < later
  pub before : later < n
  pub holds : Holds edges (get_or remaining place 0) class
  pub later_holds : Holds edges (get_or remaining later 0) class

pub record AreSeen (edges remaining : List ℕ) (n once twice : ℕ) : Type 0 where
  pub once_is : (class : ℕ) → (bit_at once class ≡ 1) ↔ Seen edges remaining n class
  pub twice_is : (class : ℕ) → (bit_at twice class ≡ 1) ↔ SeenTwice edges remaining n class

pub seen_none : (edges remaining : List ℕ) → AreSeen edges remaining 0 0 0
seen_none edges remaining = record {
  once_is = λ c. (λ h. absurd (no_bit c h), λ s. absurd (omega (arith, s.before)));
  twice_is = λ c. (λ h. absurd (no_bit c h), λ s. absurd (omega (arith, s.before)));
}

seen_more_once : (edges remaining : List ℕ) (n class : ℕ) → Seen edges remaining n class ⊎
    Holds edges (get_or remaining n 0) class → Seen edges remaining (n + 1) class
seen_more_once edges remaining n class (inl s) = let low = s.before in
    record { place = s.place; before = omega arith; holds = s.holds }
seen_more_once edges remaining n class (inr h) = record { place = n; before = omega arith; holds = h }

seen_less_once : (edges remaining : List ℕ) (n class : ℕ) → (s : Seen edges remaining (n + 1) class) →
    (s.place ≡ n) ⊎ (s.place ≢ n) → Seen edges remaining n class ⊎ Holds edges (get_or remaining n 0) class
seen_less_once edges remaining n class s (inl e) =
    inr (subst (λ k. Holds edges (get_or remaining k 0) class) e s.holds)
seen_less_once edges remaining n class s (inr d) = let low = s.before in
    inl (record { place = s.place; before = omega arith; holds = s.holds })

seen_more_twice : (edges remaining : List ℕ) (n class : ℕ) → SeenTwice edges remaining n class ⊎
    (Seen edges remaining n class × Holds edges (get_or remaining n 0) class) →
    SeenTwice edges remaining (n + 1) class
seen_more_twice edges remaining n class (inl s) =
    let low = s.before in
    record {
      place = s.place;
      later = s.later;
      in_order = s.in_order;
      before = omega arith;
      holds = s.holds;
      later_holds = s.later_holds;
    }
seen_more_twice edges remaining n class (inr (s, h)) =
    record {
      place = s.place;
      later = n;
      in_order = s.before;
      before = omega arith;
      holds = s.holds;
      later_holds = h;
    }

seen_less_twice : (edges remaining : List ℕ) (n class : ℕ) → (s : SeenTwice edges remaining (n + 1) class) →
    (s.later ≡ n) ⊎ (s.later ≢ n) → SeenTwice edges remaining n class ⊎
    (Seen edges remaining n class × Holds edges (get_or remaining n 0) class)
seen_less_twice edges remaining n class s (inl e) =
    let low = s.in_order in
    inr (
      record { place = s.place; before = omega arith; holds = s.holds },
      subst (λ k. Holds edges (get_or remaining k 0) class) e s.later_holds,
    )
seen_less_twice edges remaining n class s (inr d) =
    let low = s.before in
    inl (record {
      place = s.place;
      later = s.later;
      in_order = s.in_order;
      before = omega arith;
      holds = s.holds;
      later_holds = s.later_holds;
    })

-- one edge more, whose classes are given
pub seen_more : (edges remaining : List ℕ) (n once twice classes : ℕ) → AreSeen edges remaining n once twice →
    classes ≡ slice_index edges (get_or remaining n 0) →
    AreSeen edges remaining (n + 1) (bit_or once classes) (bit_or twice (bit_and once classes))
seen_more edges remaining n once twice classes a e = record {
  once_is = λ c. (
    λ h. seen_more_once edges remaining n c
        (either (λ k. (a.once_is c).0 k) (λ k. subst (λ x. bit_at x c ≡ 1) e k)
        ((or_bit once classes c).0 h)),
    λ s. (or_bit once classes c).1 (either (λ k. (a.once_is c).1 k)
        (λ k. subst (λ x. bit_at x c ≡ 1) (sym e) k)
        (seen_less_once edges remaining n c s (same_or_not s.place n))),
  );
  twice_is = λ c. (
    λ h. seen_more_twice edges remaining n c
        (either (λ k. (a.twice_is c).0 k) (λ k. let both = (and_bit once classes c).0 k in
        ((a.once_is c).0 both.0, subst (λ x. bit_at x c ≡ 1) e both.1))
        ((or_bit twice (bit_and once classes) c).0 h)),
    λ s. (or_bit twice (bit_and once classes) c).1
        (either (λ k. (a.twice_is c).1 k) (λ k. (and_bit once classes c).1
        ((a.once_is c).1 k.0, subst (λ x. bit_at x c ≡ 1) (sym e) k.1))
        (seen_less_twice edges remaining n c s (same_or_not s.later n))),
  );
}

shared_from_seen : (edges remaining : List ℕ) (class : ℕ) → AllPairs (λ e f. e < f) remaining →
    SeenTwice edges remaining (length remaining) class → IsShared edges remaining class
shared_from_seen edges remaining class up s =
    let low = up s.place s.later 0 s.in_order s.before in
    let first : s.place < length remaining = omega (arith, s.in_order, s.before) in
    record {
      one = get_or remaining s.place 0;
      other = get_or remaining s.later 0;
      apart = λ e. (omega arith);
      one_remains = Contains-get_or remaining s.place 0 first;
      other_remains = Contains-get_or remaining s.later 0 s.before;
      one_holds = s.holds;
      other_holds = s.later_holds;
    }

seen_at : (edges remaining : List ℕ) (class e : ℕ) (h : Contains remaining e) → Holds edges e class →
    Holds edges (get_or remaining h.0 0) class
seen_at edges remaining class e h k = subst (λ x. Holds edges x class)
    (sym (get_or_default remaining h.0 0 e h.1 ∙ h.2)) k

seen_from_shared : (edges remaining : List ℕ) (class : ℕ) (s : IsShared edges remaining class) →
    (s.one_remains.0 < s.other_remains.0) ⊎
    ((s.one_remains.0 ≡ s.other_remains.0) ⊎ (s.other_remains.0 < s.one_remains.0)) →
    SeenTwice edges remaining (length remaining) class
seen_from_shared edges remaining class s (inl low) = record {
  place = s.one_remains.0;
  later = s.other_remains.0;
  in_order = low;
  before = s.other_remains.1;
  holds = seen_at edges remaining class s.one s.one_remains s.one_holds;
  later_holds = seen_at edges remaining class s.other s.other_remains s.other_holds;
}
seen_from_shared edges remaining class s (inr (inr low)) = record {
  place = s.other_remains.0;
  later = s.one_remains.0;
  in_order = low;
  before = s.one_remains.1;
  holds = seen_at edges remaining class s.other s.other_remains s.other_holds;
  later_holds = seen_at edges remaining class s.one s.one_remains s.one_holds;
}
seen_from_shared edges remaining class s (inr (inl e)) =
    let one = get_or_default remaining s.one_remains.0 0 s.one s.one_remains.1 ∙ s.one_remains.2 in
    let other = get_or_default remaining s.other_remains.0 0 s.other s.other_remains.1 ∙ s.other_remains.2 in
    absurd (s.apart (sym one ∙ ap (λ k. get_or remaining k 0) e ∙ other))

pub seen_all : (edges remaining : List ℕ) (once twice : ℕ) → AllPairs (λ e f. e < f) remaining →
    AreSeen edges remaining (length remaining) once twice → AreShared edges remaining twice
seen_all edges remaining once twice up a c = (
  λ h. shared_from_seen edges remaining c up ((a.twice_is c).0 h),
  λ s. (a.twice_is c).1
      (seen_from_shared edges remaining c s (in_order s.one_remains.0 s.other_remains.0)),
)

-- ---- parents

-- what serves the classes that an edge shares serves the edge
pub ear_from_parent : (edges remaining : List ℕ) (shared e f : ℕ) → AreShared edges remaining shared →
    Contains remaining e → IsParent edges remaining e (bit_and (slice_index edges e) shared) f →
    IsEar edges remaining e f
ear_from_parent edges remaining shared e f a h s = record {
  edge_remains = h;
  parent_remains = s.remains;
  apart = s.apart;
  serves = λ c g k d holds also.
      s.serves c ((and_bit (slice_index edges e) shared c).1 (
        holds,
        (a c).1 (record {
          one = e;
          other = g;
          apart = λ q. d (sym q);
          one_remains = h;
          other_remains = k;
          one_holds = holds;
          other_holds = also;
        }),
      ));
}

shared_with : (edges remaining : List ℕ) (e f c : ℕ) → IsEar edges remaining e f →
    (s : IsShared edges remaining c) → Holds edges e c → (s.one ≡ e) ⊎ (s.one ≢ e) → Holds edges f c
shared_with edges remaining e f c ear s h (inl q) = ear.serves c s.other s.other_remains
    (λ k. s.apart (q ∙ sym k)) h s.other_holds
shared_with edges remaining e f c ear s h (inr d) = ear.serves c s.one s.one_remains d h s.one_holds

pub parent_from_ear : (edges remaining : List ℕ) (shared e f : ℕ) → AreShared edges remaining shared →
    IsEar edges remaining e f → IsParent edges remaining e (bit_and (slice_index edges e) shared) f
parent_from_ear edges remaining shared e f a ear = record {
  remains = ear.parent_remains;
  apart = ear.apart;
  serves = λ c h.
      let both = (and_bit (slice_index edges e) shared c).0 h in
      let s = (a c).0 both.1 in
      shared_with edges remaining e f c ear s both.0 (same_or_not s.one e);
}

-- ---- where no ear stands

-- an edge that is an ear after another was removed was one before, if the shared classes are the same
pub ear_before : (edges remaining : List ℕ) (gone shared e f : ℕ) → AreShared edges remaining shared →
    AreShared edges (without gone remaining) shared → IsEar edges (without gone remaining) e f →
    IsEar edges remaining e f
ear_before edges remaining gone shared e f a b ear =
    let parent = parent_from_ear edges (without gone remaining) shared e f b ear in
    ear_from_parent edges remaining shared e f a (within_without gone remaining e ear.edge_remains).0
    (record {
      remains = (within_without gone remaining f parent.remains).0;
      apart = parent.apart;
      serves = parent.serves;
    })

-- ---- the first ear from a place on

pub IsEarAt-parent : (edges remaining : List ℕ) (from place shared f : ℕ) → AreShared edges remaining shared →
    place < length remaining → IsFirstParent edges remaining (get_or remaining place 0)
    (bit_and (slice_index edges (get_or remaining place 0)) shared) f →
    ((k g : ℕ) → from ≤ k → k < place → IsEar edges remaining (get_or remaining k 0) g → ⊥) →
    IsEarAt edges remaining from place f
IsEarAt-parent edges remaining from place shared f a h s none = record {
  within = h;
  is_ear = ear_from_parent edges remaining shared (get_or remaining place 0) f a
      (Contains-get_or remaining place 0 h) s.is_parent;
  least_parent = λ g ear. s.least g (parent_from_ear edges remaining shared
      (get_or remaining place 0) g a ear);
  none_before = none;
}

pub none_more : (edges remaining : List ℕ) (from place shared : ℕ) → AreShared edges remaining shared →
    ((f : ℕ) → IsParent edges remaining (get_or remaining place 0)
    (bit_and (slice_index edges (get_or remaining place 0)) shared) f → ⊥) →
    ((k g : ℕ) → from ≤ k → k < place → IsEar edges remaining (get_or remaining k 0) g → ⊥) → (k g : ℕ) →
    from ≤ k → k < place + 1 → IsEar edges remaining (get_or remaining k 0) g → ⊥
none_more edges remaining from place shared a none before k g low h ear =
    elim (same_or_not k place) [
      | inl e ↦ none g (parent_from_ear edges remaining shared (get_or remaining place 0) g a
          (subst (λ j. IsEar edges remaining (get_or remaining j 0) g) e ear))
      | inr d ↦ before k g low (omega arith) ear
    ]

-- ---- the shared classes after an edge has left

-- what a look at one class of the holder's decides
pub still_shared_one : (edges remaining : List ℕ) (holder class classes f shared : ℕ) →
    ((k : ℕ) → (bit_at classes k ≡ 1) ↔ ((bit_at 0 k ≡ 1) ⊎ (k ≡ class))) →
    IsFirstParent edges remaining holder classes f → Contains remaining holder → Holds edges holder class →
    bit_at shared class ≡ 1 → (bit_at shared class ≡ 1) ↔ IsShared edges remaining class
still_shared_one edges remaining holder class classes f shared one first has holds held = (
  λ b. record {
    one = holder;
    other = f;
    apart = first.is_parent.apart;
    one_remains = has;
    other_remains = first.is_parent.remains;
    one_holds = holds;
    other_holds = first.is_parent.serves class ((one class).1 (inr refl));
  },
  λ s. held,
)

other_serves : (edges : List ℕ) (class classes f c : ℕ) →
    ((k : ℕ) → (bit_at classes k ≡ 1) ↔ ((bit_at 0 k ≡ 1) ⊎ (k ≡ class))) → Holds edges f class →
    bit_at classes c ≡ 1 → Holds edges f c
other_serves edges class classes f c one holds b = elim ((one c).0 b) [
  | inl z ↦ absurd (no_bit c z)
  | inr e ↦ subst (Holds edges f) (sym e) holds
]

pub not_shared_more : (edges remaining : List ℕ) (holder class classes : ℕ) →
    ((k : ℕ) → (bit_at classes k ≡ 1) ↔ ((bit_at 0 k ≡ 1) ⊎ (k ≡ class))) →
    ((f : ℕ) → IsParent edges remaining holder classes f → ⊥) → IsShared edges remaining class → ⊥
not_shared_more edges remaining holder class classes one none s =
    elim (same_or_not s.one holder) [
      | inl e ↦ none s.other (record {
        remains = s.other_remains;
        apart = λ q. s.apart (e ∙ q);
        serves = λ c b. other_serves edges class classes s.other c one s.other_holds b;
      })
      | inr d ↦ none s.one (record {
        remains = s.one_remains;
        apart = λ q. d (sym q);
        serves = λ c b. other_serves edges class classes s.one c one s.one_holds b;
      })
    ]

-- one class less is asked about
pub shared_but_less : (edges remaining : List ℕ) (holder asked shared class asked' shared' : ℕ) →
    AreSharedBut edges remaining holder asked shared → bit_at asked class ≡ 1 →
    ((k : ℕ) → (bit_at asked' k ≡ 1) ↔ ((bit_at asked k ≡ 1) × (k ≢ class))) →
    ((k : ℕ) → k ≢ class → (bit_at shared' k ≡ 1) ↔ (bit_at shared k ≡ 1)) →
    (Contains remaining holder → Holds edges holder class → bit_at shared class ≡ 1 →
    (bit_at shared' class ≡ 1) ↔ IsShared edges remaining class) →
    AreSharedBut edges remaining holder asked' shared'
shared_but_less edges remaining holder asked shared class asked' shared' a held rest others decided = record {
  holder_remains = a.holder_remains;
  holder_holds = λ c b. a.holder_holds c ((rest c).0 b).0;
  still_in = λ c b. (let both = (rest c).0 b in (others c both.1).1 (a.still_in c both.0));
  others = λ c n. elim (same_or_not c class) [
    | inl e ↦ subst (λ x. (bit_at shared' x ≡ 1) ↔ IsShared edges remaining x) (sym e)
        (decided a.holder_remains (a.holder_holds class held) (a.still_in class held))
    | inr d ↦ (let same = a.others c (λ b. n ((rest c).1 (b, d))) in
        (λ b. same.0 ((others c d).0 b), λ s. (others c d).1 (same.1 s)))
  ];
}

pub shared_from_but : (edges remaining : List ℕ) (holder asked shared : ℕ) → asked ≡ 0 →
    AreSharedBut edges remaining holder asked shared → AreShared edges remaining shared
shared_from_but edges remaining holder asked shared none a = λ c.
    a.others c (λ b. no_bit c (subst (λ x. bit_at x c ≡ 1) none b))

lost_not : (edges : List ℕ) (shared e c : ℕ) → bit_at shared c ≡ 1 →
    (bit_at (bit_and (slice_index edges e) shared) c ≡ 1 → ⊥) → Holds edges e c → ⊥
lost_not edges shared e c b n h = n ((and_bit (slice_index edges e) shared c).1 (h, b))

-- after an ear has left, its shared classes are those to ask about, and its parent holds them
pub shared_but_ear : (edges remaining : List ℕ) (shared e f : ℕ) → AreShared edges remaining shared →
    IsEar edges remaining e f →
    AreSharedBut edges (without e remaining) f (bit_and (slice_index edges e) shared) shared
shared_but_ear edges remaining shared e f a ear = record {
  holder_remains = without_contains e remaining f ear.parent_remains (λ q. ear.apart (sym q));
  holder_holds = (parent_from_ear edges remaining shared e f a ear).serves;
  still_in = λ c b. ((and_bit (slice_index edges e) shared c).0 b).1;
  others = λ c n. (
    λ b. (let s = (a c).0 b in let lacks = lost_not edges shared e c b n in record {
      one = s.one;
      other = s.other;
      apart = s.apart;
      one_remains = without_contains e remaining s.one s.one_remains
          (λ q. lacks (subst (λ x. Holds edges x c) q s.one_holds));
      other_remains = without_contains e remaining s.other s.other_remains
          (λ q. lacks (subst (λ x. Holds edges x c) q s.other_holds));
      one_holds = s.one_holds;
      other_holds = s.other_holds;
    }),
    λ s. (a c).1 (record {
      one = s.one;
      other = s.other;
      apart = s.apart;
      one_remains = (within_without e remaining s.one s.one_remains).0;
      other_remains = (within_without e remaining s.other s.other_remains).0;
      one_holds = s.one_holds;
      other_holds = s.other_holds;
    }),
  );
}
