-- Words of holders: what is added to them, what is taken out, and what they say of the parents of an edge.
use Rattle.std.proofs.Common.{◌≡◌, ◌≢◌, ℕ, zero, suc, ◌+◌, ◌*◌, ◌/◌, ◌%◌, ◌^◌, ◌<◌, ◌≤◌, ◌⊎◌, ◌↔◌, List}
use Rattle.std.proofs.Common.{[], ◌∷◌, ◌++◌, length, get_or, refl, sym, ap, ◌∙◌, subst, inl, inr, arith}
use Rattle.std.proofs.Common.{take, drop}
use Rattle.std.proofs.Common.{replicate, take_all, append-nil}
use Rattle.std.specs.Prelude.{bit_and, slice_index, slice_set}
use Rattle.std.specs.Int.{bit_at}
use Rattle.std.specs.List.{Contains}
use Rattle.std.proofs.lemmas.Bool.{cases_lt}
use Rattle.std.proofs.lemmas.List.{get_or-set_same, get_or-set_other, length-set, length-replicate, drop_all}
use Rattle.std.proofs.lemmas.Nat.{div-add-mod', same_from_place}
use Rattle.pl_hyper.specs.Edges.{Holds, edge_numbers}
use Rattle.pl_hyper.specs.Ears.{without}
use Rattle.pl_hyper.specs.Search.{IsParent, IsFirstParent}
use Rattle.pl_hyper.specs.Holders.{AreHolders, AreFilled, IsHolder}
use Rattle.pl_hyper.proofs.Members.{same_or_not, range_contains, within_range, within_without}
use Rattle.pl_hyper.proofs.Members.{without_contains}
use Rattle.pl_hyper.proofs.Bits.{and_bit, no_bit, member_below}

-- ---- plain facts

zero_at : (n i : ℕ) → ◌≡◌ {A = ℕ} (get_or (replicate {A = ℕ} n 0) i 0) 0
zero_at zero i = refl
zero_at (suc n) zero = refl
zero_at (suc n) (suc i) = zero_at n i

outside : (xs : List ℕ) (i : ℕ) → length xs ≤ i → get_or xs i 0 ≡ 0
outside [] i h = refl
outside (x ∷ xs) zero h = absurd (omega arith)
outside (x ∷ xs) (suc i) h = outside xs i (omega arith)

bit_within : (xs : List ℕ) (i k : ℕ) → bit_at (get_or xs i 0) k ≡ 1 → i < length xs
bit_within xs i k b = elim (cases_lt i (length xs)) [
  | inl low ↦ low
  | inr high ↦ absurd (no_bit k (subst (λ x. bit_at x k ≡ 1) (outside xs i high) b))
]

-- what a slice of a whole list writes back
pub written : (was new items : List ℕ) (len : ℕ) → was ≡ items → length was ≡ len → length new ≡ length was
    → take len (new ++ drop (length new) items) ≡ new
written was new items len e h k =
    let same : length was ≡ length items = ap length e in
    ap (λ xs. take len (new ++ xs)) (drop_all (length new) items (omega arith))
    ∙ (ap (take len) (append-nil new) ∙ take_all len new (omega arith))

-- a number is an edge of a block
split : (e : ℕ) → e ≡ e / 64 * 64 + e % 64
split e = sym (div-add-mod' e 64)

-- ---- the edges of a block that hold some classes

abbrev pub HoldAll : List ℕ → ℕ → ℕ → ℕ → Type 0
HoldAll words left block place = (class : ℕ) → bit_at left class ≡ 1 →
    bit_at (slice_index words (block * 64 + class)) place ≡ 1

-- what was found and the classes that are left are together as good as all classes
abbrev pub AreCommon : List ℕ → List ℕ → ℕ → ℕ → ℕ → ℕ → Type 0
AreCommon words present classes block found left = (place : ℕ) →
    ((bit_at found place ≡ 1) × HoldAll words left block place) ↔ IsHolder words present classes block place

pub common_begin : (words present : List ℕ) (classes block found : ℕ) → found ≡ slice_index present block →
    AreCommon words present classes block found classes
common_begin words present classes block found e = λ place. (
  λ h. record { remains = subst (λ x. bit_at x place ≡ 1) e h.0; holds = h.1 },
  λ h. (subst (λ x. bit_at x place ≡ 1) (sym e) h.remains, h.holds),
)

pub common_more : (words present : List ℕ) (classes block found left class left' : ℕ) →
    AreCommon words present classes block found left → bit_at left class ≡ 1 →
    ((k : ℕ) → (bit_at left' k ≡ 1) ↔ ((bit_at left k ≡ 1) × (k ≢ class))) →
    AreCommon words present classes block (bit_and found (slice_index words (block * 64 + class))) left'
common_more words present classes block found left class left' common held rest = λ place. (
  λ h. (let both = (and_bit found (slice_index words (block * 64 + class)) place).0 h.0 in
      (common place).0 (
        both.0,
        λ k b. elim (same_or_not k class) [
          | inl e ↦ subst (λ x. bit_at (slice_index words (block * 64 + x)) place ≡ 1) (sym e) both.1
          | inr d ↦ h.1 k ((rest k).1 (b, d))
        ],
      )),
  λ s. (let before = (common place).1 s in (
    (and_bit found (slice_index words (block * 64 + class)) place).1 (before.0, before.1 class held),
    λ k b. before.1 k ((rest k).0 b).0,
  )),
)

pub common_end : (words present : List ℕ) (classes block found left : ℕ) →
    AreCommon words present classes block found left → left ≡ 0 → (place : ℕ) →
    (bit_at found place ≡ 1) ↔ IsHolder words present classes block place
common_end words present classes block found left common none place = (
  λ h. (common place).0 (h, λ k b. absurd (no_bit k (subst (λ x. bit_at x k ≡ 1) none b))),
  λ s. ((common place).1 s).0,
)

-- ---- an edge more in the words of its classes

abbrev pub IsOf : ℕ → ℕ → ℕ → ℕ → ℕ → ℕ → Type 0
IsOf block place classes b k class = (b ≡ block) × (k ≡ place) × (bit_at classes class ≡ 1)

-- what was added and the classes that are left are together as good as all classes
abbrev pub AreAdded : List ℕ → List ℕ → ℕ → ℕ → ℕ → ℕ → Type 0
AreAdded old words block place classes left = (b k class : ℕ) → class < 64 →
    ((bit_at (slice_index words (b * 64 + class)) k ≡ 1) ⊎ IsOf block place left b k class)
    ↔ ((bit_at (slice_index old (b * 64 + class)) k ≡ 1) ⊎ IsOf block place classes b k class)

pub added_begin : (old : List ℕ) (block place classes : ℕ) → AreAdded old old block place classes classes
added_begin old block place classes = λ b k class h. (λ s. s, λ s. s)

one_added : (words : List ℕ) (block place left class left' value b k c : ℕ) → c < 64 → class < 64 →
    block * 64 + class < length words → bit_at left class ≡ 1 →
    ((j : ℕ) → (bit_at left' j ≡ 1) ↔ ((bit_at left j ≡ 1) × (j ≢ class))) →
    ((j : ℕ) → (bit_at value j ≡ 1)
    ↔ ((bit_at (slice_index words (block * 64 + class)) j ≡ 1) ⊎ (j ≡ place))) →
    (b * 64 + c ≡ block * 64 + class) ⊎ (b * 64 + c ≢ block * 64 + class) →
    ((bit_at (slice_index (slice_set words (block * 64 + class) value) (b * 64 + c)) k ≡ 1)
    ⊎ IsOf block place left' b k c)
    ↔ ((bit_at (slice_index words (b * 64 + c)) k ≡ 1) ⊎ IsOf block place left b k c)
one_added words block place left class left' value b k c low small fits held rest bits (inl e) =
    let same = same_from_place b c block class 64 low small e in
    let read : get_or (slice_set words (block * 64 + class) value) (b * 64 + c) 0 ≡ value =
    ap (λ i. get_or (slice_set words (block * 64 + class) value) i 0) e
    ∙ get_or-set_same words (block * 64 + class) value 0 fits in (
      λ s. elim s [
        | inl h ↦ elim ((bits k).0 (subst (λ x. bit_at x k ≡ 1) read h)) [
          | inl w ↦ inl (subst (λ i. bit_at (slice_index words i) k ≡ 1) (sym e) w)
          | inr p ↦ inr (same.0, p, subst (λ j. bit_at left j ≡ 1) (sym same.1) held)
        ]
        | inr o ↦ inr (o.0, o.1, ((rest c).0 o.2).0)
      ],
      λ s. elim s [
        | inl w ↦ inl (subst (λ x. bit_at x k ≡ 1) (sym read)
            ((bits k).1 (inl (subst (λ i. bit_at (slice_index words i) k ≡ 1) e w))))
        | inr o ↦ inl (subst (λ x. bit_at x k ≡ 1) (sym read) ((bits k).1 (inr o.1)))
      ],
    )
one_added words block place left class left' value b k c low small fits held rest bits (inr d) =
    let read = get_or-set_other words (block * 64 + class) (b * 64 + c) value 0 d in (
      λ s. elim s [
        | inl h ↦ inl (subst (λ x. bit_at x k ≡ 1) read h)
        | inr o ↦ inr (o.0, o.1, ((rest c).0 o.2).0)
      ],
      λ s. elim s [
        | inl w ↦ inl (subst (λ x. bit_at x k ≡ 1) (sym read) w)
        | inr o ↦ inr (
          o.0,
          o.1,
          (rest c).1 (
            o.2,
            λ q. d (ap (λ x. x * 64 + c) o.0
                ∙ ap (λ x. block * 64 + x) q),
          ),
        )
      ],
    )

pub added_more : (old words : List ℕ) (block place classes left class left' value : ℕ) → class < 64 →
    block * 64 + class < length words → AreAdded old words block place classes left →
    bit_at left class ≡ 1 → ((j : ℕ) → (bit_at left' j ≡ 1) ↔ ((bit_at left j ≡ 1) × (j ≢ class))) →
    ((j : ℕ) → (bit_at value j ≡ 1)
    ↔ ((bit_at (slice_index words (block * 64 + class)) j ≡ 1) ⊎ (j ≡ place))) →
    AreAdded old (slice_set words (block * 64 + class) value) block place classes left'
added_more old words block place classes left class left' value small fits added held rest bits =
    λ b k c low.
    let one = one_added words block place left class left' value b k c low small fits held rest bits
    (same_or_not (b * 64 + c) (block * 64 + class)) in
    (λ s. (added b k c low).0 (one.0 s), λ s. one.1 ((added b k c low).1 s))

pub added_end : (old words : List ℕ) (block place classes left : ℕ) →
    AreAdded old words block place classes left → left ≡ 0 → (b k class : ℕ) → class < 64 →
    (bit_at (slice_index words (b * 64 + class)) k ≡ 1)
    ↔ ((bit_at (slice_index old (b * 64 + class)) k ≡ 1) ⊎ IsOf block place classes b k class)
added_end old words block place classes left added none b k class low = (
  λ h. (added b k class low).0 (inl h),
  λ s. elim ((added b k class low).1 s) [
    | inl h ↦ h
    | inr o ↦ absurd (no_bit class (subst (λ x. bit_at x class ≡ 1) none o.2))
  ],
)

-- ---- the words of all edges

pub filled_begin : (edges words present : List ℕ) → words ≡ replicate {A = ℕ} (length present * 64) 0 →
    present ≡ replicate {A = ℕ} (length present) 0 → AreFilled edges 0 words present
filled_begin edges words present e f = record {
  many = (let long = ap length e ∙ length-replicate (length present * 64) 0 in omega arith);
  holds = λ b k c h l. (
    λ s. absurd (no_bit k (subst (λ x. bit_at x k ≡ 1)
        (ap (λ xs. get_or xs (b * 64 + c) 0) e ∙ zero_at (length present * 64) (b * 64 + c)) s)),
    λ s. (let low = s.0 in absurd (omega arith)),
  );
  remains = λ b k h. (
    λ s. absurd (no_bit k (subst (λ x. bit_at x k ≡ 1)
        (ap (λ xs. get_or xs b 0) f ∙ zero_at (length present) b) s)),
    λ low. absurd (omega arith),
  );
}

-- one edge more, the one of a block and a place
more_holds : (edges words words' : List ℕ) (e block place b k c : ℕ) → e ≡ block * 64 + place → place < 64 →
    k < 64 → ((bit_at (slice_index words (b * 64 + c)) k ≡ 1)
    ↔ ((b * 64 + k < e) × Holds edges (b * 64 + k) c)) →
    ((bit_at (slice_index words' (b * 64 + c)) k ≡ 1)
    ↔ ((bit_at (slice_index words (b * 64 + c)) k ≡ 1) ⊎ IsOf block place (slice_index edges e) b k c)) →
    (b * 64 + k ≡ e) ⊎ (b * 64 + k ≢ e) →
    (bit_at (slice_index words' (b * 64 + c)) k ≡ 1) ↔ ((b * 64 + k < e + 1) × Holds edges (b * 64 + k) c)
more_holds edges words words' e block place b k c at low h filled added (inl s) =
    let same = same_from_place b k block place 64 h low (s ∙ at) in (
      λ w. elim (added.0 w) [
        | inl o ↦ (let both = filled.0 o in let less = both.0 in (omega arith, both.1))
        | inr o ↦ (omega arith, subst (λ x. Holds edges x c) (sym s) o.2)
      ],
      λ t. added.1 (inr (same.0, same.1, subst (λ x. Holds edges x c) s t.1)),
    )
more_holds edges words words' e block place b k c at low h filled added (inr d) = (
  λ w. elim (added.0 w) [
    | inl o ↦ (let both = filled.0 o in let less = both.0 in (omega arith, both.1))
    | inr o ↦ absurd (d (ap (λ x. x * 64 + k) o.0 ∙ ap (λ x. block * 64 + x) o.1 ∙ sym at))
  ],
  λ t. (let less = t.0 in added.1 (inl (filled.1 (omega arith, t.1)))),
)

more_remain : (present : List ℕ) (e block place value b k : ℕ) → e ≡ block * 64 + place → place < 64 →
    k < 64 → block < length present →
    ((bit_at (slice_index present b) k ≡ 1) ↔ (b * 64 + k < e)) →
    ((j : ℕ) → (bit_at value j ≡ 1) ↔ ((bit_at (slice_index present block) j ≡ 1) ⊎ (j ≡ place))) →
    (b ≡ block) ⊎ (b ≢ block) →
    (bit_at (slice_index (slice_set present block value) b) k ≡ 1) ↔ (b * 64 + k < e + 1)
more_remain present e block place value b k at low h within filled bits (inl s) =
    let read : get_or (slice_set present block value) b 0 ≡ value =
    ap (λ i. get_or (slice_set present block value) i 0) s ∙ get_or-set_same present block value 0 within in (
      λ w. elim ((bits k).0 (subst (λ x. bit_at x k ≡ 1) read w)) [
        | inl o ↦ (let less = filled.0 (subst (λ i. bit_at (slice_index present i) k ≡ 1) (sym s) o) in
            omega arith)
        | inr p ↦ omega arith
      ],
      λ less. subst (λ x. bit_at x k ≡ 1) (sym read) ((bits k).1 (elim (same_or_not k place) [
        | inl p ↦ inr p
        | inr d ↦ inl (subst (λ i. bit_at (slice_index present i) k ≡ 1) s (filled.1 (omega arith)))
      ])),
    )
more_remain present e block place value b k at low h within filled bits (inr d) =
    let read = get_or-set_other present block b value 0 d in (
      λ w. (let less = filled.0 (subst (λ x. bit_at x k ≡ 1) read w) in omega arith),
      λ less. (
          let other : b * 64 + k ≢ e = λ s. d (same_from_place b k block place 64 h low (s ∙ at)).0 in
          subst (λ x. bit_at x k ≡ 1) (sym read) (filled.1 (omega arith))),
    )

filled_with : (edges : List ℕ) (e block place : ℕ) (words present words' : List ℕ) (value : ℕ) →
    e ≡ block * 64 + place → place < 64 → AreFilled edges e words present → length words' ≡ length words →
    block < length present → ((b k c : ℕ) → c < 64 → (bit_at (slice_index words' (b * 64 + c)) k ≡ 1)
    ↔ ((bit_at (slice_index words (b * 64 + c)) k ≡ 1) ⊎ IsOf block place (slice_index edges e) b k c)) →
    ((j : ℕ) → (bit_at value j ≡ 1) ↔ ((bit_at (slice_index present block) j ≡ 1) ⊎ (j ≡ place))) →
    AreFilled edges (e + 1) words' (slice_set present block value)
filled_with edges e block place words present words' value at low filled same within added bits = record {
  many = (let long = length-set present block value in let many = filled.many in omega arith);
  holds = λ b k c h l. more_holds edges words words' e block place b k c at low h (filled.holds b k c h l)
      (added b k c l) (same_or_not (b * 64 + k) e);
  remains = λ b k h. more_remain present e block place value b k at low h within (filled.remains b k h) bits
      (same_or_not b block);
}

pub filled_more : (edges : List ℕ) (e : ℕ) (words present words' : List ℕ) (value : ℕ) →
    AreFilled edges e words present → length words' ≡ length words → e / 64 < length present →
    ((b k c : ℕ) → c < 64 → (bit_at (slice_index words' (b * 64 + c)) k ≡ 1)
    ↔ ((bit_at (slice_index words (b * 64 + c)) k ≡ 1)
    ⊎ IsOf (e / 64) (e % 64) (slice_index edges e) b k c)) →
    ((j : ℕ) → (bit_at value j ≡ 1)
    ↔ ((bit_at (slice_index present (e / 64)) j ≡ 1) ⊎ (j ≡ e % 64))) →
    AreFilled edges (e + 1) words' (slice_set present (e / 64) value)
filled_more edges e words present words' value filled same within added bits =
    filled_with edges e (e / 64) (e % 64) words present words' value (split e) (omega arith) filled same
    within added bits

pub holders_from : (edges words present : List ℕ) → length edges < 2 ^ 32 →
    length present ≡ length edges / 64 + 1 → AreFilled edges (length edges) words present →
    AreHolders edges (edge_numbers edges) words present
holders_from edges words present few long filled =
    let whole = split (length edges) in
    let low : length edges % 64 < 64 = omega arith in
    record {
      many = filled.many;
      few = omega (arith, whole, low, few, long);
      all_edges = omega (arith, whole, low, long);
      holds = λ b k c h l. (
        λ s. ((filled.holds b k c h l).0 s).1,
        λ s. (filled.holds b k c h l).1 (bit_within edges (b * 64 + k) c s, s),
      );
      remains = λ b k h. (
        λ s. range_contains (length edges) (b * 64 + k) ((filled.remains b k h).0 s),
        λ s. (filled.remains b k h).1 (within_range (length edges) (b * 64 + k) s),
      );
    }

pub holders_written : (edges was items new was' items' new' : List ℕ) (len len' : ℕ) → was ≡ items →
    length was ≡ len → length new ≡ length was → was' ≡ items' → length was' ≡ len' →
    length new' ≡ length was' → length edges < 2 ^ 32 → len' ≡ length edges / 64 + 1 →
    AreFilled edges (length edges) new new' → AreHolders edges (edge_numbers edges)
    (take len (new ++ drop (length new) items)) (take len' (new' ++ drop (length new') items'))
holders_written edges was items new was' items' new' len len' e h k e' h' k' few long filled =
    rw (written was new items len e h k, written was' new' items' len' e' h' k')
    (holders_from edges new new' few (k' ∙ (h' ∙ long)) filled)

pub holders_of : (edges core words present : List ℕ) → core ≡ edge_numbers edges →
    AreHolders edges (edge_numbers edges) words present → AreHolders edges core words present
holders_of edges core words present e a = subst (λ xs. AreHolders edges xs words present) (sym e) a

-- ---- an edge less

fewer_remain : (remaining present : List ℕ) (e block place value b k : ℕ) → e ≡ block * 64 + place →
    place < 64 → k < 64 → block < length present →
    ((bit_at (slice_index present b) k ≡ 1) ↔ Contains remaining (b * 64 + k)) →
    ((j : ℕ) → (bit_at value j ≡ 1) ↔ ((bit_at (slice_index present block) j ≡ 1) × (j ≢ place))) →
    (b ≡ block) ⊎ (b ≢ block) →
    (bit_at (slice_index (slice_set present block value) b) k ≡ 1)
    ↔ Contains (without e remaining) (b * 64 + k)
fewer_remain remaining present e block place value b k at low h within held bits (inl s) =
    let read : get_or (slice_set present block value) b 0 ≡ value =
    ap (λ i. get_or (slice_set present block value) i 0) s ∙ get_or-set_same present block value 0 within in (
      λ w. (let both = (bits k).0 (subst (λ x. bit_at x k ≡ 1) read w) in
          without_contains e remaining (b * 64 + k)
          (held.0 (subst (λ i. bit_at (slice_index present i) k ≡ 1) (sym s) both.0))
          (λ q. both.1 (same_from_place b k block place 64 h low (q ∙ at)).1)),
      λ t. (let both = within_without e remaining (b * 64 + k) t in
          subst (λ x. bit_at x k ≡ 1) (sym read) ((bits k).1 (
            subst (λ i. bit_at (slice_index present i) k ≡ 1) s (held.1 both.0),
            λ p. both.1 (ap (λ x. x * 64 + k) s ∙ ap (λ x. block * 64 + x) p ∙ sym at),
          ))),
    )
fewer_remain remaining present e block place value b k at low h within held bits (inr d) =
    let read = get_or-set_other present block b value 0 d in (
      λ w. without_contains e remaining (b * 64 + k) (held.0 (subst (λ x. bit_at x k ≡ 1) read w))
          (λ q. d (same_from_place b k block place 64 h low (q ∙ at)).0),
      λ t. subst (λ x. bit_at x k ≡ 1) (sym read)
          (held.1 (within_without e remaining (b * 64 + k) t).0),
    )

left_with : (edges remaining words present : List ℕ) (e block place value : ℕ) → e ≡ block * 64 + place →
    place < 64 → block < length present →
    ((j : ℕ) → (bit_at value j ≡ 1) ↔ ((bit_at (slice_index present block) j ≡ 1) × (j ≢ place))) →
    AreHolders edges remaining words present →
    AreHolders edges (without e remaining) words (slice_set present block value)
left_with edges remaining words present e block place value at low within bits a =
    let long = length-set present block value in
    record {
      many = a.many ∙ ap (λ n. 64 * n) (sym long);
      few = subst (λ n. 64 * n ≤ 2 ^ 32) (sym long) a.few;
      all_edges = subst (λ n. length edges ≤ 64 * n) (sym long) a.all_edges;
      holds = a.holds;
      remains = λ b k h. fewer_remain remaining present e block place value b k at low h within
          (a.remains b k h) bits (same_or_not b block);
    }

pub left_without : (edges remaining words present given : List ℕ) (e value len : ℕ) → given ≡ present →
    length given ≡ len → e < 64 * length present →
    ((j : ℕ) → (bit_at value j ≡ 1)
    ↔ ((bit_at (slice_index given (e / 64)) j ≡ 1) × (j ≢ e % 64))) →
    AreHolders edges remaining words present → AreHolders edges (without e remaining) words
    (take len (slice_set given (e / 64) value ++ drop (length (slice_set given (e / 64) value)) present))
left_without edges remaining words present given e value len same long within bits a =
    let back = written given (slice_set given (e / 64) value) present len same long
    (length-set given (e / 64) value) in
    let whole = split e in
    subst (AreHolders edges (without e remaining) words) (sym back)
    (subst (λ xs. ((j : ℕ) → (bit_at value j ≡ 1)
    ↔ ((bit_at (slice_index xs (e / 64)) j ≡ 1) × (j ≢ e % 64))) →
    AreHolders edges (without e remaining) words (slice_set xs (e / 64) value)) (sym same)
    (λ rest. left_with edges remaining words present e (e / 64) (e % 64) value whole (omega arith)
    (omega (arith, whole, within)) rest a) bits)

-- ---- parents

holder_parent : (edges remaining words present : List ℕ) (edge classes b k : ℕ) →
    AreHolders edges remaining words present → classes < 2 ^ 64 → k < 64 →
    IsHolder words present classes b k → edge ≢ b * 64 + k →
    IsParent edges remaining edge classes (b * 64 + k)
holder_parent edges remaining words present edge classes b k a fits h s apart = record {
  remains = (a.remains b k h).0 s.remains;
  apart = apart;
  serves = λ c held. (a.holds b k c h (member_below classes c fits held)).0 (s.holds c held);
}

parent_holder : (edges remaining words present : List ℕ) (edge classes b k : ℕ) →
    AreHolders edges remaining words present → classes < 2 ^ 64 → k < 64 →
    IsParent edges remaining edge classes (b * 64 + k) → IsHolder words present classes b k
parent_holder edges remaining words present edge classes b k a fits h s = record {
  remains = (a.remains b k h).1 s.remains;
  holds = λ c held. (a.holds b k c h (member_below classes c fits held)).1 (s.serves c held);
}

-- no edge of the blocks before this one holds the classes, but perhaps `edge`
abbrev pub NoneBefore : List ℕ → List ℕ → ℕ → ℕ → ℕ → Type 0
NoneBefore words present edge classes block = (b k : ℕ) → b < block → k < 64 →
    IsHolder words present classes b k → edge ≢ b * 64 + k → ⊥

-- the holders of a block but `edge`
abbrev pub AreOthers : List ℕ → List ℕ → ℕ → ℕ → ℕ → ℕ → Type 0
AreOthers words present edge classes block others = (k : ℕ) → k < 64 → (bit_at others k ≡ 1)
    ↔ (IsHolder words present classes block k × (edge ≢ block * 64 + k))

pub AreOthers-found : (words present : List ℕ) (edge classes block found others : ℕ) →
    ((k : ℕ) → (bit_at found k ≡ 1) ↔ IsHolder words present classes block k) →
    ((k : ℕ) → k < 64 → (bit_at others k ≡ 1) ↔ ((bit_at found k ≡ 1) × (edge ≢ block * 64 + k))) →
    AreOthers words present edge classes block others
AreOthers-found words present edge classes block found others holders rest = λ k h. (
  λ b. (let both = (rest k h).0 b in ((holders k).0 both.0, both.1)),
  λ s. (rest k h).1 ((holders k).1 s.0, s.1),
)

pub none_in_block : (words present : List ℕ) (edge classes block others : ℕ) →
    NoneBefore words present edge classes block → AreOthers words present edge classes block others →
    others ≡ 0 → NoneBefore words present edge classes (block + 1)
none_in_block words present edge classes block others before are none = λ b k low h s apart.
    elim (same_or_not b block) [
      | inl e ↦ no_bit k (subst (λ x. bit_at x k ≡ 1) none ((are k h).1 (
        subst (λ x. IsHolder words present classes x k) e s,
        λ q. apart (q ∙ ap (λ x. x * 64 + k) (sym e)),
      )))
      | inr d ↦ before b k (omega arith) h s apart
    ]

least_holder : (words present : List ℕ) (edge classes block others place b k : ℕ) →
    NoneBefore words present edge classes block → AreOthers words present edge classes block others →
    place < 64 → ((j : ℕ) → j < place → bit_at others j ≡ 1 → ⊥) → k < 64 →
    IsHolder words present classes b k → edge ≢ b * 64 + k →
    (b < block) ⊎ (block ≤ b) → block * 64 + place ≤ b * 64 + k
least_holder words present edge classes block others place b k before are low least h s apart (inl less) =
    absurd (before b k less h s apart)
least_holder words present edge classes block others place b k before are low least h s apart (inr far) =
    elim (same_or_not b block) [
      | inl e ↦ elim (cases_lt k place) [
        | inl first ↦ absurd (least k first ((are k h).1 (
          subst (λ x. IsHolder words present classes x k) e s,
          λ q. apart (q ∙ ap (λ x. x * 64 + k) (sym e)),
        )))
        | inr later ↦ omega arith
      ]
      | inr d ↦ omega arith
    ]

pub IsFirstParent-holder : (edges remaining words present : List ℕ) (edge classes block others place : ℕ) →
    classes < 2 ^ 64 → NoneBefore words present edge classes block →
    AreOthers words present edge classes block others → place < 64 → bit_at others place ≡ 1 →
    ((j : ℕ) → j < place → bit_at others j ≡ 1 → ⊥) → AreHolders edges remaining words present →
    IsFirstParent edges remaining edge classes (block * 64 + place)
IsFirstParent-holder edges remaining words present edge classes block others place fits before are low held
    least a =
    let found = (are place low).0 held in
    record {
      is_parent = holder_parent edges remaining words present edge classes block place a fits low found.0
          found.1;
      least = λ f p. (
          let at = split f in
          let small : f % 64 < 64 = omega arith in
          let there : IsParent edges remaining edge classes (f / 64 * 64 + f % 64) =
          subst (IsParent edges remaining edge classes) at p in
          let far = least_holder words present edge classes block others place (f / 64) (f % 64) before are
          low least small (parent_holder edges remaining words present edge classes (f / 64) (f % 64) a fits
          small there) there.apart (cases_lt (f / 64) block) in
          omega (arith, at, far));
    }

pub no_parent : (edges remaining words present : List ℕ) (edge classes block : ℕ) → classes < 2 ^ 64 →
    NoneBefore words present edge classes block → length present ≤ block →
    AreHolders edges remaining words present → (f : ℕ) → IsParent edges remaining edge classes f → ⊥
no_parent edges remaining words present edge classes block fits before all a f p =
    let at = split f in
    let small : f % 64 < 64 = omega arith in
    let there : IsParent edges remaining edge classes (f / 64 * 64 + f % 64) =
    subst (IsParent edges remaining edge classes) at p in
    let holder = parent_holder edges remaining words present edge classes (f / 64) (f % 64) a fits small
    there in
    let within = bit_within present (f / 64) (f % 64) holder.remains in
    before (f / 64) (f % 64) (omega (arith, within, all)) small holder there.apart
