-- What the loops of this crate keep.
use Rattle.std.proofs.Common.{◌≡◌, ℕ, ◌+◌, ◌<◌, ◌≤◌, List, [], ◌∷◌, ◌++◌, length, map, take, drop, get_or}
use Rattle.std.proofs.Common.{set, refl, sym, ◌∙◌, ap, subst, arith, All, append-nil, take_all}
use Rattle.std.specs.List.{flat_map, range_with_len}
use Rattle.std.proofs.lemmas.List.{get_or_default, take_more, drop_all}
use Rattle.std.proofs.lemmas.List.Concat.{flat_map-append}
use Rattle.std.proofs.lemmas.List.Edits.{map_over_more}
use Rattle.std.proofs.lemmas.List.Elements.{All-nil, All-cons, All-head, All-tail, All-same}
use Rattle.std.proofs.lemmas.List.FromFn.{length-range_with_len, map-range_with_len_more}
use Rattle.pl_task.specs.declared.data.Literal.{Literal}
use Rattle.pl_task.specs.declared.data.Term.{Term}
use Rattle.pl_task.specs.declared.data.Term.TheVariants as term
use Rattle.pl_join.specs.declared.slot.Slot.{Slot}
use Rattle.pl_join.specs.declared.slot.Slot.TheVariants.{Fixed, Class}
use Rattle.pl_join.specs.Relation.{IsSlotBelow}
use Rattle.pl_normal.specs.declared.form.Edge.{Edge}
use Rattle.pl_normal.specs.declared.form.Placed.{Placed}
use Rattle.pl_normal.specs.declared.form.Sieve.{Sieve}
use Rattle.pl_normal.specs.Scope.{IsTermBelow, IsLiteralBelow, IsSieveBelow, renamed}
use Rattle.pl_task.specs.declared.data.Schema.{Schema}
use Rattle.pl_normal.specs.declared.form.Sieve.TheVariants as sieve
use Rattle.pl_normal.specs.Classes.{equalities, class_of, parameter_classes}
use Rattle.pl_normal.specs.Slots.{slot_at, slot_of, slots_of}
use Rattle.pl_normal.specs.Edges.{type_edge, type_edges, literal_edge, atom_edges}
use Rattle.pl_normal.specs.Filters.{literal_sieve, sieves_of, home, local_at, late_at, local_among}
use Rattle.pl_normal.specs.Filters.{late_among}

-- a loop over a list that appends what each element gives
pub flat_more : {X Y : Type 0} (f : X → List Y) (xs : List X) (i : ℕ) (x : X) (before after : List Y)
    → i < length xs → x ≡ get_or xs i x → before ≡ flat_map f (take i xs) → after ≡ before ++ f x
    → after ≡ flat_map f (take (i + 1) xs)
flat_more f xs i x before after h at b a =
    a ∙ (ap (λ ys. ys ++ f x) b
    ∙ sym (ap (flat_map f) (take_more xs i x h)
    ∙ (flat_map-append f (take i xs) (get_or xs i x ∷ [])
    ∙ (ap (λ ys. flat_map f (take i xs) ++ ys) (append-nil (f (get_or xs i x)))
    ∙ ap (λ y. flat_map f (take i xs) ++ f y) (sym at)))))

pub flat_end : {X Y : Type 0} (f : X → List Y) (xs : List X) (i : ℕ) (made : List Y) → length xs ≤ i
    → made ≡ flat_map f (take i xs) → made ≡ flat_map f xs
flat_end f xs i made h b = b ∙ ap (flat_map f) (take_all i xs h)

-- a loop over the numbers below a bound
pub range_more : {Y : Type 0} (f : ℕ → List Y) (i j : ℕ) (before after : List Y) → j ≡ i + 1
    → before ≡ flat_map f (range_with_len 0 i) → after ≡ before ++ f i
    → after ≡ flat_map f (range_with_len 0 j)
range_more f i j before after e b a =
    a ∙ (ap (λ ys. ys ++ f i) b
    ∙ sym (ap (λ n. flat_map f (range_with_len 0 n)) e
    ∙ (ap (flat_map f) (more i)
    ∙ (flat_map-append f (range_with_len 0 i) (i ∷ [])
    ∙ ap (λ ys. flat_map f (range_with_len 0 i) ++ ys) (append-nil (f i))))))
  where
    same : (xs : List ℕ) → map (λ x. x) xs ≡ xs
    same [] = refl
    same (x ∷ xs) = ap (λ ys. x ∷ ys) (same xs)

    more : (n : ℕ) → range_with_len 0 (n + 1) ≡ range_with_len 0 n ++ n ∷ []
    more n = sym (same (range_with_len 0 (n + 1)))
        ∙ (map-range_with_len_more (λ x. x) 0 n n (omega arith)
        ∙ ap (λ xs. xs ++ n ∷ []) (same (range_with_len 0 n)))

-- ---- renaming classes

read_default : (xs : List ℕ) (k x : ℕ) → k < length xs → get_or xs k 0 ≡ get_or xs k x
read_default xs k x h = get_or_default xs k 0 x h

pub renamed_more : (x y : ℕ) (xs ys : List ℕ) (k v : ℕ) → k < length xs → length ys ≡ length xs
    → ys ≡ map (renamed x y) (take k xs) ++ drop k xs → v ≡ renamed x y (get_or ys k 0)
    → set ys k v ≡ map (renamed x y) (take (k + 1) xs) ++ drop (k + 1) xs
renamed_more x y xs ys k v h same b e =
    ap (set ys k) e ∙ map_over_more (renamed x y) xs ys k (get_or ys k 0) h b
    (read_default ys k (get_or ys k 0) (omega arith))

-- ---- edges

pub type_edges_end : (slots : List Slot) (p : ℕ) (made : List Edge) → p ≡ length slots
    → made ≡ flat_map (λ q. type_edge q (slot_at slots q)) (range_with_len 0 p) → made ≡ type_edges slots
unfolding type_edges
type_edges_end slots p made e h = h
    ∙ ap (λ n. flat_map (λ q. type_edge q (slot_at slots q)) (range_with_len 0 n)) e

pub edges_end : (slots : List Slot) (condition : List Literal) (i : ℕ) (made : List Edge)
    → length condition ≤ i → made ≡ type_edges slots ++ flat_map (literal_edge slots) (take i condition)
    → made ≡ type_edges slots ++ atom_edges slots condition
unfolding atom_edges
edges_end slots condition i made h b = b ∙ ap (λ xs. type_edges slots ++ flat_map (literal_edge slots) xs)
    (take_all i condition h)

-- ---- slots of terms

term_slot : (slots : List Slot) (t : Term) → All (IsSlotBelow 64) slots → IsTermBelow (length slots) t
    → IsSlotBelow 64 (slot_of slots t)
term_slot slots (term.Parameter p) all h = all p (Fixed 0) (h p refl)
term_slot slots (term.Object o) all h = λ c e. absurd (other c e)
  where
    other : (c : ℕ) → Fixed o ≡ Class c → ⊥
    other c q = cc

pub terms_below : (slots : List Slot) (terms : List Term) → All (IsSlotBelow 64) slots
    → All (IsTermBelow (length slots)) terms → All (IsSlotBelow 64) (slots_of slots terms)
terms_below slots [] all h = All-nil (IsSlotBelow 64)
terms_below slots (t ∷ terms) all h =
    All-cons (IsSlotBelow 64) (slot_of slots t) (slots_of slots terms)
    (term_slot slots t all (All-head (IsTermBelow (length slots)) t terms h))
    (terms_below slots terms all (All-tail (IsTermBelow (length slots)) t terms h))

pub row_below : (slots row : List Slot) (terms : List Term) → row ≡ slots_of slots terms
    → All (IsSlotBelow 64) slots → All (IsTermBelow (length slots)) terms → All (IsSlotBelow 64) row
row_below slots row terms e all h = All-same (IsSlotBelow 64) row (slots_of slots terms) e
    (terms_below slots terms all h)

-- ---- filters

-- a literal more, of which something is made for each of its filters
filters_more : {Y : Type 0} (f : Sieve → List Y) (slots : List Slot) (condition : List Literal) (i : ℕ)
    (l : Literal) (before after : List Y) → i < length condition → l ≡ get_or condition i l
    → before ≡ flat_map f (sieves_of slots (take i condition))
    → after ≡ before ++ flat_map f (literal_sieve slots l)
    → after ≡ flat_map f (sieves_of slots (take (i + 1) condition))
unfolding sieves_of
filters_more f slots condition i l before after h at b a =
    a ∙ (ap (λ xs. xs ++ flat_map f (literal_sieve slots l)) b
    ∙ (sym (flat_map-append f (flat_map (literal_sieve slots) (take i condition)) (literal_sieve slots l))
    ∙ ap (flat_map f) (flat_more (literal_sieve slots) condition i l
    (flat_map (literal_sieve slots) (take i condition)) _ h at refl refl)))

pub local_more : (edges : List Edge) (slots : List Slot) (condition : List Literal) (i : ℕ) (l : Literal)
    (before after : List Placed) → i < length condition → l ≡ get_or condition i l
    → before ≡ local_among edges (sieves_of slots (take i condition)) →
    after ≡ before ++ flat_map (λ s. local_at (home edges s) s) (literal_sieve slots l)
    → after ≡ local_among edges (sieves_of slots (take (i + 1) condition))
unfolding local_among
local_more edges = filters_more (λ s. local_at (home edges s) s)

pub late_more : (edges : List Edge) (slots : List Slot) (condition : List Literal) (i : ℕ) (l : Literal)
    (before after : List Sieve) → i < length condition → l ≡ get_or condition i l
    → before ≡ late_among edges (sieves_of slots (take i condition)) →
    after ≡ before ++ flat_map (λ s. late_at (home edges s) s) (literal_sieve slots l)
    → after ≡ late_among edges (sieves_of slots (take (i + 1) condition))
unfolding late_among
late_more edges = filters_more (λ s. late_at (home edges s) s)

pub filters_none : (edges : List Edge) (slots : List Slot) (made : List Placed) (late : List Sieve)
    → made ≡ [] → late ≡ [] → (made ≡ local_among edges (sieves_of slots []))
    × (late ≡ late_among edges (sieves_of slots []))
unfolding local_among late_among sieves_of
filters_none edges slots made late a b = (a, b)

pub absent_below : (predicate : ℕ) (slots row : List Slot) (terms : List Term) → row ≡ slots_of slots terms
    → All (IsSlotBelow 64) slots → All (IsTermBelow (length slots)) terms
    → All IsSieveBelow (sieve.Absent predicate row ∷ [])
absent_below predicate slots row terms e all h = All-cons IsSieveBelow (sieve.Absent predicate row) []
    (row_below slots row terms e all h) (All-nil IsSieveBelow)

-- ---- the classes of the parameters

pub written : (was new items : List ℕ) (len : ℕ) → was ≡ items → length was ≡ len → length new ≡ length was
    → take len (new ++ drop (length new) items) ≡ new
written was new items len e h k =
    let same : length was ≡ length items = ap length e in
    ap (λ xs. take len (new ++ xs)) (drop_all (length new) items (omega arith))
    ∙ (ap (take len) (append-nil new) ∙ take_all len new (omega arith))

pub classes_end : (schema : Schema) (new : List ℕ) (n m : ℕ) → n ≡ m → m ≡ length schema.parameters
    → new ≡ map (class_of (equalities schema.condition)) (range_with_len 0 n) → new ≡ parameter_classes schema
unfolding parameter_classes
classes_end schema new n m e k h = h
    ∙ ap (λ x. map (class_of (equalities schema.condition)) (range_with_len 0 x)) (e ∙ k)

pub literals_for : (n m : ℕ) (xs ys : List Literal) → m ≡ n → xs ≡ ys → All (IsLiteralBelow n) ys
    → All (IsLiteralBelow m) xs
literals_for n m xs ys e k h = subst (λ x. All (IsLiteralBelow x) xs) (sym e)
    (All-same (IsLiteralBelow n) xs ys k h)

pub own_range : (xs : List ℕ) (n : ℕ) → xs ≡ range_with_len 0 n → xs ≡ range_with_len 0 (length xs)
own_range xs n h = h ∙ ap (range_with_len 0) (sym (ap length h ∙ length-range_with_len 0 n))
