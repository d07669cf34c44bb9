-- The steps of the test whether classes stand in an order.
use Rattle.std.proofs.Common.{◌≡◌, ◌≢◌, ◌+◌, ◌<◌, ◌≤◌, ℕ, true, false, cond, List, [], ◌∷◌, ◌++◌, length}
use Rattle.std.proofs.Common.{take}
use Rattle.std.proofs.Common.{drop, get_or, sym, ap, ◌∙◌, arith}
use Rattle.std.proofs.lemmas.List.{append_assoc, append-nil, drop_at, drop_more, take_more, take_all}
use Rattle.std.proofs.lemmas.List.{take-append-drop, length-drop, length-take-le}
use Rattle.std.proofs.lemmas.List.Elements.{filter-append, filter_more}
use Rattle.pl_join.specs.Relation.{has_class}
use Rattle.pl_reduce.specs.Arranged.{ordered}

-- the order with one class more
pub ordered_next : (order classes : List ℕ) (i d : ℕ) → i < length order
    → has_class classes (get_or order i d) ≡ true
    → ordered (take (i + 1) order) classes ≡ ordered (take i order) classes ++ get_or order i d ∷ []
ordered_next order classes i d l has = filter_more (has_class classes) order i d l
    ∙ ap (λ b. ordered (take i order) classes ++ cond b (get_or order i d ∷ []) []) has

pub ordered_skips : (order classes : List ℕ) (i d : ℕ) → i < length order
    → has_class classes (get_or order i d) ≡ false
    → ordered (take (i + 1) order) classes ≡ ordered (take i order) classes
ordered_skips order classes i d l has = filter_more (has_class classes) order i d l
    ∙ ap (λ b. ordered (take i order) classes ++ cond b (get_or order i d ∷ []) []) has
    ∙ append-nil (ordered (take i order) classes)

-- classes in the order go on with the next one that the order has of them
goes_on_with : (order classes : List ℕ) (i d met : ℕ) → i < length order
    → has_class classes (get_or order i d) ≡ true → met ≤ length classes
    → ordered (take i order) classes ≡ take met classes → classes ≡ ordered order classes
    → drop met classes ≡ get_or order i d ∷ ordered (drop (i + 1) order) classes
goes_on_with order classes i d met l has within met_are is =
    let x : ℕ = get_or order i d in
    let rest : List ℕ = ordered (drop (i + 1) order) classes in
    let whole : classes ≡ take met classes ++ (x ∷ rest) =
    is ∙ ap (λ os. ordered os classes) (sym (take-append-drop (i + 1) order))
    ∙ filter-append (has_class classes) (take (i + 1) order) (drop (i + 1) order)
    ∙ ap (λ cs. cs ++ rest) (ordered_next order classes i d l has)
    ∙ append_assoc (ordered (take i order) classes) (x ∷ []) rest
    ∙ ap (λ cs. cs ++ (x ∷ rest)) met_are in
    ap (drop met) whole ∙ drop_at (take met classes) (x ∷ rest) met (length-take-le met classes within)

pub no_room : (order classes : List ℕ) (i d met : ℕ) → i < length order
    → has_class classes (get_or order i d) ≡ true → met ≤ length classes → length classes ≤ met
    → ordered (take i order) classes ≡ take met classes → classes ≡ ordered order classes → ⊥
no_room order classes i d met l has within full met_are is =
    let on = goes_on_with order classes i d met l has within met_are is in
    absurd (omega (arith, ap length on, length-drop met classes))

pub another : (order classes : List ℕ) (i d e met : ℕ) → i < length order
    → has_class classes (get_or order i d) ≡ true → met < length classes
    → get_or classes met e ≢ get_or order i d
    → ordered (take i order) classes ≡ take met classes → classes ≡ ordered order classes → ⊥
another order classes i d e met l has within other met_are is =
    let on = goes_on_with order classes i d met l has (omega arith) met_are is in
    let both : get_or classes met e ∷ drop (met + 1) classes ≡ get_or order i d
    ∷ ordered (drop (i + 1) order) classes = sym (drop_more classes met e within) ∙ on in
    let same : get_or classes met e ≡ get_or order i d = cc in
    other same

pub met_more_classes : (order classes : List ℕ) (i d e met : ℕ) → i < length order
    → has_class classes (get_or order i d) ≡ true → met < length classes
    → get_or classes met e ≡ get_or order i d → ordered (take i order) classes ≡ take met classes
    → ordered (take (i + 1) order) classes ≡ take (met + 1) classes
met_more_classes order classes i d e met l has within same met_are =
    ordered_next order classes i d l has
    ∙ (λ j. met_are j ++ (sym same) j ∷ [])
    ∙ sym (take_more classes met e within)

pub all_met : (order classes : List ℕ) (i met : ℕ) → length order ≤ i → met ≤ length classes
    → ordered (take i order) classes ≡ take met classes
    → (met ≡ length classes → classes ≡ ordered order classes)
    × (classes ≡ ordered order classes → met ≡ length classes)
all_met order classes i met l within met_are =
    let all : ordered order classes ≡ take met classes =
    ap (λ os. ordered os classes) (sym (take_all i order l)) ∙ met_are in (
      λ e. sym (all ∙ take_all met classes (omega arith)),
      λ is. omega (arith, ap length is, ap length all, length-take-le met classes within),
    )
