-- Words that are compared group by group.
use Rattle.std.proofs.Common.{◌≡◌, ℕ, ◌+◌, ◌-◌, ◌≤◌, Bool, true, false, not, List, length, nat_eq}
use Rattle.std.proofs.Common.{get_or, drop, inl, inr, refl, sym, ap, subst, ◌∙◌, arith}
use Rattle.std.specs.Cmp.Lexicographic.{pointwise}
use Rattle.std.proofs.lemmas.Bool.{cases_lt, false_from_ne_true}
use Rattle.std.proofs.lemmas.Bool.Decides.{Decides-eqb}
use Rattle.std.proofs.lemmas.Grind.{same_number_lists}
use Rattle.std.proofs.lemmas.List.{get_or-drop}
use Rattle.std.proofs.lemmas.Slice.Eq.{slice_eq-Decides}
use Rattle.pl_state.specs.Comparing.{AgreeBetween}

-- two lists of words
module _ (xs ys : List ℕ) where
  -- where they agree between these places and behind them, they agree
  pub agree_on : (from to at : ℕ) → from ≤ at → AgreeBetween 0 at xs ys → AgreeBetween from to xs ys →
      AgreeBetween 0 to xs ys
  agree_on from to at reaches before behind = λ i above below. elim (cases_lt i at) [
    | inl early ↦ before i above early
    | inr late ↦ behind i (omega arith) below
  ]

  -- where they agree behind the words before a place, they agree from there on
  pub agree_behind : (from count : ℕ) (left right : List ℕ) (found : Bool) → left ≡ drop from xs →
      right ≡ drop from ys →
      (found ≡ false → AgreeBetween 0 count left right) → found ≡ false →
      AgreeBetween from (from + count) xs ys
  agree_behind from count left right found left_is right_is alike none = λ i above below.
      let is : from + (i - from) ≡ i = omega arith in
      subst (λ n. get_or xs n 0 ≡ get_or ys n 0) is
      (sym (get_or-drop from xs (i - from) 0) ∙ sym (ap (λ l. get_or l (i - from) 0) left_is) ∙
      alike none (i - from) (omega arith) (omega arith) ∙ ap (λ l. get_or l (i - from) 0) right_is ∙
      get_or-drop from ys (i - from) 0)

  -- and are the same where they agree at each place
  pub agree_all : (to : ℕ) → length xs ≡ length ys → length xs ≤ to → AgreeBetween 0 to xs ys →
      true ≡ pointwise nat_eq xs ys
  agree_all to same past agree =
      sym ((slice_eq-Decides Decides-eqb xs ys (pointwise nat_eq xs ys) refl).1
      (same_number_lists xs ys same (λ i within. agree i (omega arith) (omega arith))))

  pub agree_not : (xs ≡ ys → ⊥) → false ≡ pointwise nat_eq xs ys
  agree_not apart =
      sym (false_from_ne_true (pointwise nat_eq xs ys)
      (λ h. apart ((slice_eq-Decides Decides-eqb xs ys (pointwise nat_eq xs ys) refl).0 h)))

  -- the last group decides
  pub last_decides : (at count : ℕ) (found : Bool) → count ≤ length xs → length xs ≡ length ys →
      length xs ≤ at + count → AgreeBetween 0 at xs ys → (found ≡ true → xs ≡ ys → ⊥) →
      (found ≡ false → AgreeBetween (length xs - count) (length xs - count + count) xs ys) →
      not found ≡ pointwise nat_eq xs ys
  last_decides at count true many same left before apart alike = agree_not (apart refl)
  last_decides at count false many same left before apart alike =
      agree_all (length xs - count + count) same (omega arith)
      (agree_on (length xs - count) (length xs - count + count) at (omega arith) before (alike refl))

  -- the first and the last words decide, where they are all
  pub ends_decide : (count : ℕ) (end other : List ℕ) (found : Bool) → count ≤ length xs →
      length xs ≡ length ys → length xs ≤ count + count → end ≡ drop (length xs - count) xs →
      other ≡ drop (length xs - count) ys → (found ≡ true → xs ≡ ys → end ≡ other → ⊥) →
      (found ≡ false → AgreeBetween 0 count xs ys) → (found ≡ false → AgreeBetween 0 count end other) →
      not found ≡ pointwise nat_eq xs ys
  ends_decide count end other true many same all end_is other_is apart first second =
      agree_not (λ is. apart refl is (end_is ∙ ap (drop (length xs - count)) is ∙ sym other_is))
  ends_decide count end other false many same all end_is other_is apart first second =
      agree_all (length xs - count + count) same (omega arith)
      (agree_on (length xs - count) (length xs - count + count) count (omega arith) (first refl)
      (agree_behind (length xs - count) count end other false end_is other_is second refl))
