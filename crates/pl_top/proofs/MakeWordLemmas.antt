-- The words of `make`.
use Rattle.std.proofs.Common.{◌≡◌, ◌<◌, ◌^◌, ℕ, Bool, true, false, cond, ◌&&◌, List, Some, None, refl}
use Rattle.std.proofs.Common.{sym, ◌∙◌, ap, subst, arith, decimal, nat_le}
use Rattle.std.specs.Prelude.{Result, Ok}
use Rattle.std.specs.Str.{bytes_eq}
use Rattle.std.specs.Str.Parse.{digits_value, ParsesUnsigned}
use Rattle.std.proofs.lemmas.Bool.{and_from, and_parts, le-leb, leb-true}
use Rattle.std.proofs.lemmas.Result.{OkIff-at_ok}
use Rattle.std.proofs.lemmas.Slice.Eq.{bytes_eq-Decides}
use Rattle.std.proofs.lemmas.Fmt.{decimal_is_IsNumeral, parse-decimal}
use Rattle.pl_top.specs.Request.{start_of}

-- a word is the text of a number of 64 bits
pub started : (word : List ℕ) (n : ℕ) → n < 2 ^ 64 → word ≡ decimal n → Some n ≡ start_of word
started word n small is = by_value (digits_value 10 word)
    (ap (digits_value 10) is ∙ (decimal_is_IsNumeral n (omega (arith, small))).1)
  where
    by_value : (v : ℕ) → v ≡ n → Some n ≡ cond (nat_le v 18446744073709551615 && bytes_eq word (decimal v))
        (Some v) None
    by_value v same =
        let tests : (nat_le v 18446744073709551615 && bytes_eq word (decimal v)) ≡ true =
        and_from _ _ (le-leb v 18446744073709551615 (omega (arith, same, small)))
        ((bytes_eq-Decides word (decimal v)).1 (is ∙ ap decimal (sym same))) in
        ap Some (sym same) ∙ sym (ap (λ b. cond b (Some v) None) tests)

-- a word is the text of no such number
pub unstarted : {E : Type 0} (word : List ℕ) (r : Result ℕ E) → ParsesUnsigned 64 10 word r →
    ((n : ℕ) → r ≡ Ok n → word ≡ decimal n → ⊥) → None ≡ start_of word
unstarted word r parses refused =
    by_test (nat_le (digits_value 10 word) 18446744073709551615
    && bytes_eq word (decimal (digits_value 10 word))) refl
  where
    by_test : (b : Bool) →
        (nat_le (digits_value 10 word) 18446744073709551615 && bytes_eq word (decimal (digits_value 10 word)))
        ≡ b
        → None ≡ cond b (Some (digits_value 10 word)) None
    by_test false is = refl
    by_test true is =
        let parts : (nat_le (digits_value 10 word) 18446744073709551615 ≡ true)
        × (bytes_eq word (decimal (digits_value 10 word)) ≡ true) =
        and_parts (nat_le (digits_value 10 word) 18446744073709551615)
        (bytes_eq word (decimal (digits_value 10 word))) is in
        let small : digits_value 10 word < 2 ^ 64 =
        omega (arith, leb-true (digits_value 10 word) 18446744073709551615 parts.0) in
        let text = (bytes_eq-Decides word (decimal (digits_value 10 word))).0 parts.1 in
        absurd (refused (digits_value 10 word)
        (parse-decimal 64 _ word r small (omega (arith, small)) text parses) text)

-- the number that a text is parsed to has 64 bits
pub parsed_wide : {E : Type 0} (word : List ℕ) (r : Result ℕ E) (n : ℕ) → ParsesUnsigned 64 10 word r
    → r ≡ Ok n → n < 2 ^ 64
parsed_wide word r n parses is =
    let at = OkIff-at_ok r _ _ n parses is in
    subst (λ v. v < 2 ^ 64) (sym at.1) at.0.1
