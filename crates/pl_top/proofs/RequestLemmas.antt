-- The words of a request, by their places.
use Rattle.std.proofs.Common.{◌≡◌, ◌<◌, ◌+◌, ◌^◌, ℕ, Bool, true, false, not, cond, ◌&&◌, List, [], ◌∷◌}
use Rattle.std.proofs.Common.{length, drop, slice_get, Option, Some, None, refl, sym, ◌∙◌, ap, subst, arith}
use Rattle.std.proofs.Common.{decimal, nat_le, length-drop}
use Rattle.std.specs.Prelude.{Result, Ok}
use Rattle.std.specs.Str.{bytes_eq}
use Rattle.std.specs.Str.Parse.{digits_value, ParsesUnsigned}
use Rattle.std.proofs.lemmas.Bool.{and_from, and_parts, le-leb, leb-true}
use Rattle.std.proofs.lemmas.List.{drop_more}
use Rattle.std.proofs.lemmas.Option.{slice_get_within, get_or_from_slice_get}
use Rattle.std.proofs.lemmas.Result.{OkIff-at_ok}
use Rattle.std.proofs.lemmas.Slice.Eq.{bytes_eq-Decides}
use Rattle.std.proofs.lemmas.Fmt.{decimal_is_IsNumeral, parse-decimal}
use Rattle.pl_top.specs.Request.{Options, Validate, validate_of, is_file_name, with_all, with_option}
use Rattle.pl_top.specs.Request.{count_of}

-- what is not refuted is true
pub not_refuted : (b : Bool) → false ≡ not b → b ≡ true
not_refuted true h = refl
not_refuted false h = cc

-- four words, by their places
four : (words : List (List ℕ)) (b c d : List ℕ) → length words ≡ 4 → slice_get words 1 ≡ Some b →
    slice_get words 2 ≡ Some c → slice_get words 3 ≡ Some d → drop 1 words ≡ b ∷ c ∷ d ∷ []
four (w ∷ x ∷ y ∷ z ∷ []) b c d many q r s = cc
four [] b c d many q r s = cc
four (w ∷ []) b c d many q r s = cc
four (w ∷ x ∷ []) b c d many q r s = cc
four (w ∷ x ∷ y ∷ []) b c d many q r s = cc
four (w ∷ x ∷ y ∷ z ∷ more ∷ rest) b c d many q r s = absurd (omega arith)

-- the words that ask for a judgement
pub validates : (words : List (List ℕ)) (domain problem plan : List ℕ) → length words ≡ 4 →
    slice_get words 1 ≡ Some domain → slice_get words 2 ≡ Some problem → slice_get words 3 ≡ Some plan →
    is_file_name domain ≡ true → is_file_name problem ≡ true → is_file_name plan ≡ true →
    Some (Validate domain problem plan) ≡ validate_of (drop 1 words)
validates words domain problem plan many q r s d e f =
    let are = four words domain problem plan many q r s in
    let tests : (is_file_name domain && is_file_name problem && is_file_name plan) ≡ true =
    and_from _ _ (and_from _ _ d e) f in
    sym (ap validate_of are ∙ ap (λ t. cond t (Some (Validate domain problem plan)) None) tests)

-- a word and those behind it, by its place
pub at_place : (words : List (List ℕ)) (i next : ℕ) (w : List ℕ) → next ≡ i + 1 → slice_get words i ≡ Some w
    → drop i words ≡ w ∷ drop next words
at_place words i next w is h =
    drop_more words i w (slice_get_within words i w h)
    ∙ ap (λ (x : List ℕ). x ∷ drop (i + 1) words) (get_or_from_slice_get words i w w h)
    ∙ ap (λ (n : ℕ). w ∷ drop n words) (sym is)

-- two words and those behind them
pub two_places : (words : List (List ℕ)) (i : ℕ) (v w : List ℕ) → slice_get words i ≡ Some v
    → slice_get words (i + 1) ≡ Some w →
    drop i words ≡ v ∷ w ∷ drop (i + 2) words
two_places words i v w first second =
    at_place words i (i + 1) v refl first
    ∙ ap (λ (l : List (List ℕ)). v ∷ l) (at_place words (i + 1) (i + 2) w (omega arith) second)

-- where the options before two words are refused, or are these, so are all
pub next_option : (words : List (List ℕ)) (i : ℕ) (name value : List ℕ) (old : Options)
    (found : Option Options) (all : Option Options) →
    slice_get words i ≡ Some name → slice_get words (i + 1) ≡ Some value
    → found ≡ with_option old name value →
    with_all (drop i words) (Some old) ≡ all → with_all (drop (i + 2) words) found ≡ all
next_option words i name value old found all first second is so_far =
    ap (with_all (drop (i + 2) words)) is
    ∙ sym (ap (λ (l : List (List ℕ)). with_all l (Some old)) (two_places words i name value first second))
    ∙ so_far

-- no options come from refused ones
none_of_none : (words : List (List ℕ)) → with_all words None ≡ None
none_of_none [] = refl
none_of_none (w ∷ []) = refl
none_of_none (v ∷ w ∷ words) = refl

-- two words that are no option
pub no_option : (words : List (List ℕ)) (i : ℕ) (name value : List ℕ) (old : Options) (found : Option Options)
    (all : Option Options) →
    slice_get words i ≡ Some name → slice_get words (i + 1) ≡ Some value → found ≡ with_option old name value
    → found ≡ None →
    with_all (drop i words) (Some old) ≡ all → None ≡ all
no_option words i name value old found all first second is none so_far =
    sym (none_of_none (drop (i + 2) words)) ∙ ap (with_all (drop (i + 2) words)) (sym none)
    ∙ next_option words i name value old found all first second is so_far

-- one word is left
pub odd_word : (words : List (List ℕ)) (old : Options) (all : Option Options) → length words ≡ 1
    → with_all words (Some old) ≡ all → None ≡ all
odd_word [] old all one h = absurd (cc one)
odd_word (w ∷ []) old all one h = h
odd_word (v ∷ w ∷ words) old all one h = absurd (omega (arith, one))

-- how many words are left
pub left_over : (words : List (List ℕ)) (i : ℕ) → length words ≡ i + 1 → length (drop i words) ≡ 1
left_over words i many = omega (arith, many, length-drop {A = List ℕ} i words)

-- no word is left
pub no_word : (words : List (List ℕ)) (old : Options) (all : Option Options) → length words ≡ 0
    → with_all words (Some old) ≡ all → Some old ≡ all
no_word [] old all none h = h
no_word (w ∷ words) old all none h = absurd (omega (arith, none))

-- a word is the text of a number
pub counted : (word : List ℕ) (n : ℕ) → n < 2 ^ 32 → word ≡ decimal n → Some n ≡ count_of word
counted word n small is = by_value (digits_value 10 word)
    (ap (digits_value 10) is ∙ (decimal_is_IsNumeral n (omega (arith, small))).1)
  where
    by_value : (v : ℕ) → v ≡ n → Some n ≡ cond (nat_le v 4294967295 && bytes_eq word (decimal v))
        (Some v) None
    by_value v same =
        let tests : (nat_le v 4294967295 && bytes_eq word (decimal v)) ≡ true =
        and_from _ _ (le-leb v 4294967295 (omega (arith, same, small)))
        ((bytes_eq-Decides word (decimal v)).1 (is ∙ ap decimal (sym same))) in
        ap Some (sym same) ∙ sym (ap (λ b. cond b (Some v) None) tests)

-- a word is the text of no number
pub uncounted : {E : Type 0} (word : List ℕ) (r : Result ℕ E) → ParsesUnsigned 32 10 word r →
    ((n : ℕ) → r ≡ Ok n → word ≡ decimal n → ⊥) → None ≡ count_of word
uncounted word r parses refused =
    by_test (nat_le (digits_value 10 word) 4294967295 && bytes_eq word (decimal (digits_value 10 word))) refl
  where
    by_test : (b : Bool)
        → (nat_le (digits_value 10 word) 4294967295 && bytes_eq word (decimal (digits_value 10 word))) ≡ b
        → None ≡ cond b (Some (digits_value 10 word)) None
    by_test false is = refl
    by_test true is =
        let parts : (nat_le (digits_value 10 word) 4294967295 ≡ true)
        × (bytes_eq word (decimal (digits_value 10 word)) ≡ true) =
        and_parts (nat_le (digits_value 10 word) 4294967295) (bytes_eq word (decimal (digits_value 10 word)))
        is in
        let small : digits_value 10 word < 2 ^ 32 =
        omega (arith, leb-true (digits_value 10 word) 4294967295 parts.0) in
        let text = (bytes_eq-Decides word (decimal (digits_value 10 word))).0 parts.1 in
        absurd (refused (digits_value 10 word)
        (parse-decimal 32 _ word r small (omega (arith, small)) text parses) text)

-- the number that a text is parsed to is small
pub parsed_small : {E : Type 0} (word : List ℕ) (r : Result ℕ E) (n : ℕ) → ParsesUnsigned 32 10 word r
    → r ≡ Ok n → n < 2 ^ 32
parsed_small word r n parses is =
    let at = OkIff-at_ok r _ _ n parses is in
    subst (λ v. v < 2 ^ 32) (sym at.1) at.0.1

-- texts that differ are not equal, and others are
pub differs : (a b : List ℕ) → true ≡ not (bytes_eq a b) → a ≡ b → ⊥
differs a b h is =
    let same : bytes_eq a b ≡ true = (bytes_eq-Decides a b).1 is in
    absurd (cc (h, same))

pub same_text : (a b : List ℕ) → false ≡ not (bytes_eq a b) → a ≡ b
same_text a b h = (bytes_eq-Decides a b).0 (not_refuted _ h)
