-- How the tokens of the bytes from a place on are those that begin at the place and those from where these
-- end.
use Rattle.std.proofs.Common.{◌≡◌, ◌≢◌, ℕ, suc, ◌+◌, Bool, true, false, cond, eqb, List, [], ◌∷◌, ◌++◌, take}
use Rattle.std.proofs.Common.{drop, All, refl, sym, ap, ◌∙◌, subst, arith, add-one, add-zero}
use Rattle.std.proofs.lemmas.Bool.{false≢true}
use Rattle.std.proofs.lemmas.Bool.Decides.{nat_tests}
use Rattle.std.proofs.lemmas.List.Elements.{All-nil, All-cons}
use Rattle.pl_text.specs.Bytes.{is_blank, is_word_byte, is_bad_byte}
use Rattle.pl_text.specs.Comments.{shown, hidden}
use Rattle.pl_text.specs.Tokens.{Token, Open, Close, Word, run_length, tokens_from}
use Rattle.pl_text.specs.Scan.{line_length}

-- no bad byte among these
abbrev pub IsClean : List ℕ → Type 0
IsClean bytes = All (λ b. is_bad_byte b ≡ false) bytes

-- the token that begins at a place, by whether its byte is a word byte, `(` or `)`
abbrev pub token_by : ℕ → Bool → List ℕ → Bool → Bool → Bool → List Token
token_by at after bytes word left right =
    cond word (cond after [] (Word (record { from = at; to = at + 1 + run_length bytes }) ∷ []))
    (cond left (Open at ∷ []) (cond right (Close at ∷ []) []))

pub from-cons : (at : ℕ) (after : Bool) (b : ℕ) (bytes : List ℕ) (word left right : Bool) →
    is_word_byte b ≡ word → eqb b 40 ≡ left → eqb b 41 ≡ right →
    tokens_from at after (b ∷ bytes) ≡ token_by at after bytes word left right ++ tokens_from
    (at + 1) word bytes
from-cons at after b bytes word left right p q r =
    ap (λ t. token_by at after bytes t (eqb b 40) (eqb b 41) ++ tokens_from (at + 1) t bytes) p ∙
    ap (λ t. token_by at after bytes word t (eqb b 41) ++ tokens_from (at + 1) word bytes) q ∙
    ap (λ t. token_by at after bytes word left t ++ tokens_from (at + 1) word bytes) r

from-blank : (at : ℕ) (after : Bool) (b : ℕ) (bytes : List ℕ) → is_blank b ≡ true →
    tokens_from at after (b ∷ bytes) ≡ tokens_from (at + 1) false bytes
from-blank at after b bytes h =
    from-cons at after b bytes false false false (grind (arith, nat_tests)) (grind (arith, nat_tests))
    (grind (arith, nat_tests))

pub from-word : (at : ℕ) (b : ℕ) (bytes : List ℕ) → is_word_byte b ≡ true →
    tokens_from at false (b ∷ bytes) ≡ Word
    (record { from = at; to = at + 1 + run_length bytes }) ∷ tokens_from (at + 1) true bytes
from-word at b bytes h = from-cons at false b bytes true (eqb b 40) (eqb b 41) h refl refl

pub from-inner : (at : ℕ) (b : ℕ) (bytes : List ℕ) → is_word_byte b ≡ true →
    tokens_from at true (b ∷ bytes) ≡ tokens_from (at + 1) true bytes
from-inner at b bytes h = from-cons at true b bytes true (eqb b 40) (eqb b 41) h refl refl

-- a byte that is no word byte begins the same token after a word byte
pub from-other : (at : ℕ) (b : ℕ) (bytes : List ℕ) → is_word_byte b ≡ false →
    tokens_from at true (b ∷ bytes) ≡ tokens_from at false (b ∷ bytes)
from-other at b bytes h =
    from-cons at true b bytes false (eqb b 40) (eqb b 41) h refl refl ∙
    sym (from-cons at false b bytes false (eqb b 40) (eqb b 41) h refl refl)

pub run_length-word : (b : ℕ) (bytes : List ℕ) → is_word_byte b ≡ true →
    run_length (b ∷ bytes) ≡ run_length bytes + 1
run_length-word b bytes h = ap (λ t. cond t (run_length bytes + 1) 0) h

pub run_length-other : (b : ℕ) (bytes : List ℕ) → is_word_byte b ≡ false → run_length (b ∷ bytes) ≡ 0
run_length-other b bytes h = ap (λ t. cond t (run_length bytes + 1) 0) h

-- the rest of a word begins no token
from-run : (at : ℕ) (bytes : List ℕ) →
    tokens_from at true bytes ≡ tokens_from (at + run_length bytes) false (drop (run_length bytes) bytes)
from-run at [] = refl
from-run at (b ∷ bytes) = by_test (is_word_byte b) refl (from-run (at + 1) bytes)
  where
    by_test : (t : Bool) → is_word_byte b ≡ t →
        tokens_from (at + 1) true bytes ≡ tokens_from (at + 1 + run_length bytes) false
        (drop (run_length bytes) bytes) →
        tokens_from at true (b ∷ bytes) ≡ tokens_from (at + run_length (b ∷ bytes)) false
        (drop (run_length (b ∷ bytes)) (b ∷ bytes))
    by_test true h later =
        from-inner at b bytes h ∙ later ∙
        ap (λ p. tokens_from p false (drop (run_length bytes) bytes)) (omega arith) ∙
        sym (ap (λ n. tokens_from (at + n) false (drop n (b ∷ bytes)))
        (run_length-word b bytes h ∙ add-one (run_length bytes)))
    by_test false h later =
        from-other at b bytes h ∙
        ap (λ p. tokens_from p false (b ∷ bytes)) (sym (add-zero at)) ∙
        sym (ap (λ n. tokens_from (at + n) false (drop n (b ∷ bytes))) (run_length-other b bytes h))

-- what stands outside comments, past the first byte
pub shown-cons : (b : ℕ) (bytes : List ℕ) → b ≢ 59 → shown (b ∷ bytes) ≡ b ∷ shown bytes
shown-cons b bytes other =
    let none : eqb b 59 ≡ false = grind (arith, nat_tests) in
    ap (λ t. cond t (32 ∷ hidden bytes) (b ∷ shown bytes)) none

word_byte_is_shown : (b : ℕ) → is_word_byte b ≡ true → b ≢ 59
word_byte_is_shown b h is = false≢true (sym (ap is_word_byte is) ∙ h)

blank_is_shown : (b : ℕ) → is_blank b ≡ true → b ≢ 59
blank_is_shown b h is = false≢true (sym (ap is_blank is) ∙ h)

-- A reading goes on by n bytes of these, over the tokens `extra`.
pub record GoesOn (at n : ℕ) (bytes : List ℕ) (extra : List Token) : Type 0 where
  pub tokens : tokens_from at false (shown bytes) ≡ extra ++ tokens_from (at + n) false (shown (drop n bytes))
  pub shows : drop n (shown bytes) ≡ shown (drop n bytes)
  pub clean : IsClean (take n (shown bytes))

one_clean : (b : ℕ) → is_bad_byte b ≡ false → IsClean (b ∷ [])
one_clean b h = All-cons (λ b. is_bad_byte b ≡ false) b [] h (All-nil (λ b. is_bad_byte b ≡ false))

pub goes_on-open : (at : ℕ) (bytes : List ℕ) → GoesOn at 1 (40 ∷ bytes) (Open at ∷ [])
goes_on-open at bytes = record { tokens = refl; shows = refl; clean = one_clean 40 refl }

pub goes_on-close : (at : ℕ) (bytes : List ℕ) → GoesOn at 1 (41 ∷ bytes) (Close at ∷ [])
goes_on-close at bytes = record { tokens = refl; shows = refl; clean = one_clean 41 refl }

pub goes_on-blank : (at b : ℕ) (bytes : List ℕ) → is_blank b ≡ true → GoesOn at 1 (b ∷ bytes) []
goes_on-blank at b bytes h =
    let is = shown-cons b bytes (blank_is_shown b h) in
    record {
      tokens = ap (tokens_from at false) is ∙ from-blank at false b (shown bytes) h;
      shows = ap (drop 1) is;
      clean = subst (λ list. IsClean (take 1 list)) (sym is) (one_clean b (grind (arith, nat_tests)));
    }

-- a run of word bytes is shown as it is
record ShowsRun (bytes : List ℕ) : Type 0 where
  run : run_length (shown bytes) ≡ run_length bytes
  shows : drop (run_length bytes) (shown bytes) ≡ shown (drop (run_length bytes) bytes)
  clean : IsClean (take (run_length bytes) (shown bytes))

shows_run : (bytes : List ℕ) → ShowsRun bytes
shows_run [] = record { run = refl; shows = refl; clean = All-nil (λ b. is_bad_byte b ≡ false) }
shows_run (b ∷ bytes) = by_test (is_word_byte b) refl (shows_run bytes)
  where
    by_shown : (t : Bool) → is_word_byte b ≡ false → eqb b 59 ≡ t → run_length (shown (b ∷ bytes)) ≡ 0
    by_shown true h e =
        ap (λ t. run_length (cond t (32 ∷ hidden bytes) (b ∷ shown bytes))) e
    by_shown false h e =
        ap (λ t. run_length (cond t (32 ∷ hidden bytes) (b ∷ shown bytes))) e ∙
        run_length-other b (shown bytes) h

    by_test : (t : Bool) → is_word_byte b ≡ t → ShowsRun bytes → ShowsRun (b ∷ bytes)
    by_test true h later =
        let is = shown-cons b bytes (word_byte_is_shown b h) in
        let n : run_length (b ∷ bytes) ≡ suc (run_length bytes) = run_length-word b bytes h ∙
        add-one (run_length bytes) in
        record {
          run = ap run_length is ∙ run_length-word b (shown bytes) h ∙ ap (λ n. n + 1) later.run ∙
              sym (run_length-word b bytes h);
          shows = ap (λ n. drop n (shown (b ∷ bytes))) n ∙ ap (drop (suc (run_length bytes))) is ∙
              later.shows ∙ sym (ap (λ n. shown (drop n (b ∷ bytes))) n);
          clean =
              subst (λ n. IsClean (take n (shown (b ∷ bytes)))) (sym n)
              (subst (λ list. IsClean (take (suc (run_length bytes)) list)) (sym is)
              (All-cons (λ b. is_bad_byte b ≡ false) b _ (grind (arith, nat_tests)) later.clean));
        }
    by_test false h later =
        let n = run_length-other b bytes h in
        record {
          run = by_shown (eqb b 59) h refl ∙ sym n;
          shows = ap (λ n. drop n (shown (b ∷ bytes))) n ∙ sym (ap (λ n. shown (drop n (b ∷ bytes))) n);
          clean = subst (λ n. IsClean (take n (shown (b ∷ bytes)))) (sym n)
              (All-nil (λ b. is_bad_byte b ≡ false));
        }

pub goes_on-word : (at b : ℕ) (bytes : List ℕ) → is_word_byte b ≡ true →
    GoesOn at (run_length (b ∷ bytes)) (b ∷ bytes)
    (Word (record { from = at; to = at + run_length (b ∷ bytes) }) ∷ [])
goes_on-word at b bytes h =
    let is = shown-cons b bytes (word_byte_is_shown b h) in
    let run = shows_run (b ∷ bytes) in
    let later = shows_run bytes in
    let n : run_length (b ∷ bytes) ≡ suc (run_length bytes) = run_length-word b bytes h ∙
    add-one (run_length bytes) in
    record {
      tokens =
          ap (tokens_from at false) is ∙
          from-word at b (shown bytes) h ∙
          ap (λ p. Word (record { from = at; to = p }) ∷ tokens_from (at + 1) true (shown bytes))
          (omega (arith, n, later.run)) ∙
          ap (λ rest. Word (record { from = at; to = at + run_length (b ∷ bytes) }) ∷ rest)
          (from-run (at + 1) (shown bytes) ∙
          ap (λ n. tokens_from (at + 1 + n) false (drop n (shown bytes))) later.run ∙
          ap (λ p. tokens_from p false (drop (run_length bytes) (shown bytes))) (omega (arith, n)) ∙
          ap (tokens_from (at + run_length (b ∷ bytes)) false)
          (later.shows ∙ sym (ap (λ n. shown (drop n (b ∷ bytes))) n)));
      shows = run.shows;
      clean = run.clean;
    }

line_length-end : (b : ℕ) (bytes : List ℕ) → b ≡ 10 → line_length (b ∷ bytes) ≡ 0
line_length-end b bytes h = ap (λ x. line_length (x ∷ bytes)) h

pub line_length-more : (b : ℕ) (bytes : List ℕ) → eqb b 10 ≡ false →
    line_length (b ∷ bytes) ≡ suc (line_length bytes)
line_length-more b bytes h = ap (λ t. cond t 0 (line_length bytes + 1)) h ∙ add-one (line_length bytes)

-- the rest of a comment is hidden
record Hides (at : ℕ) (bytes : List ℕ) : Type 0 where
  tokens : tokens_from at false (hidden bytes) ≡ tokens_from (at + line_length bytes) false
      (shown (drop (line_length bytes) bytes))
  shows : drop (line_length bytes) (hidden bytes) ≡ shown (drop (line_length bytes) bytes)
  clean : IsClean (take (line_length bytes) (hidden bytes))

hides : (at : ℕ) (bytes : List ℕ) → Hides at bytes
hides at [] = record { tokens = refl; shows = refl; clean = All-nil (λ b. is_bad_byte b ≡ false) }
hides at (b ∷ bytes) = by_test (eqb b 10) refl (hides (at + 1) bytes)
  where
    by_test : (t : Bool) → eqb b 10 ≡ t → Hides (at + 1) bytes → Hides at (b ∷ bytes)
    by_test true h later =
        let is : b ≡ 10 = grind (arith, nat_tests) in
        let n = line_length-end b bytes is in
        let same : hidden (b ∷ bytes) ≡ shown (b ∷ bytes) = ap (λ x. hidden (x ∷ bytes)) is ∙
        sym (ap (λ x. shown (x ∷ bytes)) is) in
        record {
          tokens =
              ap (tokens_from at false) same ∙
              ap (λ p. tokens_from p false (shown (b ∷ bytes))) (sym (add-zero at)) ∙
              sym (ap (λ n. tokens_from (at + n) false (shown (drop n (b ∷ bytes)))) n);
          shows = ap (λ n. drop n (hidden (b ∷ bytes))) n ∙ same ∙
              sym (ap (λ n. shown (drop n (b ∷ bytes))) n);
          clean = subst (λ n. IsClean (take n (hidden (b ∷ bytes)))) (sym n)
              (All-nil (λ b. is_bad_byte b ≡ false));
        }
    by_test false h later =
        let n = line_length-more b bytes h in
        let is : hidden (b ∷ bytes) ≡ 32 ∷ hidden bytes =
        ap (λ t. cond t (10 ∷ shown bytes) (32 ∷ hidden bytes)) h in
        record {
          tokens =
              ap (tokens_from at false) is ∙
              from-blank at false 32 (hidden bytes) refl ∙
              later.tokens ∙
              ap (λ p. tokens_from p false (shown (drop (line_length bytes) bytes))) (omega (arith, n)) ∙
              ap (tokens_from (at + line_length (b ∷ bytes)) false)
              (sym (ap (λ n. shown (drop n (b ∷ bytes))) n));
          shows = ap (λ n. drop n (hidden (b ∷ bytes))) n ∙ ap (drop (suc (line_length bytes))) is ∙
              later.shows ∙ sym (ap (λ n. shown (drop n (b ∷ bytes))) n);
          clean =
              subst (λ n. IsClean (take n (hidden (b ∷ bytes)))) (sym n)
              (subst (λ list. IsClean (take (suc (line_length bytes)) list)) (sym is)
              (All-cons (λ b. is_bad_byte b ≡ false) 32 _ refl later.clean));
        }

pub goes_on-comment : (at : ℕ) (bytes : List ℕ) → GoesOn at (line_length (59 ∷ bytes)) (59 ∷ bytes) []
goes_on-comment at bytes =
    let later = hides (at + 1) bytes in
    let n : line_length (59 ∷ bytes) ≡ suc (line_length bytes) = add-one (line_length bytes) in
    record {
      tokens =
          from-blank at false 32 (hidden bytes) refl ∙
          later.tokens ∙
          ap (λ p. tokens_from p false (shown (drop (line_length bytes) bytes))) (omega (arith, n)) ∙
          ap (tokens_from (at + line_length (59 ∷ bytes)) false)
          (sym (ap (λ n. shown (drop n (59 ∷ bytes))) n));
      shows = ap (λ n. drop n (32 ∷ hidden bytes)) n ∙ later.shows ∙
          sym (ap (λ n. shown (drop n (59 ∷ bytes))) n);
      clean =
          subst (λ n. IsClean (take n (32 ∷ hidden bytes))) (sym n)
          (All-cons (λ b. is_bad_byte b ≡ false) 32 _ refl later.clean);
    }
