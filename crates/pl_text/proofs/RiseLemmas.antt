-- The tokens of a file rise by place.
use Rattle.std.proofs.Common.{◌≡◌, ℕ, ◌+◌, ◌≤◌, Bool, true, false, eqb, List, [], ◌∷◌, ◌++◌, length, refl}
use Rattle.std.proofs.Common.{sym, subst, arith}
use Rattle.pl_text.specs.Bytes.{is_word_byte}
use Rattle.pl_text.specs.Comments.{shown}
use Rattle.pl_text.specs.Tokens.{Token, place_of, end_of, run_length, tokens_from, tokens, Rises}
use Rattle.pl_text.proofs.CommentLemmas.{length-view}
use Rattle.pl_text.proofs.TokenLemmas.{from-cons, from-word, from-inner, from-other, run_length-word}
use Rattle.pl_text.proofs.TokenLemmas.{run_length-other, token_by}

pub Rises-le : (low less high : ℕ) (all : List Token) → less ≤ low → Rises low high all → Rises less high all
Rises-le low less high [] le h = omega arith
Rises-le low less high (token ∷ rest) le h = (omega (arith, h.0), h.1, h.2)

pub run_length-le : (bytes : List ℕ) → run_length bytes ≤ length bytes
run_length-le [] = omega arith
run_length-le (b ∷ bytes) = by_test (is_word_byte b) refl (run_length-le bytes)
  where
    by_test : (t : Bool) → is_word_byte b ≡ t → run_length bytes ≤ length bytes →
        run_length (b ∷ bytes) ≤ length (b ∷ bytes)
    by_test true h le = omega (arith, run_length-word b bytes h)
    by_test false h le = omega (arith, run_length-other b bytes h)

-- a byte that is no word byte begins a bracket or nothing
rises_by : (at high : ℕ) (after : Bool) (bytes : List ℕ) (rest : List Token) (left right : Bool) →
    Rises (at + 1) high rest →
    Rises at high (token_by at after bytes false left right ++ rest)
rises_by at high after bytes rest true right h = (omega arith, omega arith, h)
rises_by at high after bytes rest false true h = (omega arith, omega arith, h)
rises_by at high after bytes rest false false h = Rises-le (at + 1) at high rest (omega arith) h

record Risen (at : ℕ) (bytes : List ℕ) : Type 0 where
  outside : Rises at (at + length bytes) (tokens_from at false bytes)
  in_word : Rises (at + run_length bytes) (at + length bytes) (tokens_from at true bytes)

risen : (at : ℕ) (bytes : List ℕ) → Risen at bytes
risen at [] = record { outside = omega arith; in_word = omega arith }
risen at (b ∷ bytes) = by_test (is_word_byte b) refl (risen (at + 1) bytes)
  where
    high : at + 1 + length bytes ≡ at + length (b ∷ bytes)
    high = omega arith

    by_test : (t : Bool) → is_word_byte b ≡ t → Risen (at + 1) bytes → Risen at (b ∷ bytes)
    by_test true h later =
        let inner : Rises (at + 1 + run_length bytes) (at + length (b ∷ bytes))
        (tokens_from (at + 1) true bytes) =
        subst (λ n. Rises (at + 1 + run_length bytes) n (tokens_from (at + 1) true bytes)) high later.in_word
        in
        record {
          outside = subst (Rises at (at + length (b ∷ bytes))) (sym (from-word at b bytes h))
              (omega arith, omega arith, inner);
          in_word =
              subst (λ n. Rises n (at + length (b ∷ bytes)) (tokens_from at true (b ∷ bytes)))
              (let e : at + 1 + run_length bytes ≡ at + run_length (b ∷ bytes) =
              omega (arith, run_length-word b bytes h) in e)
              (subst (Rises (at + 1 + run_length bytes) (at + length (b ∷ bytes)))
              (sym (from-inner at b bytes h)) inner);
        }
    by_test false h later =
        let rest : Rises (at + 1) (at + length (b ∷ bytes)) (tokens_from (at + 1) false bytes) =
        subst (λ n. Rises (at + 1) n (tokens_from (at + 1) false bytes)) high later.outside
        in
        let out : Rises at (at + length (b ∷ bytes)) (tokens_from at false (b ∷ bytes)) =
        subst (Rises at (at + length (b ∷ bytes)))
        (sym (from-cons at false b bytes false (eqb b 40) (eqb b 41) h refl refl))
        (rises_by at (at + length (b ∷ bytes)) false bytes (tokens_from (at + 1) false bytes) (eqb b 40)
        (eqb b 41) rest)
        in
        record {
          outside = out;
          in_word =
              subst (λ n. Rises n (at + length (b ∷ bytes)) (tokens_from at true (b ∷ bytes)))
              (let e : at ≡ at + run_length (b ∷ bytes) = omega (arith, run_length-other b bytes h) in e)
              (subst (Rises at (at + length (b ∷ bytes))) (sym (from-other at b bytes h)) out);
        }

-- from a place on
pub Rises-from : (at : ℕ) (bytes : List ℕ) → Rises at (at + length bytes) (tokens_from at false bytes)
Rises-from at bytes = (risen at bytes).outside

pub Rises-tokens : (bytes : List ℕ) → Rises 0 (length bytes) (tokens bytes)
Rises-tokens bytes =
    subst (λ n. Rises 0 n (tokens bytes))
    (let e : 0 + length (shown bytes) ≡ length bytes = omega (arith, length-view false bytes) in e)
    (Rises-from 0 (shown bytes))

-- each of rising tokens stands at or after the lower end
pub Rises-place : (low high : ℕ) (before : List Token) (token : Token) (rest : List Token) →
    Rises low high (before ++ token ∷ rest) →
    low ≤ place_of token
Rises-place low high [] token rest h = h.0
Rises-place low high (first ∷ before) token rest h =
    omega (arith, h.0, h.1, Rises-place (end_of first) high before token rest h.2)

-- rising tokens rise from each of them on
pub Rises-after : (low high : ℕ) (before : List Token) (token : Token) (rest : List Token) →
    Rises low high (before ++ token ∷ rest) →
    Rises (place_of token) high (token ∷ rest)
Rises-after low high [] token rest h = (omega arith, h.1, h.2)
Rises-after low high (first ∷ before) token rest h = Rises-after (end_of first) high before token rest h.2
