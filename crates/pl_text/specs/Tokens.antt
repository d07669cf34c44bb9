-- The tokens of a file: its brackets and its words, outside comments.
use Rattle.std.specs.Prelude.{◌≡◌, ℕ, ◌+◌, ◌<◌, ◌≤◌, ◌↔◌, ◌==◌, Bool, false, cond, List, [], ◌∷◌, ◌++◌}
use Rattle.std.specs.Prelude.{length, Contains, IsTrue}
use Rattle.pl_text.specs.declared.form.Span.{Span}
use Rattle.pl_text.specs.Bytes.{is_word_byte}
use Rattle.pl_text.specs.Comments.{HoldsByte, shown}

-- an open bracket or a close bracket at a place, or a word
pub data Token : Type 0 where
  Open : ℕ → Token
  Close : ℕ → Token
  Word : Span → Token

-- the place of a token's first byte
abbrev pub place_of : Token → ℕ
place_of (Open at) = at
place_of (Close at) = at
place_of (Word span) = span.from

-- one past the place of its last byte
abbrev pub end_of : Token → ℕ
end_of (Open at) = at + 1
end_of (Close at) = at + 1
end_of (Word span) = span.to

-- how many word bytes these bytes begin with
abbrev pub run_length : List ℕ → ℕ
run_length [] = 0
run_length (b ∷ bytes) = cond (is_word_byte b) (run_length bytes + 1) 0

-- the token that begins with the byte b at a place; `after` says whether a word byte stands before it
abbrev pub token_at : ℕ → Bool → ℕ → List ℕ → List Token
token_at at after b bytes =
    cond (is_word_byte b) (cond after [] (Word (record { from = at; to = at + 1 + run_length bytes }) ∷ []))
    (cond (b == 40) (Open at ∷ []) (cond (b == 41) (Close at ∷ []) []))

-- the tokens that begin in these bytes, of which the first stands at a place
abbrev pub tokens_from : ℕ → Bool → List ℕ → List Token
tokens_from at after [] = []
tokens_from at after (b ∷ bytes) = token_at at after b bytes ++ tokens_from (at + 1) (is_word_byte b) bytes

-- the tokens of a file
abbrev pub tokens : List ℕ → List Token
tokens bytes = tokens_from 0 false (shown bytes)

-- Position p holds a word byte, outside comments.
abbrev pub HoldsWordByte : List ℕ → ℕ → Type 0
HoldsWordByte bytes p = (b : ℕ) × HoldsByte bytes p b × IsTrue (is_word_byte b)

-- Each position of the span holds a word byte, and neither the one before it nor the one after it does.
pub record IsLongestRun (bytes : List ℕ) (span : Span) : Type 0 where
  pub some : span.from < span.to
  pub within : (p : ℕ) → span.from ≤ p → p < span.to → HoldsWordByte bytes p
  pub before : (p : ℕ) → p + 1 ≡ span.from → HoldsWordByte bytes p → ⊥
  pub after : HoldsWordByte bytes span.to → ⊥

-- a bracket outside comments, or a longest run of word bytes outside comments
abbrev pub IsToken : List ℕ → Token → Type 0
IsToken bytes (Open at) = HoldsByte bytes at 40
IsToken bytes (Close at) = HoldsByte bytes at 41
IsToken bytes (Word span) = IsLongestRun bytes span

-- Each token has a byte and ends before the next one begins, from `low` up to `high`.
abbrev pub Rises : ℕ → ℕ → List Token → Type 0
Rises low high [] = low ≤ high
Rises low high (token ∷ rest) = (low ≤ place_of token) × (place_of token < end_of token) ×
    Rises (end_of token) high rest

-- all tokens of a file, by rising place
pub record AreTokensOf (bytes : List ℕ) (found : List Token) : Type 0 where
  pub rising : Rises 0 (length bytes) found
  pub members : (token : Token) → Contains found token ↔ IsToken bytes token
