-- The tokens of a file, position by position.
use Rattle.std.proofs.Common.{◌≡◌, ◌≢◌, ◌⊎◌, ℕ, zero, suc, ◌+◌, ◌-◌, ◌<◌, ◌≤◌, Bool, true, false, eqb, List}
use Rattle.std.proofs.Common.{[], ◌∷◌, length, drop, refl, sym, ap, ◌∙◌, subst, arith, inl, inr, add-one}
use Rattle.std.proofs.Common.{Some, slice_get, Contains}
use Rattle.std.proofs.lemmas.Bool.{false≢true, cases_lt}
use Rattle.std.proofs.lemmas.Bool.Decides.{nat_tests}
use Rattle.std.proofs.lemmas.List.Elements.{Contains-append_left, Contains-append_right}
use Rattle.std.proofs.lemmas.List.Elements.{Contains-append_cases}
use Rattle.std.proofs.lemmas.Option.{none-some, same_Some, slice_get_within}
use Rattle.pl_text.specs.declared.form.Span.{Span}
use Rattle.pl_text.specs.Bytes.{is_word_byte}
use Rattle.pl_text.specs.Comments.{HoldsByte, shown}
use Rattle.pl_text.specs.Tokens.{Token, Open, Close, Word, place_of, end_of, Rises, run_length, token_at}
use Rattle.pl_text.specs.Tokens.{tokens_from, tokens, HoldsWordByte, IsLongestRun, IsToken, AreTokensOf}
use Rattle.pl_text.proofs.CommentLemmas.{shown-cases, length-view}
use Rattle.pl_text.proofs.TokenLemmas.{token_by, run_length-word, run_length-other}
use Rattle.pl_text.proofs.RiseLemmas.{Rises-tokens}

-- the byte before position k is a word byte, where `after` says so of the first position
abbrev follows_word : Bool → List ℕ → ℕ → Bool
follows_word after bytes zero = after
follows_word after [] (suc k) = false
follows_word after (b ∷ bytes) (suc k) = follows_word (is_word_byte b) bytes k

-- a token that begins at position k of these bytes
record Begins (at : ℕ) (after : Bool) (bytes : List ℕ) (token : Token) : Type 0 where
  k : ℕ
  byte : ℕ
  holds : slice_get bytes k ≡ Some byte
  begins : Contains (token_at (at + k) (follows_word after bytes k) byte (drop (suc k) bytes)) token

none_contained : {A : Type 0} (x : A) → Contains [] x → ⊥
none_contained x h = omega (arith, h.1)

begins-from : (at : ℕ) (after : Bool) (bytes : List ℕ) (token : Token) →
    Contains (tokens_from at after bytes) token → Begins at after bytes token
begins-from at after [] token h = absurd (none_contained token h)
begins-from at after (b ∷ bytes) token h =
    elim (Contains-append_cases (token_at at after b bytes)
    (tokens_from (at + 1) (is_word_byte b) bytes) token h) [
      | inl first ↦ record {
        k = 0;
        byte = b;
        holds = refl;
        begins = subst (λ p. Contains (token_at p after b bytes) token)
            (let e : at ≡ at + 0 = omega arith in e) first;
      }
      | inr later ↦
          let r = begins-from (at + 1) (is_word_byte b) bytes token later in
          record {
            k = suc r.k;
            byte = r.byte;
            holds = r.holds;
            begins =
                subst (λ p. Contains (token_at p (follows_word (is_word_byte b) bytes r.k) r.byte
                (drop (suc r.k) bytes)) token)
                (let e : at + 1 + r.k ≡ at + suc r.k = omega arith in e) r.begins;
          }
    ]

begins-to : (at : ℕ) (after : Bool) (bytes : List ℕ) (token : Token) (k byte : ℕ) →
    slice_get bytes k ≡ Some byte →
    Contains (token_at (at + k) (follows_word after bytes k) byte (drop (suc k) bytes)) token →
    Contains (tokens_from at after bytes) token
begins-to at after [] token k byte holds h = absurd (none-some byte holds)
begins-to at after (b ∷ bytes) token zero byte holds h =
    Contains-append_left (token_at at after b bytes) (tokens_from (at + 1) (is_word_byte b) bytes) token
    (subst (λ p. Contains (token_at p after b bytes) token) (let e : at + 0 ≡ at = omega arith in e)
    (subst (λ x. Contains (token_at (at + 0) after x bytes) token) (sym (same_Some b byte holds)) h))
begins-to at after (b ∷ bytes) token (suc k) byte holds h =
    Contains-append_right (token_at at after b bytes) (tokens_from (at + 1) (is_word_byte b) bytes) token
    (begins-to (at + 1) (is_word_byte b) bytes token k byte holds
    (subst (λ p. Contains
    (token_at p (follows_word (is_word_byte b) bytes k) byte (drop (suc k) bytes)) token)
    (let e : at + suc k ≡ at + 1 + k = omega arith in e) h))

-- what a token that begins with a byte is
abbrev IsBegun : ℕ → Bool → ℕ → List ℕ → Token → Type 0
IsBegun at after b bytes (Open p) = (b ≡ 40) × (at ≡ p)
IsBegun at after b bytes (Close p) = (b ≡ 41) × (at ≡ p)
IsBegun at after b bytes (Word span) =
    (is_word_byte b ≡ true) × (after ≡ false) × (span ≡ record { from = at; to = at + 1 + run_length bytes })

only : {A : Type 0} (x y : A) → Contains (x ∷ []) y → x ≡ y
only x y (zero, lt, e) = e
only x y (suc k, lt, e) = absurd (omega arith)

itself : {A : Type 0} (x : A) → Contains (x ∷ []) x
itself x = (0, omega arith, refl)

begun_by : (at : ℕ) (after : Bool) (b : ℕ) (bytes : List ℕ) (token : Token) (word left right : Bool) →
    is_word_byte b ≡ word →
    eqb b 40 ≡ left → eqb b 41 ≡ right → Contains (token_by at after bytes word left right) token →
    IsBegun at after b bytes token
begun_by at true b bytes token true left right p q r h = absurd (none_contained token h)
begun_by at false b bytes token true left right p q r h =
    subst (IsBegun at false b bytes) (only _ token h) (p, refl, refl)
begun_by at after b bytes token false true right p q r h =
    subst (IsBegun at after b bytes) (only _ token h) ((grind (arith, nat_tests)), refl)
begun_by at after b bytes token false false true p q r h =
    subst (IsBegun at after b bytes) (only _ token h) ((grind (arith, nat_tests)), refl)
begun_by at after b bytes token false false false p q r h = absurd (none_contained token h)

begun : (at : ℕ) (after : Bool) (b : ℕ) (bytes : List ℕ) (token : Token) →
    Contains (token_at at after b bytes) token →
    IsBegun at after b bytes token
begun at after b bytes token h =
    begun_by at after b bytes token (is_word_byte b) (eqb b 40) (eqb b 41) refl refl refl h

begin : (at : ℕ) (after : Bool) (b : ℕ) (bytes : List ℕ) (token : Token) → IsBegun at after b bytes token →
    Contains (token_at at after b bytes) token
begin at after b bytes (Open p) (is, same) =
    subst (λ p. Contains (token_at at after b bytes) (Open p)) same
    (subst (λ b. Contains (token_at at after b bytes) (Open at)) (sym is) (itself (Open at)))
begin at after b bytes (Close p) (is, same) =
    subst (λ p. Contains (token_at at after b bytes) (Close p)) same
    (subst (λ b. Contains (token_at at after b bytes) (Close at)) (sym is) (itself (Close at)))
begin at after b bytes (Word span) (word, first, same) =
    subst (λ span. Contains (token_at at after b bytes) (Word span)) (sym same)
    (subst (λ after. Contains (token_at at after b bytes)
    (Word (record { from = at; to = at + 1 + run_length bytes }))) (sym first)
    (subst (λ t. Contains (token_by at false bytes t (eqb b 40) (eqb b 41))
    (Word (record { from = at; to = at + 1 + run_length bytes })))
    (sym word) (itself (Word (record { from = at; to = at + 1 + run_length bytes })))))

-- a byte other than a blank is shown where it is held outside comments
pub holds-shown : (bytes : List ℕ) (p b : ℕ) → HoldsByte bytes p b → slice_get (shown bytes) p ≡ Some b
holds-shown bytes p b h =
    elim (shown-cases bytes p b h.0) [ inl c ↦ absurd (h.1 c.1) | inr c ↦ c.0 ]

some_at : (bytes : List ℕ) (p : ℕ) → p < length bytes → (b : ℕ) × (slice_get bytes p ≡ Some b)
some_at [] p lt = absurd (omega arith)
some_at (b ∷ bytes) zero lt = (b, refl)
some_at (b ∷ bytes) (suc p) lt = some_at bytes p (omega arith)

pub shown-holds : (bytes : List ℕ) (p b : ℕ) → b ≢ 32 → slice_get (shown bytes) p ≡ Some b →
    HoldsByte bytes p b
shown-holds bytes p b other shows =
    let within = slice_get_within (shown bytes) p b shows in
    let held = some_at bytes p (omega (arith, within, length-view false bytes)) in
    elim (shown-cases bytes p held.0 held.1) [
      | inl c ↦ absurd (other (same_Some b 32 (sym shows ∙ c.0)))
      | inr c ↦
          let same = same_Some held.0 b (sym c.0 ∙ shows) in
          (held.1 ∙ ap Some same, c.1)
    ]

word_byte_other : (b : ℕ) → is_word_byte b ≡ true → b ≢ 32
word_byte_other b h is = false≢true (sym (ap is_word_byte is) ∙ h)

-- a position of what is shown that holds a word byte
abbrev ShowsWordByte : List ℕ → ℕ → Type 0
ShowsWordByte bytes p = (b : ℕ) × (slice_get bytes p ≡ Some b) × (is_word_byte b ≡ true)

word_shown : (bytes : List ℕ) (p : ℕ) → HoldsWordByte bytes p → ShowsWordByte (shown bytes) p
word_shown bytes p (b, holds, word) = (b, holds-shown bytes p b holds, word)

word_held : (bytes : List ℕ) (p : ℕ) → ShowsWordByte (shown bytes) p → HoldsWordByte bytes p
word_held bytes p (b, shows, word) = (b, shown-holds bytes p b (word_byte_other b word) shows, word)

-- the run at the front holds word bytes, and what follows it is none
run-holds : (bytes : List ℕ) (j : ℕ) → j < run_length bytes → ShowsWordByte bytes j
run-holds [] j lt = absurd (omega arith)
run-holds (b ∷ bytes) zero lt = by_test (is_word_byte b) refl
  where
    by_test : (t : Bool) → is_word_byte b ≡ t → ShowsWordByte (b ∷ bytes) 0
    by_test true h = (b, refl, h)
    by_test false h = absurd (omega (arith, lt, run_length-other b bytes h))
run-holds (b ∷ bytes) (suc j) lt = by_test (is_word_byte b) refl (run-holds bytes j)
  where
    by_test : (t : Bool) → is_word_byte b ≡ t → (j < run_length bytes → ShowsWordByte bytes j) →
        ShowsWordByte (b ∷ bytes) (suc j)
    by_test true h later = later (omega (arith, lt, run_length-word b bytes h))
    by_test false h later = absurd (omega (arith, lt, run_length-other b bytes h))

run-ends : (bytes : List ℕ) → ShowsWordByte bytes (run_length bytes) → ⊥
run-ends [] (b, shows, word) = none-some b shows
run-ends (b ∷ bytes) h = by_test (is_word_byte b) refl h (run-ends bytes)
  where
    by_test : (t : Bool) → is_word_byte b ≡ t → ShowsWordByte (b ∷ bytes) (run_length (b ∷ bytes)) →
        (ShowsWordByte bytes (run_length bytes) → ⊥) → ⊥
    by_test true e h later =
        later (subst (ShowsWordByte (b ∷ bytes)) (run_length-word b bytes e ∙ add-one (run_length bytes)) h)
    by_test false e h later =
        let at = subst (ShowsWordByte (b ∷ bytes)) (run_length-other b bytes e) h in
        false≢true (sym e ∙ ap is_word_byte (same_Some b at.0 at.1) ∙ at.2)

slice_get-drop : (bytes : List ℕ) (n j : ℕ) → slice_get (drop n bytes) j ≡ slice_get bytes (n + j)
slice_get-drop bytes zero j = ap (slice_get bytes) (let e : j ≡ 0 + j = omega arith in e)
slice_get-drop [] (suc n) j = refl
slice_get-drop (b ∷ bytes) (suc n) j =
    slice_get-drop bytes n j ∙ ap (slice_get (b ∷ bytes)) (let e : suc (n + j) ≡ suc n + j = omega arith in e)

follows-shows : (after : Bool) (bytes : List ℕ) (p : ℕ) → ShowsWordByte bytes p →
    follows_word after bytes (suc p) ≡ true
follows-shows after [] p (b, shows, word) = absurd (none-some b shows)
follows-shows after (x ∷ bytes) zero (b, shows, word) = ap is_word_byte (same_Some x b shows) ∙ word
follows-shows after (x ∷ bytes) (suc p) (b, shows, word) =
    follows-shows (is_word_byte x) bytes p (b, shows, word)

shows-follows : (after : Bool) (bytes : List ℕ) (p : ℕ) → follows_word after bytes (suc p) ≡ true →
    ShowsWordByte bytes p
shows-follows after [] p h = absurd (false≢true h)
shows-follows after (x ∷ bytes) zero h = (x, refl, h)
shows-follows after (x ∷ bytes) (suc p) h = shows-follows (is_word_byte x) bytes p h

-- a run of what is shown that begins at position k
module _ (bytes : List ℕ) (k b : ℕ) (shows : slice_get (shown bytes) k ≡ Some b)
    (word : is_word_byte b ≡ true) where
  inner : (p : ℕ) → k < p → p < k + 1 + run_length (drop (suc k) (shown bytes)) →
      ShowsWordByte (shown bytes) p
  inner p above below =
      let h = run-holds (drop (suc k) (shown bytes)) (p - suc k) (omega arith) in (
        h.0,
        ap (slice_get (shown bytes)) (let e : p ≡ suc k + (p - suc k) = omega arith in e) ∙
            sym (slice_get-drop (shown bytes) (suc k) (p - suc k)) ∙ h.1,
        h.2,
      )

  in_run : (p : ℕ) → k ≤ p → p < k + 1 + run_length (drop (suc k) (shown bytes)) →
      ShowsWordByte (shown bytes) p
  in_run p above below =
      elim (cases_lt k p) [
        | inl lt ↦ inner p lt below
        | inr ge ↦ (b, ap (slice_get (shown bytes)) (let e : p ≡ k = omega arith in e) ∙ shows, word)
      ]

  past_run : ShowsWordByte (shown bytes) (k + 1 + run_length (drop (suc k) (shown bytes))) → ⊥
  past_run (c, at, is) =
      run-ends (drop (suc k) (shown bytes)) (
        c,
        slice_get-drop (shown bytes) (suc k) (run_length (drop (suc k) (shown bytes))) ∙
            ap (slice_get (shown bytes))
            (let e : suc k + run_length (drop (suc k) (shown bytes)) ≡ k + 1 + run_length
            (drop (suc k) (shown bytes)) = omega arith in e) ∙
            at,
        is,
      )

  -- where no word byte stands before it, it is a longest one
  longest : follows_word false (shown bytes) k ≡ false →
      IsLongestRun bytes (record { from = k; to = k + 1 + run_length (drop (suc k) (shown bytes)) })
  longest first = record {
    some = omega arith;
    within = λ p above below. word_held bytes p (in_run p above below);
    before = λ p next held.
        false≢true
        (sym first ∙
        ap (follows_word false (shown bytes)) (let e : k ≡ suc p = omega arith in e) ∙
        follows-shows false (shown bytes) p (word_shown bytes p held));
    after = λ held. past_run (word_shown bytes _ held);
  }

  -- and a longest run that begins there is this one
  ends : (to : ℕ) → k < to → ((p : ℕ) → k ≤ p → p < to → HoldsWordByte bytes p) →
      (HoldsWordByte bytes to → ⊥) →
      to ≡ k + 1 + run_length (drop (suc k) (shown bytes))
  ends to above within after =
      let end = k + 1 + run_length (drop (suc k) (shown bytes)) in
      elim (cases_lt to end) [
        | inl short ↦ absurd (after (word_held bytes to (in_run to (omega arith) short)))
        | inr le ↦
            elim (cases_lt end to) [
              | inl long ↦ absurd (past_run (word_shown bytes end (within end (omega arith) long)))
              | inr ge ↦ omega arith
            ]
      ]

first_in_run : (bytes : List ℕ) (from : ℕ) → ((p : ℕ) → p + 1 ≡ from → HoldsWordByte bytes p → ⊥) →
    follows_word false (shown bytes) from ≡ false
first_in_run bytes zero before = refl
first_in_run bytes (suc p) before = by_test (follows_word false (shown bytes) (suc p)) refl
  where
    by_test : (t : Bool) → follows_word false (shown bytes) (suc p) ≡ t →
        follows_word false (shown bytes) (suc p) ≡ false
    by_test true h = absurd
        (before p (omega arith) (word_held bytes p (shows-follows false (shown bytes) p h)))
    by_test false h = h

pub same_span : (a b : Span) → a.from ≡ b.from → a.to ≡ b.to → a ≡ b
same_span a b p q = ap (λ n. record { from = n; to = a.to }) p ∙ ap (λ n. record { from = b.from; to = n }) q

token-is : (bytes : List ℕ) (token : Token) → Contains (tokens bytes) token → IsToken bytes token
token-is bytes (Open p) h =
    let r = begins-from 0 false (shown bytes) (Open p) h in
    let is : IsBegun (0 + r.k) (follows_word false (shown bytes) r.k) r.byte (drop (suc r.k) (shown bytes))
    (Open p) =
    begun (0 + r.k) (follows_word false (shown bytes) r.k) r.byte (drop (suc r.k) (shown bytes))
    (Open p) r.begins
    in
    shown-holds bytes p 40 (λ e. absurd (let never : ⊥ = omega (arith, e) in never))
    (ap (slice_get (shown bytes)) (let e : p ≡ r.k = omega (arith, is.1) in e) ∙ r.holds ∙ ap Some is.0)
token-is bytes (Close p) h =
    let r = begins-from 0 false (shown bytes) (Close p) h in
    let is : IsBegun (0 + r.k) (follows_word false (shown bytes) r.k) r.byte (drop (suc r.k) (shown bytes))
    (Close p) =
    begun (0 + r.k) (follows_word false (shown bytes) r.k) r.byte (drop (suc r.k) (shown bytes))
    (Close p) r.begins
    in
    shown-holds bytes p 41 (λ e. absurd (let never : ⊥ = omega (arith, e) in never))
    (ap (slice_get (shown bytes)) (let e : p ≡ r.k = omega (arith, is.1) in e) ∙ r.holds ∙ ap Some is.0)
token-is bytes (Word span) h =
    let r = begins-from 0 false (shown bytes) (Word span) h in
    let is : IsBegun (0 + r.k) (follows_word false (shown bytes) r.k) r.byte (drop (suc r.k) (shown bytes))
    (Word span) =
    begun (0 + r.k) (follows_word false (shown bytes) r.k) r.byte (drop (suc r.k) (shown bytes))
    (Word span) r.begins
    in
    subst (IsLongestRun bytes)
    (ap (λ n. record { from = n; to = n + 1 + run_length (drop (suc r.k) (shown bytes)) })
    (let e : r.k ≡ 0 + r.k = omega arith in e) ∙ sym is.2)
    (longest bytes r.k r.byte r.holds is.0 is.1)

is-token : (bytes : List ℕ) (token : Token) → IsToken bytes token → Contains (tokens bytes) token
is-token bytes (Open p) h =
    begins-to 0 false (shown bytes) (Open p) p 40 (holds-shown bytes p 40 h)
    (begin (0 + p) (follows_word false (shown bytes) p) 40 (drop (suc p) (shown bytes)) (Open p)
    (refl, omega arith))
is-token bytes (Close p) h =
    begins-to 0 false (shown bytes) (Close p) p 41 (holds-shown bytes p 41 h)
    (begin (0 + p) (follows_word false (shown bytes) p) 41 (drop (suc p) (shown bytes)) (Close p)
    (refl, omega arith))
is-token bytes (Word span) h =
    let first = word_shown bytes span.from (h.within span.from (omega arith) h.some) in
    begins-to 0 false (shown bytes) (Word span) span.from first.0 first.1
    (begin (0 + span.from) (follows_word false (shown bytes) span.from) first.0
    (drop (suc span.from) (shown bytes)) (Word span) (
      first.2,
      first_in_run bytes span.from h.before,
      same_span span (record {
        from = 0 + span.from;
        to = 0 + span.from + 1 + run_length (drop (suc span.from) (shown bytes));
      }) (omega arith)
          (ends bytes span.from first.0 first.1 first.2 span.to h.some h.within h.after ∙
          ap (λ n. n + 1 + run_length (drop (suc span.from) (shown bytes)))
          (let e : span.from ≡ 0 + span.from = omega arith in e)),
    ))

-- the tokens of a file are its brackets and its longest runs of word bytes outside comments, by rising place
pub AreTokensOf-tokens : (bytes : List ℕ) → AreTokensOf bytes (tokens bytes)
AreTokensOf-tokens bytes = record {
  rising = Rises-tokens bytes;
  members = λ token. (token-is bytes token, is-token bytes token);
}

late : (low high : ℕ) (all : List Token) (token : Token) → Rises low high all → Contains all token →
    low ≤ place_of token
late low high [] token rises h = absurd (none_contained token h)
late low high (first ∷ all) token rises (zero, lt, is) = subst (λ t. low ≤ place_of t) is rises.0
late low high (first ∷ all) token rises (suc k, lt, is) =
    omega (arith, rises.0, rises.1, late (end_of first) high all token rises.2 (k, omega arith, is))

-- a member is the first one, or one of the others
first_or_other : (first : Token) (all : List Token) (token : Token) → Contains (first ∷ all) token →
    (first ≡ token) ⊎ Contains all token
first_or_other first all token (zero, lt, is) = inl is
first_or_other first all token (suc k, lt, is) = inr (k, omega arith, is)

others : (x : Token) (xs ys : List Token) (high : ℕ) → Rises (end_of x) high xs → place_of x < end_of x →
    ((t : Token) → Contains (x ∷ xs) t → Contains (x ∷ ys) t) → (t : Token) → Contains xs t → Contains ys t
others x xs ys high rises some to t h =
    elim (first_or_other x ys t (to t (suc h.0, omega (arith, h.1), h.2))) [
      | inl is ↦ absurd (omega
          (arith, some, subst (λ t. end_of x ≤ place_of t) (sym is) (late (end_of x) high xs t rises h)))
      | inr other ↦ other
    ]

-- rising tokens are one list where they are the same tokens
same_rising : (lowx lowy high : ℕ) (xs ys : List Token) → Rises lowx high xs → Rises lowy high ys →
    ((t : Token) → Contains xs t → Contains ys t) → ((t : Token) → Contains ys t → Contains xs t) → xs ≡ ys
same_rising lowx lowy high [] [] p q to from = refl
same_rising lowx lowy high [] (y ∷ ys) p q to from = absurd (none_contained y (from y (0, omega arith, refl)))
same_rising lowx lowy high (x ∷ xs) [] p q to from = absurd (none_contained x (to x (0, omega arith, refl)))
same_rising lowx lowy high (x ∷ xs) (y ∷ ys) p q to from =
    let same : x ≡ y =
    elim (first_or_other y ys x (to x (0, omega arith, refl))) [
      | inl is ↦ sym is
      | inr above ↦
          elim (first_or_other x xs y (from y (0, omega arith, refl))) [
            | inl is ↦ is
            | inr below ↦
                absurd
                (omega (
                  arith,
                  p.1,
                  q.1,
                  late (end_of y) high ys x q.2 above,
                  late (end_of x) high xs y p.2 below,
                ))
          ]
    ]
    in
    ap (λ t. t ∷ xs) same ∙
    ap (λ ts. y ∷ ts)
    (same_rising (end_of x) (end_of y) high xs ys p.2 q.2
    (others x xs ys high p.2 p.1 (λ t h. subst (λ first. Contains (first ∷ ys) t) (sym same) (to t h)))
    (others y ys xs high q.2 q.1 (λ t h. subst (λ first. Contains (first ∷ xs) t) same (from t h))))

pub tokens-only : (bytes : List ℕ) (found : List Token) → AreTokensOf bytes found → found ≡ tokens bytes
tokens-only bytes found are =
    let all = AreTokensOf-tokens bytes in
    same_rising 0 0 (length bytes) found (tokens bytes) are.rising all.rising
    (λ t h. (all.members t).1 ((are.members t).0 h))
    (λ t h. (are.members t).1 ((all.members t).0 h))
