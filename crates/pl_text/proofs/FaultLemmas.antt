-- Which fault of a file is given, from what was read without one.
use Rattle.std.proofs.Common.{◌≡◌, ◌⊎◌, ℕ, zero, suc, ◌<◌, ◌≤◌, true, false, List, [], ◌∷◌, ◌++◌, length}
use Rattle.std.proofs.Common.{take, sym, ap, ◌∙◌, subst, arith, inl, inr, append_assoc, Some, slice_get}
use Rattle.std.proofs.lemmas.Bool.{false≢true, cases_lt}
use Rattle.std.proofs.lemmas.List.{append-nil}
use Rattle.std.proofs.lemmas.List.Elements.{All-head, All-tail}
use Rattle.std.proofs.lemmas.Option.{none-some, same_Some, slice_get_within}
use Rattle.pl_text.specs.declared.fault.TextFault.{TextFault}
use Rattle.pl_text.specs.declared.fault.TextFault.TheVariants.{BadByte, StrayClose, TooDeep, Unclosed}
use Rattle.pl_text.specs.declared.form.Form.{Form}
use Rattle.pl_text.specs.Bytes.{is_bad_byte}
use Rattle.pl_text.specs.Comments.{shown}
use Rattle.pl_text.specs.Tokens.{Token, Open, Close, place_of, tokens, Rises}
use Rattle.pl_text.specs.Forms.{flatten_all}
use Rattle.pl_text.specs.TextFaults.{opens, closes, IsBadByte, IsStrayClose, IsTooDeep, IsUnclosed}
use Rattle.pl_text.specs.TextFaults.{ClosesNothing, IsFirst, IsTextFault, ComesBefore, IsGivenFault}
use Rattle.pl_text.specs.TextFaults.{IsFaultless}
use Rattle.pl_text.specs.Reading.{IsQuiet}
use Rattle.pl_text.proofs.CommentLemmas.{shown-cases}
use Rattle.pl_text.proofs.TokenLemmas.{IsClean}
use Rattle.pl_text.proofs.RiseLemmas.{Rises-place, Rises-after, Rises-tokens}
use Rattle.pl_text.specs.Trees.{trees_of}
use Rattle.pl_text.proofs.CountLemmas.{opens-append, closes-append, head_same, tail_same, split, IsWhole}
use Rattle.pl_text.proofs.CountLemmas.{whole_all, Outermost}

-- a place below which no byte is bad, and no bracket before it closes too much or goes too deep
pub record NoEarlier (bytes : List ℕ) (at : ℕ) : Type 0 where
  pub bad : (p : ℕ) → IsBadByte bytes p → at ≤ p
  pub stray : (p : ℕ) → IsStrayClose (tokens bytes) p → at ≤ p
  pub deep : (p : ℕ) → IsTooDeep (tokens bytes) p → at ≤ p

module _ (bytes : List ℕ) (at : ℕ) (none : NoEarlier bytes at) where
  bad_first : (other : TextFault) → IsTextFault bytes other → ComesBefore (BadByte at) other
  bad_first (BadByte p) h = none.bad p h.here
  bad_first (StrayClose p) h = none.stray p h.here
  bad_first (TooDeep p) h = none.deep p h.here
  bad_first (Unclosed p) h = tt

  stray_first : (other : TextFault) → IsTextFault bytes other → ComesBefore (StrayClose at) other
  stray_first (BadByte p) h = none.bad p h.here
  stray_first (StrayClose p) h = none.stray p h.here
  stray_first (TooDeep p) h = none.deep p h.here
  stray_first (Unclosed p) h = tt

  deep_first : (other : TextFault) → IsTextFault bytes other → ComesBefore (TooDeep at) other
  deep_first (BadByte p) h = none.bad p h.here
  deep_first (StrayClose p) h = none.stray p h.here
  deep_first (TooDeep p) h = none.deep p h.here
  deep_first (Unclosed p) h = tt

  pub gives_bad : IsBadByte bytes at → IsGivenFault bytes (BadByte at)
  gives_bad h = record { has = record { here = h; least = none.bad }; first = bad_first }

  pub gives_stray : IsStrayClose (tokens bytes) at → IsGivenFault bytes (StrayClose at)
  gives_stray h = record { has = record { here = h; least = none.stray }; first = stray_first }

  pub gives_deep : IsTooDeep (tokens bytes) at → IsGivenFault bytes (TooDeep at)
  gives_deep h = record { has = record { here = h; least = none.deep }; first = deep_first }

clean_at : (list : List ℕ) (n p b : ℕ) → IsClean (take n list) → p < n → slice_get list p ≡ Some b →
    is_bad_byte b ≡ false
clean_at [] n p b clean below at = absurd (none-some b at)
clean_at (x ∷ list) zero p b clean below at = absurd (omega arith)
clean_at (x ∷ list) (suc n) zero b clean below at =
    ap is_bad_byte (sym (same_Some x b at)) ∙ All-head (λ b. is_bad_byte b ≡ false) x (take n list) clean
clean_at (x ∷ list) (suc n) (suc p) b clean below at =
    clean_at list n p b (All-tail (λ b. is_bad_byte b ≡ false) x (take n list) clean) (omega arith) at

-- what was shown without a bad byte up to a place has none before it
pub bad_late : (bytes : List ℕ) (at : ℕ) → IsClean (take at (shown bytes)) → (p : ℕ) → IsBadByte bytes p →
    at ≤ p
bad_late bytes at clean p (b, (holds, outside), bad) =
    elim (cases_lt p at) [
      | inl below ↦
          absurd
          (elim (shown-cases bytes p b holds) [
            | inl h ↦ outside h.1
            | inr h ↦ false≢true (sym (clean_at (shown bytes) at p b clean below h.0) ∙ bad)
          ])
      | inr le ↦ le
    ]

-- a byte that is shown and bad is a bad byte
pub bad_shown : (bytes : List ℕ) (at b : ℕ) → slice_get bytes at ≡ Some b →
    slice_get (shown bytes) at ≡ Some b → is_bad_byte b ≡ true →
    IsBadByte bytes at
bad_shown bytes at b holds shows bad =
    elim (shown-cases bytes at b holds) [
      | inl h ↦ absurd (false≢true (ap is_bad_byte (same_Some 32 b (sym h.0 ∙ shows)) ∙ bad))
      | inr h ↦ (b, (holds, h.1), bad)
    ]

-- a token of all is among those that were read, or stands at or after the place that was come to
abbrev Stands : List Token → List Token → Token → ℕ → Type 0
Stands read before token at =
    ((more : List Token) × (read ≡ (before ++ token ∷ []) ++ more)) ⊎ (at ≤ place_of token)

stands : (at high : ℕ) (read rest before after : List Token) (token : Token) → Rises at high rest →
    read ++ rest ≡ before ++ token ∷ after → Stands read before token at
stands at high read rest before after token rises e =
    elim (split read rest before (token ∷ after) e) [
      | inl s ↦ by_more s.more s.first s.last
      | inr s ↦ inr (Rises-place at high s.more token after (subst (Rises at high) s.last rises))
    ]
  where
    by_more : (more : List Token) → read ≡ before ++ more → token ∷ after ≡ more ++ rest →
        Stands read before token at
    by_more [] first last = inr (Rises-place at high [] token after (subst (Rises at high) (sym last) rises))
    by_more (x ∷ more) first last =
        inl (
          more,
          first ∙ ap (λ t. before ++ t ∷ more) (sym (head_same token x _ _ last)) ∙
              sym (append_assoc before (token ∷ []) more),
        )

module _ (at high : ℕ) (all read rest : List Token) (is : read ++ rest ≡ all) (rises : Rises at high rest)
    (quiet : IsQuiet read) where
  pub stray_late : (p : ℕ) → IsStrayClose all p → at ≤ p
  stray_late p h =
      elim (stands at high read rest h.before h.rest (Close p) rises (is ∙ h.splits)) [
        | inl s ↦ absurd (omega (arith, h.outnumbered, (quiet (h.before ++ Close p ∷ []) s.0 s.1).0))
        | inr le ↦ le
      ]

  pub deep_late : (p : ℕ) → IsTooDeep all p → at ≤ p
  deep_late p h =
      elim (stands at high read rest h.before h.rest (Open p) rises (is ∙ h.splits)) [
        | inl s ↦ absurd (omega (arith, h.deep, (quiet (h.before ++ Open p ∷ []) s.0 s.1).1))
        | inr le ↦ le
      ]

-- no open bracket within forms stays open
closed_within : (all before more : List Token) (p : ℕ) → IsWhole all → all ≡ before ++ Open p ∷ more →
    closes more ≤ opens more → ⊥
closed_within all before more p whole e h =
    omega (
      arith,
      ap opens e,
      ap closes e,
      opens-append before (Open p ∷ more),
      closes-append before (Open p ∷ more),
      whole.even,
      whole.keeps 0 before (Open p ∷ more) e,
    )

-- the outermost open list is the first that is never closed
pub unclosed_first : (low high at : ℕ) (all : List Token) → Rises low high all → Outermost all at →
    IsFirst (IsUnclosed all) at
unclosed_first low high at all rises out = record {
  here = record {
    before = flatten_all out.forms;
    rest = out.rest;
    splits = out.splits;
    open_still = out.open_still;
  };
  least = least;
}
  where
    later : Rises at high (Open at ∷ out.rest)
    later = Rises-after low high (flatten_all out.forms) (Open at) out.rest
        (subst (Rises low high) out.splits rises)

    by_more : (p : ℕ) (before rest more : List Token) → ClosesNothing rest →
        flatten_all out.forms ≡ before ++ more →
        Open p ∷ rest ≡ more ++ Open at ∷ out.rest → at ≤ p
    by_more p before rest [] still first last =
        Rises-place at high [] (Open p) rest (subst (Rises at high) (sym last) later)
    by_more p before rest (x ∷ more) still first last =
        absurd
        (closed_within (flatten_all out.forms) before more p (whole_all (trees_of out.forms))
        (first ∙ ap (λ t. before ++ t ∷ more) (sym (head_same (Open p) x _ _ last)))
        (still more (Open at ∷ out.rest) (tail_same (Open p) x _ _ last)))

    least : (p : ℕ) → IsUnclosed all p → at ≤ p
    least p h =
        elim (split (flatten_all out.forms) (Open at ∷ out.rest) h.before (Open p ∷ h.rest)
        (sym out.splits ∙ h.splits)) [
          | inl s ↦ by_more p h.before h.rest s.more h.open_still s.first s.last
          | inr s ↦ Rises-place at high s.more (Open p) h.rest (subst (Rises at high) s.last later)
        ]

-- forms leave no bracket open
pub none_unclosed : (forms : List Form) (all : List Token) → flatten_all forms ≡ all → (p : ℕ) →
    IsUnclosed all p → ⊥
none_unclosed forms all is p h =
    closed_within (flatten_all forms) h.before h.rest p (whole_all (trees_of forms)) (is ∙ h.splits)
    (h.open_still h.rest [] (sym (append-nil h.rest)))

none_stray : (all : List Token) → IsQuiet all → (p : ℕ) → IsStrayClose all p → ⊥
none_stray all quiet p h =
    omega (
      arith,
      h.outnumbered,
      (quiet (h.before ++ Close p ∷ []) h.rest
          (h.splits ∙ sym (append_assoc h.before (Close p ∷ []) h.rest))).0,
    )

none_deep : (all : List Token) → IsQuiet all → (p : ℕ) → IsTooDeep all p → ⊥
none_deep all quiet p h =
    omega (
      arith,
      h.deep,
      (quiet (h.before ++ Open p ∷ []) h.rest
          (h.splits ∙ sym (append_assoc h.before (Open p ∷ []) h.rest))).1,
    )

none_bad : (bytes : List ℕ) → ((p : ℕ) → IsBadByte bytes p → length bytes ≤ p) → (p : ℕ) →
    IsBadByte bytes p → ⊥
none_bad bytes late p bad = let within = slice_get_within bytes p bad.0 bad.1.0 in
    omega (arith, within, late p bad)

-- a file that was read to its end without a fault, with a list left open
pub gives_unclosed : (bytes : List ℕ) (at : ℕ) → ((p : ℕ) → IsBadByte bytes p → length bytes ≤ p) →
    IsQuiet (tokens bytes) →
    Outermost (tokens bytes) at → IsGivenFault bytes (Unclosed at)
gives_unclosed bytes at bad quiet out = record {
  has = unclosed_first 0 (length bytes) at (tokens bytes) (Rises-tokens bytes) out;
  first = first;
}
  where
    first : (other : TextFault) → IsTextFault bytes other → ComesBefore (Unclosed at) other
    first (BadByte p) h = absurd (none_bad bytes bad p h.here)
    first (StrayClose p) h = absurd (none_stray (tokens bytes) quiet p h.here)
    first (TooDeep p) h = absurd (none_deep (tokens bytes) quiet p h.here)
    first (Unclosed p) h = tt

-- and with no list left open
pub faultless : (bytes : List ℕ) (forms : List Form) → ((p : ℕ) → IsBadByte bytes p → length bytes ≤ p) →
    IsQuiet (tokens bytes) →
    flatten_all forms ≡ tokens bytes → IsFaultless bytes
faultless bytes forms bad quiet is (BadByte p) h = none_bad bytes bad p h.here
faultless bytes forms bad quiet is (StrayClose p) h = none_stray (tokens bytes) quiet p h.here
faultless bytes forms bad quiet is (TooDeep p) h = none_deep (tokens bytes) quiet p h.here
faultless bytes forms bad quiet is (Unclosed p) h = none_unclosed forms (tokens bytes) is p h.here
