-- How a reading goes on, and how it ends.
use Rattle.std.proofs.Common.{◌≡◌, ◌≢◌, ℕ, zero, suc, ◌+◌, ◌<◌, ◌≤◌, true, false, List, [], ◌∷◌, ◌++◌, length}
use Rattle.std.proofs.Common.{take, drop, get_or, reverse, refl, sym, ap, ◌∙◌, subst, arith, append_assoc}
use Rattle.std.proofs.Common.{add-one, None, Some, slice_get}
use Rattle.std.proofs.Math.Seq.{take-add, drop-cons, drop-length}
use Rattle.std.proofs.lemmas.List.{append-nil, drop-drop, length-reverse, reverse-append}
use Rattle.std.proofs.lemmas.List.Elements.{All-append, All-nil}
use Rattle.std.proofs.lemmas.Option.{none-some, same_Some, slice_get-get_or}
use Rattle.pl_text.specs.Limits.{most_open}
use Rattle.pl_text.specs.declared.fault.TextFault.TheVariants.{BadByte, StrayClose, TooDeep, Unclosed}
use Rattle.pl_text.specs.declared.fault.TextEnd.{TextEnd}
use Rattle.pl_text.specs.declared.fault.TextEnd.TheVariants.{Fault, Memory}
use Rattle.pl_text.specs.declared.form.Form.{Form}
use Rattle.pl_text.specs.declared.reading.Opened.{Opened}
use Rattle.pl_text.specs.Bytes.{is_blank, is_word_byte, is_bad_byte}
use Rattle.pl_text.specs.Comments.{shown}
use Rattle.pl_text.specs.Tokens.{Token, Open, Close, Word, run_length, tokens_from, tokens}
use Rattle.pl_text.specs.Scan.{line_length}
use Rattle.pl_text.specs.Forms.{AreFormsOf}
use Rattle.pl_text.specs.TextFaults.{opens, closes, IsGivenFault, IsFaultless, EndsBy}
use Rattle.pl_text.specs.Reading.{tokens_read, AddsToken, CannotEnter, CannotLeave, IsQuiet, IsRead}
use Rattle.pl_text.proofs.TokenLemmas.{IsClean, GoesOn, goes_on-open, goes_on-close, goes_on-blank}
use Rattle.pl_text.proofs.TokenLemmas.{goes_on-word, goes_on-comment, shown-cons}
use Rattle.pl_text.proofs.RiseLemmas.{Rises-from}
use Rattle.pl_text.proofs.CountLemmas.{opens-append, closes-append, opens-tokens_read, IsQuiet-push}
use Rattle.pl_text.proofs.CountLemmas.{Outermost, outermost}
use Rattle.pl_text.proofs.FaultLemmas.{NoEarlier, bad_late, bad_shown, stray_late, deep_late, gives_bad}
use Rattle.pl_text.proofs.FaultLemmas.{gives_stray, gives_deep, gives_unclosed, faultless}

-- the byte that is read, and those after it
pub byte_at : (bytes : List ℕ) (at b : ℕ) → at < length bytes → b ≡ get_or bytes at 0 →
    drop at bytes ≡ b ∷ drop (at + 1) bytes
byte_at bytes at b within is =
    drop-cons bytes at 0 within ∙ ap (λ x. x ∷ drop (suc at) bytes) (sym is) ∙
    ap (λ n. b ∷ drop n bytes) (sym (add-one at))

quiet_nil : IsQuiet []
quiet_nil [] rest e = (omega arith, omega arith)
quiet_nil (x ∷ front) rest e = absurd (let never : ⊥ = cc in never)

-- nothing was read
pub read-none : (bytes : List ℕ) → IsRead bytes 0 [] []
read-none bytes = record {
  in_file = omega arith;
  outside = refl;
  kept = record { nested = tt; depth = omega arith };
  read = refl;
  clean = All-nil (λ b. is_bad_byte b ≡ false);
  quiet = quiet_nil;
}

module _ (bytes : List ℕ) (at n : ℕ) (lists : List Opened) (done : List Form)
    (reading : IsRead bytes at lists done) where
  rest_is : drop (at + n) bytes ≡ drop n (drop at bytes)
  rest_is = sym (drop-drop n at bytes)

  outside : (extra : List Token) → GoesOn at n (drop at bytes) extra →
      drop (at + n) (shown bytes) ≡ shown (drop (at + n) bytes)
  outside extra goes =
      sym (drop-drop n at (shown bytes)) ∙ ap (drop n) reading.outside ∙ goes.shows ∙ ap shown (sym rest_is)

  clean : (extra : List Token) → GoesOn at n (drop at bytes) extra → IsClean (take (at + n) (shown bytes))
  clean extra goes =
      subst IsClean (sym (take-add at n (shown bytes) ∙
      ap (λ list. take at (shown bytes) ++ take n list) reading.outside))
      (All-append (λ b. is_bad_byte b ≡ false) (take at (shown bytes))
      (take n (shown (drop at bytes))) reading.clean goes.clean)

  -- over bytes that hold no token
  pub read-over : GoesOn at n (drop at bytes) [] → at + n ≤ length bytes → IsRead bytes (at + n) lists done
  read-over goes within = record {
    in_file = within;
    outside = outside [] goes;
    kept = reading.kept;
    read =
        ap (λ list. tokens_read (reverse lists) done ++ tokens_from (at + n) false (shown list)) rest_is ∙
        ap (λ ts. tokens_read (reverse lists) done ++ ts) (sym goes.tokens) ∙
        reading.read;
    clean = clean [] goes;
    quiet = reading.quiet;
  }

  -- over a token
  pub read-on : (new_lists : List Opened) (new_done : List Form) (token : Token) →
      GoesOn at n (drop at bytes) (token ∷ []) →
      at + n ≤ length bytes → AddsToken lists new_lists done new_done token →
      IsRead bytes (at + n) new_lists new_done
  read-on new_lists new_done token goes within adds =
      let old = tokens_read (reverse lists) done in
      let new = tokens_read (reverse new_lists) new_done in
      let count : opens new ≡ closes new + length new_lists =
      omega (arith, opens-tokens_read (reverse new_lists) new_done, length-reverse new_lists)
      in
      let few : length new_lists ≤ most_open = adds.kept.depth in
      record {
        in_file = within;
        outside = outside (token ∷ []) goes;
        kept = adds.kept;
        read =
            ap (λ list. new ++ tokens_from (at + n) false (shown list)) rest_is ∙
            ap (λ ts. ts ++ tokens_from (at + n) false (shown (drop n (drop at bytes)))) adds.read ∙
            append_assoc old (token ∷ []) (tokens_from (at + n) false (shown (drop n (drop at bytes)))) ∙
            ap (λ ts. old ++ ts) (sym goes.tokens) ∙
            reading.read;
        clean = clean (token ∷ []) goes;
        quiet =
            subst IsQuiet (sym adds.read)
            (IsQuiet-push old token reading.quiet
            (subst (λ ts. closes ts ≤ opens ts) adds.read (omega arith))
            (subst (λ ts. opens ts ≤ closes ts + most_open) adds.read (omega arith)));
      }

-- one step of a reading, by what stands at its place
module _ (bytes : List ℕ) (at b : ℕ) (lists : List Opened) (done : List Form)
    (reading : IsRead bytes at lists done)
    (within : at < length bytes) (is : b ≡ get_or bytes at 0) where
  here : drop at bytes ≡ b ∷ drop (at + 1) bytes
  here = byte_at bytes at b within is

  goes : (n : ℕ) (extra : List Token) → GoesOn at n (b ∷ drop (at + 1) bytes) extra →
      GoesOn at n (drop at bytes) extra
  goes n extra h = subst (λ list. GoesOn at n list extra) (sym here) h

  pub step-open : (new_lists : List Opened) (new_done : List Form) → b ≡ 40 →
      AddsToken lists new_lists done new_done (Open at) →
      IsRead bytes (at + 1) new_lists new_done
  step-open new_lists new_done kind adds =
      read-on bytes at 1 lists done reading new_lists new_done (Open at)
      (goes 1 (Open at ∷ [])
      (subst (λ b. GoesOn at 1 (b ∷ drop (at + 1) bytes) (Open at ∷ [])) (sym kind)
      (goes_on-open at (drop (at + 1) bytes))))
      (omega arith) adds

  pub step-close : (new_lists : List Opened) (new_done : List Form) → b ≡ 41 →
      AddsToken lists new_lists done new_done (Close at) →
      IsRead bytes (at + 1) new_lists new_done
  step-close new_lists new_done kind adds =
      read-on bytes at 1 lists done reading new_lists new_done (Close at)
      (goes 1 (Close at ∷ [])
      (subst (λ b. GoesOn at 1 (b ∷ drop (at + 1) bytes) (Close at ∷ [])) (sym kind)
      (goes_on-close at (drop (at + 1) bytes))))
      (omega arith) adds

  pub step-blank : is_blank b ≡ true → IsRead bytes (at + 1) lists done
  step-blank kind = read-over bytes at 1 lists done reading
      (goes 1 [] (goes_on-blank at b (drop (at + 1) bytes) kind)) (omega arith)

  pub step-comment : (next : ℕ) → b ≡ 59 → next ≡ at + line_length (drop at bytes) → next ≤ length bytes →
      IsRead bytes next lists done
  step-comment next kind next_is le =
      let same : b ∷ drop (at + 1) bytes ≡ 59 ∷ drop (at + 1) bytes =
      ap (λ b. b ∷ drop (at + 1) bytes) kind in
      let n : next ≡ at + line_length (59 ∷ drop (at + 1) bytes) = next_is ∙
      ap (λ list. at + line_length list) (here ∙ same) in
      subst (λ p. IsRead bytes p lists done) (sym n)
      (read-over bytes at (line_length (59 ∷ drop (at + 1) bytes)) lists done reading
      (subst (λ list. GoesOn at (line_length (59 ∷ drop (at + 1) bytes)) list []) (sym (here ∙ same))
      (goes_on-comment at (drop (at + 1) bytes)))
      (subst (λ p. p ≤ length bytes) n le))

  pub step-word : (next : ℕ) (new_lists : List Opened) (new_done : List Form) → is_word_byte b ≡ true →
      next ≡ at + run_length (drop at bytes) → next ≤ length bytes →
      AddsToken lists new_lists done new_done (Word (record { from = at; to = next })) →
      IsRead bytes next new_lists new_done
  step-word next new_lists new_done kind next_is le adds =
      let n : next ≡ at + run_length (b ∷ drop (at + 1) bytes) = next_is ∙
      ap (λ list. at + run_length list) here in
      let p = at + run_length (b ∷ drop (at + 1) bytes) in
      subst (λ p. IsRead bytes p new_lists new_done) (sym n)
      (read-on bytes at (run_length (b ∷ drop (at + 1) bytes)) lists done reading new_lists new_done
      (Word (record { from = at; to = p }))
      (goes (run_length (b ∷ drop (at + 1) bytes)) (Word (record { from = at; to = p }) ∷ [])
      (goes_on-word at b (drop (at + 1) bytes) kind))
      (subst (λ p. p ≤ length bytes) n le)
      (subst (λ p. AddsToken lists new_lists done new_done (Word (record { from = at; to = p }))) n adds))

  none_earlier : NoEarlier bytes at
  none_earlier = record {
    bad = bad_late bytes at reading.clean;
    stray =
        stray_late at (at + length (shown (drop at bytes))) (tokens bytes)
        (tokens_read (reverse lists) done) (tokens_from at false (shown (drop at bytes)))
        reading.read (Rises-from at (shown (drop at bytes))) reading.quiet;
    deep =
        deep_late at (at + length (shown (drop at bytes))) (tokens bytes) (tokens_read (reverse lists) done)
        (tokens_from at false (shown (drop at bytes)))
        reading.read (Rises-from at (shown (drop at bytes))) reading.quiet;
  }

  counts : opens (tokens_read (reverse lists) done) ≡ closes (tokens_read (reverse lists) done) + length lists
  counts = omega (arith, opens-tokens_read (reverse lists) done, length-reverse lists)

  splits : (token : Token) → GoesOn at 1 (b ∷ drop (at + 1) bytes) (token ∷ []) →
      tokens bytes ≡ tokens_read (reverse lists) done ++ token ∷ tokens_from (at + 1) false
      (shown (drop 1 (drop at bytes)))
  splits token h = sym reading.read ∙
      ap (λ ts. tokens_read (reverse lists) done ++ ts) (goes 1 (token ∷ []) h).tokens

  pub ends-stray : b ≡ 41 → lists ≡ [] → IsGivenFault bytes (StrayClose at)
  ends-stray kind none =
      gives_stray bytes at none_earlier (record {
        before = tokens_read (reverse lists) done;
        rest = tokens_from (at + 1) false (shown (drop 1 (drop at bytes)));
        splits = splits (Close at)
            (subst (λ b. GoesOn at 1 (b ∷ drop (at + 1) bytes) (Close at ∷ [])) (sym kind)
            (goes_on-close at (drop (at + 1) bytes)));
        outnumbered =
            omega (
              arith,
              counts,
              ap length none,
              opens-append (tokens_read (reverse lists) done) (Close at ∷ []),
              closes-append (tokens_read (reverse lists) done) (Close at ∷ []),
            );
      })

  pub ends-deep : b ≡ 40 → length lists ≡ most_open → IsGivenFault bytes (TooDeep at)
  ends-deep kind many =
      gives_deep bytes at none_earlier (record {
        before = tokens_read (reverse lists) done;
        rest = tokens_from (at + 1) false (shown (drop 1 (drop at bytes)));
        splits = splits (Open at)
            (subst (λ b. GoesOn at 1 (b ∷ drop (at + 1) bytes) (Open at ∷ [])) (sym kind)
            (goes_on-open at (drop (at + 1) bytes)));
        deep =
            omega (
              arith,
              counts,
              many,
              opens-append (tokens_read (reverse lists) done) (Open at ∷ []),
              closes-append (tokens_read (reverse lists) done) (Open at ∷ []),
            );
      })

  pub ends-bad : is_bad_byte b ≡ true → b ≢ 59 → IsGivenFault bytes (BadByte at)
  ends-bad bad other =
      let shows : drop at (shown bytes) ≡ b ∷ shown (drop (at + 1) bytes) =
      reading.outside ∙ ap shown here ∙ shown-cons b (drop (at + 1) bytes) other
      in
      gives_bad bytes at none_earlier
      (bad_shown bytes at b (slice_get-get_or bytes at 0 within ∙ ap Some (sym is))
      (first_dropped (shown bytes) at b _ shows) bad)
    where
      first_dropped : (list : List ℕ) (n b : ℕ) (rest : List ℕ) → drop n list ≡ b ∷ rest →
          slice_get list n ≡ Some b
      first_dropped [] zero b rest e = absurd (let never : ⊥ = cc in never)
      first_dropped [] (suc n) b rest e = absurd (let never : ⊥ = cc in never)
      first_dropped (x ∷ list) zero b rest e = cc
      first_dropped (x ∷ list) (suc n) b rest e = first_dropped list n b rest e

pub first_none : {A : Type 0} (xs : List A) → None ≡ slice_get xs 0 → xs ≡ []
first_none [] e = refl
first_none (x ∷ xs) e = absurd (none-some x e)

pub first_some : {A : Type 0} (x : A) (xs : List A) → Some x ≡ slice_get xs 0 → xs ≡ x ∷ drop 1 xs
first_some x [] e = absurd (none-some x (sym e))
first_some x (y ∷ xs) e = ap (λ z. z ∷ xs) (sym (same_Some x y e))

-- a reading that came to the end of the file
module _ (bytes : List ℕ) (lists : List Opened) (done : List Form)
    (reading : IsRead bytes (length bytes) lists done) where
  all_read : tokens_read (reverse lists) done ≡ tokens bytes
  all_read =
      sym (append-nil (tokens_read (reverse lists) done)) ∙
      ap (λ list. tokens_read (reverse lists) done ++ tokens_from (length bytes) false (shown list))
      (sym (drop-length bytes)) ∙
      reading.read

  pub end-forms : lists ≡ [] → AreFormsOf bytes done
  end-forms none = ap (λ ls. tokens_read (reverse ls) done) (sym none) ∙ all_read

  pub end-faultless : lists ≡ [] → IsFaultless bytes
  end-faultless none =
      faultless bytes done (bad_late bytes (length bytes) reading.clean)
      (subst IsQuiet all_read reading.quiet) (end-forms none)

  pub end-unclosed : (list : Opened) (inner : List Opened) → lists ≡ list ∷ inner →
      IsGivenFault bytes (Unclosed list.at)
  end-unclosed list inner is =
      let turned : reverse lists ≡ reverse inner ++ list ∷ [] = ap reverse is ∙
      reverse-append (list ∷ []) inner in
      gives_unclosed bytes list.at (bad_late bytes (length bytes) reading.clean)
      (subst IsQuiet all_read reading.quiet)
      (subst (λ ts. Outermost ts list.at) (ap (λ ls. tokens_read ls done) (sym turned) ∙ all_read)
      (outermost (reverse inner) list done))

-- what was refused ends a reading by its fault, or out of memory
pub ends-enter : (bytes : List ℕ) (at : ℕ) (lists : List Opened) (end : TextEnd) →
    ((length lists ≡ most_open) → IsGivenFault bytes (TooDeep at)) →
    CannotEnter lists at end → EndsBy bytes end
ends-enter bytes at lists (Fault fault) gives h = subst (IsGivenFault bytes) (sym h.0) (gives h.1)
ends-enter bytes at lists (Memory error) gives h = tt

pub ends-leave : (bytes : List ℕ) (at : ℕ) (lists : List Opened) (end : TextEnd) →
    (lists ≡ [] → IsGivenFault bytes (StrayClose at)) →
    CannotLeave lists at end → EndsBy bytes end
ends-leave bytes at lists (Fault fault) gives h = subst (IsGivenFault bytes) (sym h.0) (gives h.1)
ends-leave bytes at lists (Memory error) gives h = tt
