-- Each file has forms or a fault: a reading that takes no memory.
use denote.RawPtr.{null_ptr}
use Rattle.std.proofs.Common.{◌≡◌, ◌⊎◌, ℕ, zero, suc, ◌+◌, ◌<◌, ◌≤◌, ◌^◌, Bool, true, false, cond, eqb, List}
use Rattle.std.proofs.Common.{[], ◌∷◌, ◌++◌, length, take, drop, get_or, reverse, Vec, Global, refl, sym, ap}
use Rattle.std.proofs.Common.{◌∙◌, subst, arith, inl, inr, length-append, length-drop}
use Rattle.std.proofs.Math.Seq.{take-length, drop-length}
use Rattle.std.proofs.lemmas.Bool.{cases_lt}
use Rattle.std.proofs.lemmas.Bool.Decides.{nat_tests}
use Rattle.std.proofs.lemmas.List.{reverse-append, length-take-le}
use Rattle.pl_text.specs.Limits.{most_open}
use Rattle.pl_text.specs.Limits.{most_bytes}
use Rattle.pl_text.specs.declared.fault.TextFault.TheVariants.{BadByte, StrayClose, TooDeep, Unclosed}
use Rattle.pl_text.specs.declared.form.Form as form
use Rattle.pl_text.specs.declared.form.Form.{Form}
use Rattle.pl_text.specs.declared.reading.Opened.{Opened}
use Rattle.pl_text.specs.declared.scan.Kind.{Kind}
use Rattle.pl_text.specs.declared.scan.Kind.TheVariants as kind
use Rattle.pl_text.specs.Bytes.{is_blank, is_word_byte}
use Rattle.pl_text.specs.Tokens.{Open, Word, run_length}
use Rattle.pl_text.specs.Scan.{IsOfKind, line_length}
use Rattle.pl_text.specs.Forms.{flatten_all}
use Rattle.pl_text.specs.Trees.{trees_of}
use Rattle.pl_text.specs.TextFaults.{HasForms, GivesFault}
use Rattle.pl_text.specs.Reading.{AreNested, IsKept, AddsToken, IsRead, tokens_read}
use Rattle.pl_text.proofs.NestingLemmas.{adds_word, adds_close}
use Rattle.pl_text.proofs.RiseLemmas.{run_length-le}
use Rattle.pl_text.proofs.TokenLemmas.{run_length-word, line_length-more}
use Rattle.pl_text.proofs.ReadingLemmas.{byte_at, read-none, step-open, step-close, step-blank, step-comment}
use Rattle.pl_text.proofs.ReadingLemmas.{step-word, ends-stray, ends-deep, ends-bad, end-forms, end-faultless}
use Rattle.pl_text.proofs.ReadingLemmas.{end-unclosed}

-- a `Vec` of these elements
vec_of : {A : Type 0} (xs : List A) → length xs < 2 ^ 63 → (v : Vec A Global) × (v.items ≡ xs)
vec_of xs few = (
  record {
    ptr = null_ptr;
    len = length xs;
    cap = length xs;
    alloc = record { memory = record { seal = tt } };
    items = xs;
    ok = (refl, omega arith);
    small = few;
  },
  refl,
)

-- each byte is of a kind
kind_of : (b : ℕ) → (k : Kind) × IsOfKind b k
kind_of b = by_tests (eqb b 40) (eqb b 41) (eqb b 59) (is_word_byte b) (is_blank b) refl refl refl refl refl
  where
    by_tests : (left right comment word blank : Bool) → eqb b 40 ≡ left → eqb b 41 ≡ right →
        eqb b 59 ≡ comment → is_word_byte b ≡ word →
        is_blank b ≡ blank → (k : Kind) × IsOfKind b k
    by_tests true right comment word blank p q r s t = (kind.Open, grind (arith, nat_tests))
    by_tests false true comment word blank p q r s t = (kind.Close, grind (arith, nat_tests))
    by_tests false false true word blank p q r s t = (kind.Comment, grind (arith, nat_tests))
    by_tests false false false true blank p q r s t = (kind.Word, s)
    by_tests false false false false true p q r s t = (kind.Blank, t)
    by_tests false false false false false p q r s t =
        (kind.Bad, (grind (arith, nat_tests), λ e. grind (arith, nat_tests)))

adds_open : (lists : List Opened) (done : List Form) (at : ℕ) → IsKept lists done → length lists < most_open →
    AddsToken lists (lists ++ record { at = at; before = length done } ∷ []) done done (Open at)
adds_open lists done at kept few =
    let list : Opened = record { at = at; before = length done } in
    let turned : reverse (lists ++ list ∷ []) ≡ list ∷ reverse lists = reverse-append lists (list ∷ []) in
    record {
      kept = record {
        nested = subst (λ ls. AreNested ls (length done)) (sym turned) (omega arith, kept.nested);
        depth = omega (arith, length-append lists (list ∷ []));
      };
      read =
          ap (λ ls. tokens_read ls done) turned ∙
          ap (λ d. tokens_read (reverse lists) d ++ Open at ∷ flatten_all (drop (length done) done))
          (take-length done) ∙
          ap (λ d. tokens_read (reverse lists) done ++ Open at ∷ flatten_all d) (drop-length done);
    }

record Snoc {A : Type 0} (xs : List A) : Type 0 where
  front : List A
  last : A
  is : xs ≡ front ++ last ∷ []

snoc : {A : Type 0} (x : A) (xs : List A) → Snoc (x ∷ xs)
snoc x [] = record { front = []; last = x; is = refl }
snoc x (y ∷ xs) = let rest = snoc y xs in
    record { front = x ∷ rest.front; last = rest.last; is = ap (λ ts. x ∷ ts) rest.is }

line_length-le : (bytes : List ℕ) → line_length bytes ≤ length bytes
line_length-le [] = omega arith
line_length-le (b ∷ bytes) = by_test (eqb b 10) refl (line_length-le bytes)
  where
    by_test : (t : Bool) → eqb b 10 ≡ t → line_length bytes ≤ length bytes →
        line_length (b ∷ bytes) ≤ length (b ∷ bytes)
    by_test true h le = subst (λ n. n ≤ length (b ∷ bytes))
        (sym (ap (λ t. cond t 0 (line_length bytes + 1)) h)) (omega arith)
    by_test false h le = omega (arith, line_length-more b bytes h)

abbrev Outcome : List ℕ → Type 0
Outcome bytes = HasForms bytes ⊎ GivesFault bytes

ended : (bytes : List ℕ) (lists : List Opened) (done : List Form) → IsRead bytes (length bytes) lists done →
    Outcome bytes
ended bytes [] done reading =
    inl (end-faultless bytes [] done reading refl, (trees_of done, end-forms bytes [] done reading refl))
ended bytes (list ∷ inner) done reading =
    inr (Unclosed list.at, end-unclosed bytes (list ∷ inner) done reading list inner refl)

module _ (bytes : List ℕ) (small : length bytes ≤ most_bytes) where
  -- how the rest of a reading ends
  abbrev GoesOn : ℕ → Type 0
  GoesOn fuel = (at : ℕ) (lists : List Opened) (done : List Form) → length done ≤ at →
      IsRead bytes at lists done → length bytes ≤ at + fuel →
      Outcome bytes

  closes_on : (fuel at b : ℕ) (lists : List Opened) (done : List Form) → length done ≤ at →
      IsRead bytes at lists done →
      length bytes ≤ at + suc fuel → at < length bytes → b ≡ get_or bytes at 0 → b ≡ 41 → GoesOn fuel →
      Outcome bytes
  closes_on fuel at b [] done count reading left within is byte on =
      inr (StrayClose at, ends-stray bytes at b [] done reading within is byte refl)
  closes_on fuel at b (first ∷ rest) done count reading left within is byte on =
      let lists = first ∷ rest in
      let s = snoc first rest in
      let turned : reverse lists ≡ s.last ∷ reverse s.front = ap reverse s.is ∙
      reverse-append s.front (s.last ∷ []) in
      let nested : AreNested (s.last ∷ reverse s.front) (length done) =
      subst (λ ls. AreNested ls (length done)) turned reading.kept.nested in
      let before : s.last.before ≤ length done = nested.0 in
      let few : length (drop s.last.before done) < 2 ^ 63 = omega (arith, length-drop s.last.before done) in
      let made = vec_of (drop s.last.before done) few in
      let elements = made.0 in
      let closed = form.List (record { from = s.last.at; to = at + 1 }) elements in
      let kept = take s.last.before done in
      let adds = adds_close lists s.front s.last done kept
      (kept ++ closed ∷ []) elements at s.is refl made.1 refl reading.kept in
      on (at + 1) s.front (kept ++ closed ∷ [])
      (omega (arith, length-append kept (closed ∷ []), length-take-le s.last.before done before))
      (step-close bytes at b lists done reading within is s.front (kept ++ closed ∷ []) byte adds)
      (omega arith)

  reads_on : (fuel at b : ℕ) (lists : List Opened) (done : List Form) (k : Kind) → IsOfKind b k →
      length done ≤ at → IsRead bytes at lists done →
      length bytes ≤ at + suc fuel → at < length bytes → b ≡ get_or bytes at 0 → GoesOn fuel → Outcome bytes
  reads_on fuel at b lists done kind.Open byte count reading left within is on =
      elim (cases_lt (length lists) most_open) [
        | inl few ↦
            on (at + 1) (lists ++ record { at = at; before = length done } ∷ []) done (omega arith)
            (step-open bytes at b lists done reading within is
            (lists ++ record { at = at; before = length done } ∷ []) done byte
            (adds_open lists done at reading.kept few))
            (omega arith)
        | inr many ↦
            let most : length lists ≤ most_open = reading.kept.depth in
            inr (TooDeep at, ends-deep bytes at b lists done reading within is byte (omega arith))
      ]
  reads_on fuel at b lists done kind.Close byte count reading left within is on =
      closes_on fuel at b lists done count reading left within is byte on
  reads_on fuel at b lists done kind.Comment byte count reading left within is on =
      let here = byte_at bytes at b within is in
      let line : line_length (drop at bytes) ≡ suc (line_length (drop (at + 1) bytes)) =
      ap line_length here ∙ line_length-more b (drop (at + 1) bytes) (grind (arith, nat_tests))
      in
      let most = line_length-le (drop at bytes) in
      let next = at + line_length (drop at bytes) in
      on next lists done (omega arith)
      (step-comment bytes at b lists done reading within is next byte refl
      (omega (arith, length-drop at bytes, most)))
      (omega arith)
  reads_on fuel at b lists done kind.Word byte count reading left within is on =
      let here = byte_at bytes at b within is in
      let run : run_length (drop at bytes) ≡ run_length (drop (at + 1) bytes) + 1 =
      ap run_length here ∙ run_length-word b (drop (at + 1) bytes) byte
      in
      let most = run_length-le (drop at bytes) in
      let next = at + run_length (drop at bytes) in
      let word = form.Word (record { from = at; to = next }) in
      on next lists (done ++ word ∷ [])
      (omega (arith, length-append done (word ∷ [])))
      (step-word bytes at b lists done reading within is next lists (done ++ word ∷ []) byte refl
      (omega (arith, length-drop at bytes, most))
      (adds_word lists done (done ++ word ∷ []) word
      (Word (record { from = at; to = next })) refl refl reading.kept))
      (omega arith)
  reads_on fuel at b lists done kind.Blank byte count reading left within is on =
      on (at + 1) lists done (omega arith) (step-blank bytes at b lists done reading within is byte)
      (omega arith)
  reads_on fuel at b lists done kind.Bad byte count reading left within is on =
      inr (BadByte at, ends-bad bytes at b lists done reading within is byte.0 byte.1)

  reads : (fuel : ℕ) → GoesOn fuel
  reads zero at lists done count reading left =
      let last : at ≤ length bytes = reading.in_file in
      ended bytes lists done
      (subst (λ p. IsRead bytes p lists done) (let e : at ≡ length bytes = omega arith in e) reading)
  reads (suc fuel) at lists done count reading left =
      let last : at ≤ length bytes = reading.in_file in
      elim (cases_lt at (length bytes)) [
        | inl within ↦
            let k = kind_of (get_or bytes at 0) in
            reads_on fuel at (get_or bytes at 0) lists done k.0 k.1 count reading left within refl
            (reads fuel)
        | inr le ↦ ended bytes lists done
            (subst (λ p. IsRead bytes p lists done) (let e : at ≡ length bytes = omega arith in e) reading)
      ]

  -- a file has forms or gives a fault
  pub forms-or-fault : HasForms bytes ⊎ GivesFault bytes
  forms-or-fault = reads (length bytes) 0 [] [] (omega arith) (read-none bytes) (omega arith)
