-- Links laid one after another: where each one stands, and one more of them.
use Rattle.std.proofs.Common.{◌≡◌, ◌+◌, ◌-◌, ◌<◌, ◌≤◌, ℕ, zero, suc, List, [], ◌∷◌, ◌++◌, length, take, drop}
use Rattle.std.proofs.Common.{get_or, refl, sym, ap, ◌∙◌, subst, arith, append_assoc, length-append}
use Rattle.std.proofs.Common.{length-drop}
use Rattle.std.proofs.lemmas.List.{take-append-le, drop-append-le}
use Rattle.pl_registry.specs.Links.{Link, link_at, links_from, step_in, begin_of, AreLaidOut}

pub laid_many : (start : ℕ) (parents ends words : List ℕ) (total : ℕ) → AreLaidOut start parents ends total →
    (length parents ≡ length ends) × (length (links_from start parents ends words) ≡ length parents)
laid_many start [] [] words total laid = (refl, refl)
laid_many start [] (e ∷ ends) words total laid = absurd laid
laid_many start (p ∷ parents) [] words total laid = absurd laid
laid_many start (p ∷ parents) (e ∷ ends) words total laid =
    let (a, b) = laid_many e parents ends words total laid.2 in (ap suc a, ap suc b)

laid_upto : (start : ℕ) (parents ends : List ℕ) (total : ℕ) → AreLaidOut start parents ends total
    → start ≤ total
laid_upto start [] [] total laid = omega (arith, laid)
laid_upto start [] (e ∷ ends) total laid = absurd laid
laid_upto start (p ∷ parents) [] total laid = absurd laid
laid_upto start (p ∷ parents) (e ∷ ends) total laid = let l = laid_upto e parents ends total laid.2 in let b =
    laid.0 in omega (arith, l, b)

-- the place of a link in the words
pub record IsLaidAt (start : ℕ) (parents ends words : List ℕ) (total n : ℕ) : Type 0 where
  pub begins : begin_of start ends n < get_or ends n 0
  pub narrow : get_or ends n 0 ≤ begin_of start ends n + 65
  pub within : get_or ends n 0 ≤ total
  pub link : link_at (links_from start parents ends words) n ≡
      record {
        parent = get_or parents n 0;
        step = step_in
            (take (get_or ends n 0 - begin_of start ends n) (drop (begin_of start ends n) words));
      }

pub laid_at : (start : ℕ) (parents ends words : List ℕ) (total n : ℕ) → AreLaidOut start parents ends total
    → n < length parents → IsLaidAt start parents ends words total n
laid_at start [] ends words total n laid l = absurd (omega arith)
laid_at start (p ∷ parents) [] words total n laid l = absurd laid
laid_at start (p ∷ parents) (e ∷ ends) words total zero laid l = record {
  begins = laid.0;
  narrow = laid.1;
  within = laid_upto e parents ends total laid.2;
  link = refl;
}
laid_at start (p ∷ parents) (e ∷ ends) words total (suc n) laid l =
    let rest = laid_at e parents ends words total n laid.2 (omega arith) in
    record { begins = rest.begins; narrow = rest.narrow; within = rest.within; link = rest.link }

-- the link that words behind the others make
pub laid_more : (start : ℕ) (parents ends words more : List ℕ) (p : ℕ) → 0 < length more → length more ≤ 65
    → AreLaidOut start parents ends (length words) →
    AreLaidOut start (parents ++ p ∷ []) (ends ++ length (words ++ more) ∷ []) (length (words ++ more)) ×
    (links_from start (parents ++ p ∷ []) (ends ++ length (words ++ more) ∷ []) (words ++ more) ≡
    links_from start parents ends words ++ record { parent = p; step = step_in more } ∷ [])
laid_more start [] [] words more p some few laid =
    let many = length-append words more in
    let all : take (length (words ++ more) - start) (drop start (words ++ more)) ≡ more =
    ap (λ n. take (length (words ++ more) - n) (drop n (words ++ more))) laid
    ∙ ap (λ n. take (n - length words) (drop (length words) (words ++ more))) many ∙ behind words more in (
      (omega (arith, laid, many), omega (arith, laid, many), refl),
      ap (λ ws. record { parent = p; step = step_in ws } ∷ []) all,
    )
  where
    whole : (more : List ℕ) → take (length more) more ≡ more
    whole [] = refl
    whole (x ∷ more) = ap (λ t. x ∷ t) (whole more)

    behind : (words more : List ℕ) → take (length words + length more - length words)
        (drop (length words) (words ++ more)) ≡ more
    behind words more =
        let n : length words + length more - length words ≡ length more = omega arith in
        ap (λ n. take n (drop (length words) (words ++ more))) n
        ∙ ap (take (length more)) (skipped words more) ∙ whole more
      where
        skipped : (words more : List ℕ) → drop (length words) (words ++ more) ≡ more
        skipped [] more = refl
        skipped (x ∷ words) more = skipped words more
laid_more start [] (e ∷ ends) words more p some few laid = absurd laid
laid_more start (q ∷ parents) [] words more p some few laid = absurd laid
laid_more start (q ∷ parents) (e ∷ ends) words more p some few laid =
    let (a, b) = laid_more e parents ends words more p some few laid.2 in
    let upto = laid_upto e parents ends (length words) laid.2 in
    let first = laid.0 in
    let same : take (e - start) (drop start (words ++ more)) ≡ take (e - start) (drop start words) =
    ap (take (e - start)) (drop-append-le start words more (omega (arith, first, upto)))
    ∙ take-append-le (e - start) (drop start words) more (omega (arith, length-drop start words, upto)) in
    ((laid.0, laid.1, a), (λ i. record { parent = q; step = step_in (same i) } ∷ b i))

-- what is read of a link
pub parent_read : (parents ends words : List ℕ) (links : List Link) (n : ℕ)
    → AreLaidOut 0 parents ends (length words) → links_from 0 parents ends words ≡ links → n < length links →
    (n < length parents) × (get_or parents n 0 ≡ (link_at links n).parent)
parent_read parents ends words links n laid is l =
    let many = (laid_many 0 parents ends words (length words) laid).1 in
    let same = ap length is in
    let within : n < length parents = omega (arith, many, same, l) in (
      within,
      sym (ap (λ (k : Link). k.parent)
          (laid_at 0 parents ends words (length words) n laid within).link)
          ∙ ap (λ ls. (link_at ls n).parent) is,
    )

-- the part of the words that is the step of a link
pub record IsStepAt (ends words : List ℕ) (n : ℕ) (link : Link) : Type 0 where
  pub within : n < length ends
  pub begins : begin_of 0 ends n < get_or ends n 0
  pub narrow : get_or ends n 0 ≤ begin_of 0 ends n + 65
  pub upto : get_or ends n 0 ≤ length words
  pub step : link.step ≡ step_in (take (get_or ends n 0 - begin_of 0 ends n) (drop (begin_of 0 ends n) words))

pub step_read : (parents ends words : List ℕ) (links : List Link) (n : ℕ)
    → AreLaidOut 0 parents ends (length words) → links_from 0 parents ends words ≡ links → n < length links →
    IsStepAt ends words n (link_at links n)
step_read parents ends words links n laid is l =
    let (many, all) = laid_many 0 parents ends words (length words) laid in
    let same = ap length is in
    let there = laid_at 0 parents ends words (length words) n laid (omega (arith, all, same, l)) in
    record {
      within = omega (arith, many, all, same, l);
      begins = there.begins;
      narrow = there.narrow;
      upto = there.within;
      step = sym (ap (λ ls. (link_at ls n).step) is) ∙ ap (λ (k : Link). k.step) there.link;
    }

-- the step is that of the part
pub step_words : (ends words : List ℕ) (n : ℕ) (link : Link) (part : List ℕ) → IsStepAt ends words n link →
    part ≡ take (get_or ends n 0 - begin_of 0 ends n) (drop (begin_of 0 ends n) words)
    → link.step ≡ step_in part
step_words ends words n link part at is = at.step ∙ ap step_in (sym is)

-- what is left behind the first word, taken whole
pub all_of_rest : (part : List ℕ) → take (length part - 1) (drop 1 part) ≡ drop 1 part
all_of_rest [] = refl
all_of_rest (x ∷ part) = ap (λ n. take n part) (one_off (length part)) ∙ whole part
  where
    one_off : (n : ℕ) → suc n - 1 ≡ n
    one_off n = omega arith

    whole : (more : List ℕ) → take (length more) more ≡ more
    whole [] = refl
    whole (x ∷ more) = ap (λ t. x ∷ t) (whole more)

-- one more link, whose step's words are pushed one after another
pub pushed : (parents ends words args more_parents more_ends with_schema with_args read : List ℕ)
    (p schema : ℕ) →
    AreLaidOut 0 parents ends (length words) → length args ≤ 64 → with_schema ≡ words ++ schema ∷ []
    → with_args ≡ with_schema ++ args → read ≡ with_args →
    more_ends ≡ ends ++ length read ∷ [] → more_parents ≡ parents ++ p ∷ [] →
    AreLaidOut 0 more_parents more_ends (length with_args) ×
    (links_from 0 more_parents more_ends with_args ≡ links_from 0 parents ends words
    ++ record { parent = p; step = record { schema = schema; args = args } } ∷ [])
pushed parents ends words args more_parents more_ends with_schema with_args read p schema laid few a b c d e =
    let w : words ++ (schema ∷ args) ≡ with_args =
    sym (b ∙ ap (λ t. t ++ args) a ∙ append_assoc words (schema ∷ []) args) in
    let (one, two) = laid_more 0 parents ends words (schema ∷ args) p (omega arith)
    (omega (arith, few)) laid in
    let es : ends ++ length (words ++ (schema ∷ args)) ∷ [] ≡ more_ends =
    ap (λ t. ends ++ length t ∷ []) (w ∙ sym c) ∙ sym d in (
      subst (λ t. AreLaidOut 0 more_parents more_ends (length t)) w
          (subst (λ t. AreLaidOut 0 more_parents t (length (words ++ (schema ∷ args)))) es
          (subst (λ t. AreLaidOut 0 t (ends ++ length (words ++ (schema ∷ args)) ∷ [])
          (length (words ++ (schema ∷ args)))) (sym e) one)),
      (λ i. links_from 0 (e i) (sym es i) (sym w i)) ∙ two,
    )
