-- Words that are made part by part.
use Rattle.std.proofs.Common.{◌≡◌, ◌+◌, ◌<◌, ◌≤◌, ℕ, true, false, cond, List, [], ◌++◌, length, take, refl}
use Rattle.std.proofs.Common.{sym, ap, ◌∙◌, subst, inl, inr, arith, slice_get, Some, nat_eq, eq-eqb}
use Rattle.std.proofs.lemmas.Bool.{cond-true, cond-false, cases_eq}
use Rattle.std.proofs.lemmas.List.{take_all, append-nil, length-take-le}
use Rattle.std.proofs.lemmas.Option.{slice_get_within}
use Rattle.pl_task.specs.declared.data.PredicateDef.{PredicateDef}
use Rattle.pl_task.specs.declared.task.Task.{Task}
use Rattle.pl_task.specs.States.{State}
use Rattle.pl_state.specs.Layout.{part_of, parts_from, AreTrueRows, IsLayoutOf}
use Rattle.pl_state.specs.Changing.{AppendsPart}
use Rattle.pl_state.proofs.PartWords.{parts_from-agree}
use Rattle.pl_state.proofs.Readings.{parts_more}

-- the words have the parts of the fluent ones of the first p predicates
pub record AreBuilt (task : Task) (s : State) (p : ℕ) (words : List ℕ) : Type 0 where
  pub rows : ℕ → List (List ℕ)
  pub words_are : words ≡ parts_from rows 0 (take p task.predicates)
  pub true_rows : (q : ℕ) (d : PredicateDef) → q < p → slice_get task.predicates q ≡ Some d →
      d.is_static ≡ false →
      AreTrueRows (length task.objects) s q d.arity (rows q)

pub built_none : (task : Task) (s : State) → AreBuilt task s 0 []
built_none task s = record { rows = λ _. []; words_are = refl; true_rows = λ q d l. absurd (omega arith) }

-- a static predicate has no part
pub built_static : (task : Task) (s : State) (p : ℕ) (words : List ℕ) (d : PredicateDef) →
    slice_get task.predicates p ≡ Some d → d.is_static ≡ true →
    AreBuilt task s p words → AreBuilt task s (p + 1) words
built_static task s p words d found static h = record {
  rows = h.rows;
  words_are = h.words_are ∙ sym (parts_more h.rows task.predicates p d found ∙
      ap (λ b. parts_from h.rows 0 (take p task.predicates) ++ cond b [] (part_of (h.rows p))) static ∙
      append-nil (parts_from h.rows 0 (take p task.predicates)));
  true_rows = λ q e l there fluent. earlier q e l there fluent;
}
  where
    earlier : (q : ℕ) (e : PredicateDef) → q < p + 1 → slice_get task.predicates q ≡ Some e →
        e.is_static ≡ false → AreTrueRows (length task.objects) s q e.arity (h.rows q)
    earlier q e l there fluent = elim (cases_eq q p) [
      | inl same ↦ (
          let again : slice_get task.predicates p ≡ Some e =
          subst (λ n. slice_get task.predicates n ≡ Some e) same there in
          let one : d ≡ e = one_of d e found again in
          absurd (clash (ap (λ (x : PredicateDef). x.is_static) one) static fluent)
          )
      | inr other ↦ h.true_rows q e (omega arith) there fluent
    ]
      where
        one_of : (x y : PredicateDef) → slice_get task.predicates p ≡ Some x →
            slice_get task.predicates p ≡ Some y → x ≡ y
        one_of x y a b = cc

        clash : d.is_static ≡ e.is_static → d.is_static ≡ true → e.is_static ≡ false → ⊥
        clash a b c = cc

-- the part of the next predicate is put behind the others
pub built_more : (task : Task) (s : State) (p : ℕ) (words new : List ℕ) (d : PredicateDef) →
    slice_get task.predicates p ≡ Some d → d.is_static ≡ false →
    AreBuilt task s p words → AppendsPart (length task.objects) s p d.arity words new →
    AreBuilt task s (p + 1) new
built_more task s p words new d found fluent h more = record {
  rows = rows;
  words_are = more.words_are ∙ ap (λ w. w ++ part_of more.rows) (h.words_are ∙ before) ∙
      ap (λ rs. parts_from rows 0 (take p task.predicates) ++ part_of rs) (sym here) ∙
      sym (parts_more rows task.predicates p d found ∙
      ap (λ b. parts_from rows 0 (take p task.predicates) ++ cond b [] (part_of (rows p))) fluent);
  true_rows = each;
}
  where
    rows : ℕ → List (List ℕ)
    rows q = cond (nat_eq q p) more.rows (h.rows q)

    here : rows p ≡ more.rows
    here = cond-true (nat_eq p p) more.rows (h.rows p) (eq-eqb p p refl)

    other : (q : ℕ) → q < p → rows q ≡ h.rows q
    other q l = let f : nat_eq q p ≡ false = grind arith in cond-false (nat_eq q p) more.rows (h.rows q) f

    before : parts_from h.rows 0 (take p task.predicates) ≡ parts_from rows 0 (take p task.predicates)
    before = parts_from-agree h.rows rows 0 (take p task.predicates) (λ q e there f. within q e there)
      where
        within : (q : ℕ) (e : PredicateDef) → slice_get (take p task.predicates) q ≡ Some e →
            h.rows (0 + q) ≡ rows (0 + q)
        within q e there =
            let n : 0 + q ≡ q = omega arith in
            let l : q < length (take p task.predicates) =
            slice_get_within (take p task.predicates) q e there in
            let all : p ≤ length task.predicates =
            (let w = slice_get_within task.predicates p d found in omega arith) in
            let m : q < p = omega (arith, length-take-le p task.predicates all) in
            rw n (sym (other q m))

    each : (q : ℕ) (e : PredicateDef) → q < p + 1 → slice_get task.predicates q ≡ Some e →
        e.is_static ≡ false → AreTrueRows (length task.objects) s q e.arity (rows q)
    each q e l there f = elim (cases_eq q p) [
      | inl same ↦ (
          let again : slice_get task.predicates p ≡ Some e =
          subst (λ n. slice_get task.predicates n ≡ Some e) same there in
          let one : d ≡ e = one_of d e found again in
          let mine : AreTrueRows (length task.objects) s p e.arity (rows p) =
          subst (AreTrueRows (length task.objects) s p e.arity) (sym here)
          (subst (λ (x : PredicateDef). AreTrueRows (length task.objects) s p x.arity more.rows) one
          more.true_rows) in
          subst (λ n. AreTrueRows (length task.objects) s n e.arity (rows n)) (sym same) mine
          )
      | inr differ ↦ (
          let m : q < p = omega arith in
          subst (AreTrueRows (length task.objects) s q e.arity) (sym (other q m)) (h.true_rows q e m there f)
          )
    ]
      where
        one_of : (x y : PredicateDef) → slice_get task.predicates p ≡ Some x →
            slice_get task.predicates p ≡ Some y → x ≡ y
        one_of x y a b = cc

pub built_all : (task : Task) (s : State) (p : ℕ) (words : List ℕ) → length task.predicates ≤ p →
    AreBuilt task s p words → IsLayoutOf task s words
built_all task s p words past h = record {
  rows = h.rows;
  words_are = h.words_are ∙ ap (parts_from h.rows 0) (take_all p task.predicates past);
  true_rows = λ q d found fluent. h.true_rows q d (let w = slice_get_within task.predicates q d found in
      omega arith) found fluent;
}
