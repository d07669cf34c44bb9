-- The tables of the static atoms, made one by one.
use Rattle.std.proofs.Common.{◌≡◌, ◌⊎◌, ◌+◌, ◌<◌, ℕ, true, List, [], ◌∷◌, ◌++◌, length, sym, ap, ◌∙◌, subst}
use Rattle.std.proofs.Common.{inl, inr, arith, Some, slice_get}
use Rattle.std.proofs.lemmas.Bool.{cases_eq}
use Rattle.std.proofs.lemmas.List.{length_push, get_or_push, get_or_append_left}
use Rattle.std.proofs.lemmas.Option.{slice_get-get_or, slice_get_within, get_or_from_slice_get, same_Some}
use Rattle.pl_rows.specs.Rows.{Rows}
use Rattle.pl_task.specs.declared.data.PredicateDef.{PredicateDef}
use Rattle.pl_task.specs.declared.task.Task.{Task}
use Rattle.pl_task.specs.States.{initial}
use Rattle.pl_state.specs.Statics.{IsAtomTable, AreStaticUpTo}

pub statics_none : (task : Task) (tables : List Rows) → tables ≡ [] → AreStaticUpTo task 0 tables
statics_none task tables e = record {
  many = ap length e;
  each = λ p d table found static there. (let l = slice_get_within tables p table there in
      let n : length tables ≡ 0 = ap length e in absurd (omega arith));
}

pub statics_more : (task : Task) (n : ℕ) (tables new : List Rows) (d : PredicateDef) (table : Rows) →
    slice_get task.predicates n ≡ Some d → new ≡ tables ++ table ∷ [] →
    (d.is_static ≡ true → IsAtomTable (initial task) n d.arity table) → AreStaticUpTo task n tables →
    AreStaticUpTo task (n + 1) new
statics_more task n tables new d table found push this h =
    subst (AreStaticUpTo task (n + 1)) (sym push) (record {
      many = length_push tables table ∙ ap (λ m. m + 1) h.many;
      each = λ p e t there static at. by_place p e t there static at (cases_eq p n);
    })
  where
    by_place : (p : ℕ) (e : PredicateDef) (t : Rows) → slice_get task.predicates p ≡ Some e →
        e.is_static ≡ true → slice_get (tables ++ table ∷ []) p ≡ Some t →
        (p ≡ n) ⊎ (p ≡ n → ⊥) → IsAtomTable (initial task) p e.arity t
    by_place p e t there static at (inl same) =
        let one : d ≡ e = same_Some d e (sym found ∙ ap (slice_get task.predicates) (sym same) ∙ there) in
        let last : table ≡ t = sym (get_or_push tables table table p (h.many ∙ sym same)) ∙
        get_or_from_slice_get (tables ++ table ∷ []) p t table at in
        subst (λ m. IsAtomTable (initial task) m e.arity t) (sym same)
        (subst (IsAtomTable (initial task) n e.arity) last
        (subst (λ (x : PredicateDef). IsAtomTable (initial task) n x.arity table) one
        (this (subst (λ (x : PredicateDef). x.is_static ≡ true) (sym one) static))))
    by_place p e t there static at (inr differ) =
        let l = slice_get_within (tables ++ table ∷ []) p t at in
        let long = length_push tables table in
        let before : p < length tables = omega (arith, h.many) in
        h.each p e t there static
        (slice_get-get_or tables p t before ∙
        ap Some (sym (get_or_append_left tables (table ∷ []) t p before) ∙
        get_or_from_slice_get (tables ++ table ∷ []) p t t at))
