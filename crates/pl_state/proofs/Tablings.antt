-- Tables that are made one by one.
use Rattle.std.proofs.Common.{◌≡◌, ◌⊎◌, ◌+◌, ◌<◌, ℕ, true, false, List, [], ◌∷◌, ◌++◌, length, sym, ap, ◌∙◌}
use Rattle.std.proofs.Common.{subst, inl, inr, arith, Option, Some, None, slice_get}
use Rattle.std.proofs.lemmas.Bool.{cases_eq, true≢false}
use Rattle.std.proofs.lemmas.List.{length_push, get_or_push, get_or_append_left}
use Rattle.std.proofs.lemmas.Option.{slice_get-get_or, slice_get_within, get_or_from_slice_get, same_Some}
use Rattle.pl_rows.specs.Rows.{Rows, rows_of}
use Rattle.pl_task.specs.declared.data.PredicateDef.{PredicateDef}
use Rattle.pl_task.specs.declared.task.Task.{Task}
use Rattle.pl_task.specs.States.{State}
use Rattle.pl_state.specs.Layout.{AreTrueRows}
use Rattle.pl_state.specs.Tables.{HasItsTable, AreTablesUpTo}

slice_get_push : {X : Type 0} (xs : List X) (x : X) (n : ℕ) → length xs ≡ n →
    slice_get (xs ++ x ∷ []) n ≡ Some x
slice_get_push xs x n len =
    let l = length_push xs x in
    slice_get-get_or (xs ++ x ∷ []) n x (omega arith) ∙ ap Some (get_or_push xs x x n len)

slice_get_before : {X : Type 0} (xs : List X) (x : X) (p : ℕ) (y : X) → slice_get xs p ≡ Some y →
    slice_get (xs ++ x ∷ []) p ≡ Some y
slice_get_before xs x p y h =
    let w = slice_get_within xs p y h in
    let l = length_push xs x in
    slice_get-get_or (xs ++ x ∷ []) p y (omega arith) ∙
    ap Some (get_or_append_left xs (x ∷ []) y p w ∙ get_or_from_slice_get xs p y y h)

pub tables_none : (task : Task) (s : State) (tables : List (Option Rows)) → tables ≡ [] →
    AreTablesUpTo task s 0 tables
tables_none task s tables e = record { many = ap length e; each = λ p d l. absurd (omega arith) }

tables_more : (task : Task) (s : State) (n : ℕ) (tables : List (Option Rows)) (d : PredicateDef)
    (table : Option Rows) → slice_get task.predicates n ≡ Some d →
    HasItsTable (length task.objects) s n d (tables ++ table ∷ []) → AreTablesUpTo task s n tables →
    AreTablesUpTo task s (n + 1) (tables ++ table ∷ [])
tables_more task s n tables d table found this h = record {
  many = length_push tables table ∙ ap (λ m. m + 1) h.many;
  each = λ p e l there. by_place p e there (cases_eq p n) l;
}
  where
    by_place : (p : ℕ) (e : PredicateDef) → slice_get task.predicates p ≡ Some e → (p ≡ n) ⊎ (p ≡ n → ⊥) →
        p < n + 1 → HasItsTable (length task.objects) s p e (tables ++ table ∷ [])
    by_place p e there (inl same) l =
        let one : d ≡ e = same_Some d e (sym found ∙ ap (slice_get task.predicates) (sym same) ∙ there) in
        subst (λ m. HasItsTable (length task.objects) s m e (tables ++ table ∷ [])) (sym same)
        (subst (λ (x : PredicateDef). HasItsTable (length task.objects) s n x (tables ++ table ∷ [])) one
        this)
    by_place p e there (inr differ) l = earlier (h.each p e (omega arith) there)
      where
        earlier : HasItsTable (length task.objects) s p e tables →
            HasItsTable (length task.objects) s p e (tables ++ table ∷ [])
        earlier x = record {
          static = λ t. slice_get_before tables table p None (x.static t);
          fluent = λ f. (let (t, at, is) = x.fluent f in
              (t, slice_get_before tables table p (Some t) at, is));
        }

pub tables_static : (task : Task) (s : State) (n : ℕ) (tables new : List (Option Rows)) (d : PredicateDef) →
    slice_get task.predicates n ≡ Some d → d.is_static ≡ true → new ≡ tables ++ None ∷ [] →
    AreTablesUpTo task s n tables → AreTablesUpTo task s (n + 1) new
tables_static task s n tables new d found static push h =
    subst (AreTablesUpTo task s (n + 1)) (sym push) (tables_more task s n tables d None found (record {
      static = λ _. slice_get_push tables None n h.many;
      fluent = λ f. absurd (true≢false (sym static ∙ f));
    }) h)

pub tables_fluent : (task : Task) (s : State) (n count : ℕ) (flat : List ℕ) (tables new : List (Option Rows))
    (d : PredicateDef) (table : Rows) → slice_get task.predicates n ≡ Some d → d.is_static ≡ false →
    table ≡ record { arity = d.arity; rows = rows_of d.arity count flat } →
    AreTrueRows (length task.objects) s n d.arity (rows_of d.arity count flat) →
    new ≡ tables ++ Some table ∷ [] →
    AreTablesUpTo task s n tables → AreTablesUpTo task s (n + 1) new
tables_fluent task s n count flat tables new d table found fluent is rows push h =
    subst (AreTablesUpTo task s (n + 1)) (sym push)
    (tables_more task s n tables d (Some table) found (record {
      static = λ t. absurd (true≢false (sym t ∙ fluent));
      fluent = λ _. (
        table,
        slice_get_push tables (Some table) n h.many,
        record {
          wide = ap (λ (r : Rows). r.arity) is;
          true_rows = subst (AreTrueRows (length task.objects) s n d.arity)
              (sym (ap (λ (r : Rows). r.rows) is)) rows;
        },
      );
    }) h)
