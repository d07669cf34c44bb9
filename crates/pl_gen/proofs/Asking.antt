-- The tables that a query is asked of stand for its state.
use Rattle.std.proofs.Common.{◌≡◌, ℕ, ◌<◌, ◌↔◌, IsTrue, Contains, Bool, true, false, not, List, length}
use Rattle.std.proofs.Common.{Option, Some, None, slice_get, get_or, refl, sym, ◌∙◌, ap, subst}
use Rattle.std.proofs.Math.Path.{fun_ext}
use Rattle.std.proofs.lemmas.Option.{get_or_from_slice_get, slice_get_within}
use Rattle.pl_rows.specs.Rows.{Rows, AreRows}
use Rattle.std.proofs.lemmas.List.Elements.{All-contains}
use Rattle.std.specs.List.{list_any}
use Rattle.std.specs.Prelude.{bytes_eq, All}
use Rattle.pl_task.specs.declared.data.Atom.{Atom}
use Rattle.pl_task.specs.declared.data.PredicateDef.{PredicateDef}
use Rattle.pl_task.specs.declared.data.Schema.{Schema}
use Rattle.pl_task.specs.declared.task.Task.{Task}
use Rattle.pl_task.specs.States.{State, initial}
use Rattle.pl_task.specs.WellFormed.{is_fluent}
use Rattle.pl_normal.specs.Query.{KeepsStatic}
use Rattle.pl_normal.specs.Tables.{row_atom}
use Rattle.pl_state.specs.StateOf.{is_fluent_in, is_fluent_one, state_in}
use Rattle.pl_state.specs.Tables.{IsTableOf, AreTablesOf}
use Rattle.pl_state.proofs.StatesOfWords.{among_rows, same_test, state_in-other}
use Rattle.pl_normal.proofs.Asking.{definition}
use Rattle.pl_normal.specs.StateTables.{AreTables, HasTable, is_true_by, state_of_tables}
use Rattle.std.proofs.lemmas.Bool.{not-true}
use Rattle.std.proofs.lemmas.Bool.{not-false}

static_one : (task : Task) (p : ℕ) (d : PredicateDef) → slice_get task.predicates p ≡ Some d →
    d.is_static ≡ true → is_fluent_in task p ≡ false
static_one task p d found is = ap is_fluent_one found ∙ ap not is

not_fluent : (task : Task) (p : ℕ) → is_fluent task.schemas p ≡ false → is_fluent_in task p ≡ false
not_fluent task p h = by (slice_get task.predicates p) refl
  where
    by : (found : Option PredicateDef) → slice_get task.predicates p ≡ found → is_fluent_in task p ≡ false
    by None at = ap is_fluent_one at
    by (Some d) at = static_one task p d at (task.predicates_ok.static p d at ∙ ap not h)

-- a state of the task keeps the atoms over static predicates
pub keeps_static : (task : Task) (words : List ℕ) → KeepsStatic task (state_in task words)
keeps_static task words a h = state_in-other task words a (not_fluent task a.predicate h)

-- ---- the tables of a state

-- they are tables of the task's fluent predicates
are_tables : (task : Task) (s : State) (tables : List (Option Rows)) → AreTablesOf task s tables →
    AreTables task tables
are_tables task s tables are = record { many = are.many; each = λ p d low. table_at p d low }
  where
    of_table : (p : ℕ) (d : Option Rows) (x : PredicateDef) → slice_get task.predicates p ≡ Some x →
        is_fluent task.schemas p ≡ true →
        (table : Rows) × (slice_get tables p ≡ Some (Some table)) × IsTableOf (length task.objects) s p
        x.arity table → HasTable task p (get_or tables p d)
    of_table p d x found fluent (table, here, is) =
        subst (HasTable task p) (sym (get_or_from_slice_get tables p (Some table) d here)) (
          fluent,
          record {
            arity = λ y same. is.wide ∙ ap (λ (z : PredicateDef). z.arity) (let e : x ≡ y = cc in e);
            objects = record {
              rows = subst (λ n. AreRows n table.rows) (sym is.wide) is.true_rows.table;
              within = λ row o c m. All-contains (λ n. n < length task.objects) row o
                  (All-contains (λ (r : List ℕ). All (λ n. n < length task.objects) r) table.rows row
                  is.true_rows.within c) m;
            };
          },
        )

    by : (p : ℕ) (d : Option Rows) (x : PredicateDef) (b : Bool) → p < length task.predicates →
        slice_get task.predicates p ≡ Some x → x.is_static ≡ b → HasTable task p (get_or tables p d)
    by p d x true low found is =
        subst (HasTable task p) (sym (get_or_from_slice_get tables p None d
        ((are.each p x low found).static is)))
        (not-true (is_fluent task.schemas p) (sym (task.predicates_ok.static p x found) ∙ is))
    by p d x false low found is =
        of_table p d x found (not-false (is_fluent task.schemas p)
        (sym (task.predicates_ok.static p x found) ∙ is)) ((are.each p x low found).fluent is)

    table_at : (p : ℕ) (d : Option Rows) → p < length tables → HasTable task p (get_or tables p d)
    table_at p d low =
        let low' : p < length task.predicates = subst (λ n. p < n) are.many low in
        let (x, found) = definition task.predicates p low' in by p d x x.is_static low' found refl

same_at : (task : Task) (words : List ℕ) (tables : List (Option Rows)) →
    AreTablesOf task (state_in task words) tables → (a : Atom) →
    state_of_tables task tables a ≡ state_in task words a
unfolding state_of_tables
same_at task words tables are a = by (slice_get task.predicates a.predicate) refl
  where
    beyond : (x : Option (Option Rows)) → slice_get tables a.predicate ≡ x →
        slice_get task.predicates a.predicate ≡ None →
        is_true_by task a (slice_get tables a.predicate) ≡ initial task a
    beyond None at out = ap (is_true_by task a) at
    beyond (Some x) at out =
        let low : a.predicate < length task.predicates = subst (λ n. a.predicate < n) are.many
        (slice_get_within tables a.predicate x at) in
        let (d, found) = definition task.predicates a.predicate low in absurd (no_some d (sym out ∙ found))
      where
        no_some : (d : PredicateDef) → None ≡ Some d → ⊥
        no_some d e = absurd (cc)

    of_table : (d : PredicateDef) → (table : Rows) × (slice_get tables a.predicate ≡ Some (Some table)) ×
        IsTableOf (length task.objects) (state_in task words) a.predicate d.arity table →
        is_true_by task a (slice_get tables a.predicate) ≡ state_in task words a
    of_table d (table, here, is) =
        ap (is_true_by task a) here
        ∙ same_test (list_any (bytes_eq a.objects) table.rows) (state_in task words a) (
          λ h. (is.true_rows.members a.objects).0 ((among_rows table.rows a.objects).0 h),
          λ h. (among_rows table.rows a.objects).1 ((is.true_rows.members a.objects).1 h),
        )

    known : (d : PredicateDef) (b : Bool) → slice_get task.predicates a.predicate ≡ Some d → d.is_static ≡ b →
        is_true_by task a (slice_get tables a.predicate) ≡ state_in task words a
    known d true found is =
        ap (is_true_by task a) ((are.each a.predicate d (slice_get_within task.predicates a.predicate d found)
        found).static is)
        ∙ sym (state_in-other task words a (static_one task a.predicate d found is))
    known d false found is = of_table d ((are.each a.predicate d (slice_get_within task.predicates a.predicate
        d found) found).fluent is)

    by : (found : Option PredicateDef) → slice_get task.predicates a.predicate ≡ found →
        is_true_by task a (slice_get tables a.predicate) ≡ state_in task words a
    by None at = beyond (slice_get tables a.predicate) refl at ∙
        sym (state_in-other task words a (ap is_fluent_one at))
    by (Some d) at = known d d.is_static at refl

-- they stand for it
same_state : (task : Task) (words : List ℕ) (tables : List (Option Rows)) →
    AreTablesOf task (state_in task words) tables → state_of_tables task tables ≡ state_in task words
same_state task words tables are = fun_ext (same_at task words tables are)

-- the rows of a table that has an atom's rows in it
pub row_true : (task : Task) (words : List ℕ) (tables given : List (Option Rows)) (p : ℕ)
    (rows : List (List ℕ)) → given ≡ tables → AreTablesOf task (state_in task words) tables →
    ((row : List ℕ) → Contains rows row ↔ IsTrue (state_of_tables task given (row_atom p row))) →
    (row : List ℕ) → Contains rows row ↔ IsTrue (state_in task words (row_atom p row))
row_true task words tables given p rows same are held =
    subst (λ (s : State). (row : List ℕ) → Contains rows row ↔ IsTrue (s (row_atom p row)))
    (ap (state_of_tables task) same ∙ same_state task words tables are) held

-- the state that the tables stand for, as they are given
pub state_given : (task : Task) (words : List ℕ) (tables given : List (Option Rows)) → given ≡ tables →
    AreTablesOf task (state_in task words) tables → state_of_tables task given ≡ state_in task words
state_given task words tables given same are = ap (state_of_tables task) same ∙ same_state task words tables
    are

pub tables_given : (task : Task) (words : List ℕ) (tables given : List (Option Rows)) → given ≡ tables →
    AreTablesOf task (state_in task words) tables → AreTables task given
tables_given task words tables given same are = subst (AreTables task) (sym same)
    (are_tables task (state_in task words) tables are)

-- the schema with a number is one
pub same_schema : (task : Task) (number : ℕ) (a b : Schema) → slice_get task.schemas number ≡ Some a →
    slice_get task.schemas number ≡ Some b → a ≡ b
same_schema task number a b here there = (let e : Some a ≡ Some b = sym here ∙ there in cc)
