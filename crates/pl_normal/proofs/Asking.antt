-- The tables that a query is asked of have the true atoms of the state that they stand for.
use Rattle.std.proofs.Common.{◌≡◌, ℕ, ◌<◌, ◌↔◌, zero, suc, Bool, true, false, not, ◌+◌, length-append, IsTrue}
use Rattle.std.proofs.Common.{List, [], ◌∷◌, ◌++◌, length, Option, Some, None, inl, inr, slice_get, get_or}
use Rattle.std.proofs.Common.{bytes_eq, refl, sym, ◌∙◌, ap, subst, arith, Contains}
use Rattle.std.specs.List.{list_any}
use Rattle.std.proofs.lemmas.Bool.{false≢true}
use Rattle.std.proofs.lemmas.List.Elements.{All-contains}
use Rattle.std.proofs.lemmas.Option.{get_or_from_slice_get, slice_get_within, slice_get_read}
use Rattle.std.proofs.lemmas.Slice.Eq.{bytes_eq-Decides}
use Rattle.pl_rows.specs.Rows.{Rows, AreRows}
use Rattle.pl_rows.proofs.Canonical.{Contains-nil, Contains-cons_cases, ascending-none}
use Rattle.pl_task.specs.declared.data.Atom.{Atom}
use Rattle.pl_task.specs.declared.data.PredicateDef.{PredicateDef}
use Rattle.pl_task.specs.declared.data.Schema.{Schema}
use Rattle.pl_task.specs.declared.task.Task.{Task}
use Rattle.pl_task.specs.States.{State, initial}
use Rattle.pl_task.specs.WellFormed.{is_fluent, IsAtomOf}
use Rattle.pl_task.proofs.StateLemmas.{state_of-members}
use Rattle.pl_normal.specs.declared.form.Source.{Source}
use Rattle.pl_normal.specs.declared.form.Source.TheVariants as source
use Rattle.pl_normal.specs.Guards.{types_at}
use Rattle.pl_normal.specs.Queries.{IsArityOf}
use Rattle.pl_normal.specs.Query.{KeepsStatic, is_in_source, is_of_kind}
use Rattle.pl_normal.specs.StateTables.{AreTables, HasTable, HasObjectRows, is_true_by, state_of_tables}
use Rattle.pl_normal.specs.Tables.{AreStatics, IsStatic, IsAtomTable, IsTypeTable, row_atom}
use Rattle.pl_normal.proofs.KindLemmas.{typed_within}
use Rattle.pl_normal.proofs.Lists.{one_passes, passing_one}
use Rattle.pl_normal.proofs.Pushing.{each_pushed}
use Rattle.pl_normal.proofs.Tabling.{definition_read}

pub definition : (ds : List PredicateDef) (p : ℕ) → p < length ds →
    (d : PredicateDef) × (slice_get ds p ≡ Some d)
definition [] p h = absurd (omega arith)
definition (d ∷ ds) zero h = (d, refl)
definition (d ∷ ds) (suc p) h = definition ds p (omega arith)

-- a test for a row among others
row_among : (rows : List (List ℕ)) (row : List ℕ) → Contains rows row ↔ IsTrue (list_any (bytes_eq row) rows)
row_among rows row = (
  λ c. one_passes (bytes_eq row) rows row c ((bytes_eq-Decides row row).1 refl),
  λ h. found (passing_one (bytes_eq row) rows h),
)
  where
    found : (x : List ℕ) × Contains rows x × (bytes_eq row x ≡ true) → Contains rows row
    found (x, c, e) = subst (Contains rows) (sym ((bytes_eq-Decides row x).0 e)) c

-- ---- the state that tables stand for

read_at : (tables : List (Option Rows)) (p : ℕ) (x : Option Rows) → p < length tables →
    x ≡ get_or tables p x → slice_get tables p ≡ Some x
read_at tables p x low at = slice_get_read tables (length tables) p x refl low at

has_table : (task : Task) (tables : List (Option Rows)) (p : ℕ) (x : Option Rows) → AreTables task tables →
    slice_get tables p ≡ Some x → HasTable task p x
has_table task tables p x are found =
    subst (HasTable task p) (get_or_from_slice_get tables p x x found)
    (are.each p x (slice_get_within tables p x found))

-- the state keeps the atoms over static predicates
pub keeps_static : (task : Task) (tables : List (Option Rows)) → AreTables task tables →
    KeepsStatic task (state_of_tables task tables)
unfolding state_of_tables
keeps_static task tables are a static = by (slice_get tables a.predicate) refl
  where
    by : (x : Option (Option Rows)) → slice_get tables a.predicate ≡ x → is_true_by task a x ≡ initial task a
    by None at = refl
    by (Some None) at = refl
    by (Some (Some table)) at =
        absurd (false≢true (sym static ∙ (has_table task tables a.predicate (Some table) are at).0))

-- the table has the predicate's true atoms
pub record IsTrueTable (task : Task) (s : State) (p : ℕ) (table : Rows) : Type 0 where
  pub arity : (d : PredicateDef) → slice_get task.predicates p ≡ Some d → table.arity ≡ d.arity
  pub rows : (row : List ℕ) → Contains table.rows row ↔ IsTrue (s (row_atom p row))
  pub objects : HasObjectRows (length task.objects) table

-- a fluent predicate
pub fluent_table : (task : Task) (tables : List (Option Rows)) (p : ℕ) (table : Rows) →
    AreTables task tables →
    slice_get tables p ≡ Some (Some table) → IsTrueTable task (state_of_tables task tables) p table
unfolding state_of_tables
fluent_table task tables p table are at =
    let is = (has_table task tables p (Some table) are at).1 in record {
      arity = is.arity;
      rows = λ row. subst (λ x. Contains table.rows row ↔ IsTrue (is_true_by task (row_atom p row) x))
          (sym at)
          (row_among table.rows row);
      objects = is.objects;
    }

-- a static predicate
pub static_table : (task : Task) (s : State) (p : ℕ) (table : Rows) → KeepsStatic task s →
    is_fluent task.schemas p ≡ false →
    IsAtomTable task p table → IsTrueTable task s p table
static_table task s p table keeps static is = record {
  arity = is.arity;
  rows = λ row. (
    λ h. subst IsTrue (sym (keeps (row_atom p row) static))
        ((state_of-members task.init (row_atom p row)).1 ((is.atoms row).0 h)),
    λ h. (is.atoms row).1 ((state_of-members task.init (row_atom p row)).0
        (subst IsTrue (keeps (row_atom p row) static) h)),
  );
  objects = record {
    rows = is.rows;
    within = λ row x c m. All-contains (λ o. o < length task.objects) row x
        (All-contains (IsAtomOf task.objects task.predicates) task.init (row_atom p row) task.init_ok.each
        ((is.atoms row).0 c)).within m;
  };
}

-- the table of the types of a parameter, as a source
pub kind_source : (task : Task) (schema : Schema) (s : State) (p : ℕ) (table : Rows) →
    IsTypeTable task (types_at schema.parameters p) table →
    IsArityOf task (source.Kind p) table.arity × ((row : List ℕ) → Contains table.rows row ↔
    IsTrue (is_in_source task schema s (source.Kind p) row))
kind_source task schema s p table is = (
  record {
    kind = λ q same. is.arity;
    predicate = λ q d other found. absurd (cc);
  },
  is.objects,
)

-- as many objects as the rows of the predicate's table have values
pub values_wide : (task : Task) (p n m : ℕ) → p < length task.predicates →
    ((d : PredicateDef) → slice_get task.predicates p ≡ Some d → n ≡ d.arity) →
    ((d : PredicateDef) → slice_get task.predicates p ≡ Some d → m ≡ d.arity) → n ≡ m
values_wide task p n m low ours theirs = of_one (definition task.predicates p low)
  where
    of_one : (d : PredicateDef) × (slice_get task.predicates p ≡ Some d) → n ≡ m
    of_one (d, found) = ours d found ∙ sym (theirs d found)

kind_within : (task : Task) (types row : List ℕ) (x : ℕ) → is_of_kind task types row ≡ true →
    Contains row x → x < length task.objects
kind_within task types [] x h m = absurd (Contains-nil x m)
kind_within task types (o ∷ []) x h m = elim (Contains-cons_cases o [] x m) [
  | inl e ↦ subst (λ y. y < length task.objects) e (typed_within task types o h)
  | inr r ↦ absurd (Contains-nil x r)
]
kind_within task types (o ∷ (other ∷ rest)) x h m = absurd (cc)

pub kind_objects : (task : Task) (types : List ℕ) (table : Rows) → IsTypeTable task types table →
    HasObjectRows (length task.objects) table
kind_objects task types table is = record {
  rows = subst (λ n. AreRows n table.rows) (sym is.arity) is.rows;
  within = λ row x c m. kind_within task types row x ((is.objects row).0 c) m;
}

-- ---- the objects of sources

true_within : (task : Task) (a : Atom) (x : ℕ) → IsTrue (initial task a) → Contains a.objects x →
    x < length task.objects
true_within task a x h m =
    All-contains (λ o. o < length task.objects) a.objects x
    (All-contains (IsAtomOf task.objects task.predicates) task.init a task.init_ok.each
    ((state_of-members task.init a).0 h)).within m

atom_within : (task : Task) (tables : List (Option Rows)) (p : ℕ) (row : List ℕ) (x : ℕ) →
    AreTables task tables →
    IsTrue (state_of_tables task tables (row_atom p row)) → Contains row x → x < length task.objects
unfolding state_of_tables
atom_within task tables p row x are h m = by (slice_get tables p) refl h
  where
    by : (t : Option (Option Rows)) → slice_get tables p ≡ t → IsTrue (is_true_by task (row_atom p row) t) →
        x < length task.objects
    by None at held = true_within task (row_atom p row) x held m
    by (Some None) at held = true_within task (row_atom p row) x held m
    by (Some (Some table)) at held =
        (has_table task tables p (Some table) are at).1.objects.within row x
        ((row_among table.rows row).1 held) m

-- all rows of a source are of objects
pub source_objects : (task : Task) (schema : Schema) (tables : List (Option Rows)) (from : Source)
    (row : List ℕ) (x : ℕ) → AreTables task tables →
    IsTrue (is_in_source task schema (state_of_tables task tables) from row) → Contains row x →
    x < length task.objects
source_objects task schema tables (source.Kind p) row x are h m =
    kind_within task (types_at schema.parameters p) row x h m
source_objects task schema tables (source.Predicate p) row x are h m = atom_within task tables p row x are h m

-- ---- the tables as they are read

pub fluent_here : (task : Task) (tables : List (Option Rows)) (p : ℕ) (x : Option Rows) (table : Rows) →
    AreTables task tables →
    p < length task.predicates → x ≡ get_or tables p x → Some table ≡ x →
    IsTrueTable task (state_of_tables task tables) p table
fluent_here task tables p x table are low at same =
    let many = are.many in
    fluent_table task tables p table are (read_at tables p x (omega (arith, many, low)) at ∙ ap
    (λ y. Some y) (sym same))

pub static_here : (task : Task) (statics tables : List (Option Rows)) (p : ℕ) (x : Option Rows)
    (table : Rows) → AreStatics task statics →
    AreTables task tables → p < length task.predicates → x ≡ get_or statics p x → Some table ≡ x →
    IsTrueTable task (state_of_tables task tables) p table
static_here task statics tables p x table statics_are are low at same =
    let many = statics_are.many in
    let is : IsStatic task p (Some table) = subst (IsStatic task p) (sym (same ∙ at))
    (statics_are.each p x (omega (arith, many, low))) in
    static_table task (state_of_tables task tables) p table (keeps_static task tables are) is.0 is.1

-- ---- the tables without rows

pub record AreTablesBelow (task : Task) (count : ℕ) (tables : List (Option Rows)) : Type 0 where
  pub many : length tables ≡ count
  pub each : (p : ℕ) (d : Option Rows) → p < count → HasTable task p (get_or tables p d)

pub tables_more : (task : Task) (n : ℕ) (old new : List (Option Rows)) (x : Option Rows) →
    AreTablesBelow task n old → HasTable task n x →
    new ≡ old ++ x ∷ [] → AreTablesBelow task (n + 1) new
tables_more task n old new x are h e = record {
  many = ap length e ∙ (length-append old (x ∷ []) ∙ ap (λ k. k + 1) are.many);
  each = each_pushed (HasTable task) n old new x are.many are.each h e;
}

pub tables_all : (task : Task) (n : ℕ) (tables : List (Option Rows)) → n ≡ length task.predicates →
    AreTablesBelow task n tables → AreTables task tables
tables_all task n tables all are = record {
  many = are.many ∙ all;
  each = λ p d low. are.each p d (subst (λ k. p < k) are.many low);
}

not_static : (b : Bool) → false ≡ not b → b ≡ true
not_static true h = refl
not_static false h = absurd (false≢true h)

pub empty_is : (task : Task) (predicates : List PredicateDef) (p : ℕ) (d : PredicateDef) (table : Rows) →
    predicates ≡ task.predicates →
    p < length task.predicates → d ≡ get_or predicates p d → d.is_static ≡ false →
    table ≡ record { arity = d.arity; rows = [] } →
    HasTable task p (Some table)
empty_is task predicates p d table same low at fluent e =
    let found = definition_read task.predicates predicates p d same low at in (
      not_static (is_fluent task.schemas p) (sym fluent ∙ task.predicates_ok.static p d found),
      record {
        arity = λ x here. ap (λ (t : Rows). t.arity) e ∙ ap (λ (y : PredicateDef). y.arity)
            (some_same d x (sym found ∙ here));
        objects = subst (HasObjectRows (length task.objects)) (sym e) (record {
          rows = record { ascending = ascending-none; width = λ k y h. absurd (omega (arith, h)) };
          within = λ row x c m. absurd (Contains-nil row c);
        });
      },
    )
  where
    some_same : (x y : PredicateDef) → Some x ≡ Some y → x ≡ y
    some_same x y q = cc
