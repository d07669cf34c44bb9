use Rattle.std.proofs.Common.{◌≡◌, ◌<◌, ◌∙◌, ℕ, List, Some, ap, arith, get_or, length, slice_get, subst}
use Rattle.pl_task.specs.declared.data.Atom.{Atom}
use Rattle.pl_task.specs.declared.data.PredicateDef.{PredicateDef}
use Rattle.pl_task.specs.declared.task.Task.{Task}
use Rattle.pl_normal.specs.Tables.{AddsRow}
use Rattle.pl_normal.proofs.Tabling.{definition_read, gathered_none, gathered_row, on_ok, own_predicate}
use Rattle.pl_normal.proofs.Tabling.{width_here}
use Rattle.pl_normal.proofs.tables.gather_atom.Goals as goal

-- the initial atom and the definition of its predicate, as they are read
atom_read : (task : Task) (atoms : List Atom) (definitions : List PredicateDef) (i : ℕ) (a : Atom)
    (d : PredicateDef) → atoms ≡ task.init → definitions ≡ task.predicates → i < length task.init
    → a ≡ get_or atoms i a → d ≡ get_or definitions a.predicate d
    → (a ≡ get_or task.init i a) × (slice_get task.predicates a.predicate ≡ Some d)
atom_read task atoms definitions i a d same own low at here =
    let read : a ≡ get_or task.init i a = at ∙ ap (λ xs. get_or xs i a) same in (
      read,
      definition_read task.predicates definitions a.predicate d own (own_predicate task i a low read).0 here,
    )

pub returns-then-not-definition : goal.returns-then-not-definition
returns-then-not-definition c =
    let read = atom_read c.args.task.now c.as_slice.result.now c.as_slice-2.result.now c.args.i
    c.index-as_slice-i.result c.index-as_slice-place.result c.as_slice.ensures c.as_slice-2.ensures
    c.requires.within c.index-as_slice-i.is c.index-as_slice-place.is in
    gathered_none c.args.task.now.predicates c.args.task.now.init c.args.i c.index-as_slice-i.result
    c.index-as_slice-place.result c.args.builders.now c.requires.within read.0 c.requires.before read.1
    c.if-not-definition.true

pub add_row_at-requires-clause-width : goal.add_row_at-requires-clause-width
add_row_at-requires-clause-width c = λ b.
    let read = atom_read c.args.task.now c.as_slice.result.now c.as_slice-2.result.now c.args.i
    c.index-as_slice-i.result c.index-as_slice-place.result c.as_slice.ensures c.as_slice-2.ensures
    c.requires.within c.index-as_slice-i.is c.index-as_slice-place.is in
    ap length c.as_slice-3.ensures
    ∙ (width_here c.args.task.now c.args.i c.index-as_slice-i.result c.index-as_slice-place.result
    c.args.builders.now b c.requires.within read.0 c.requires.before read.1 c.if-not-definition.false).0

pub add_row_at-requires-clause-few : goal.add_row_at-requires-clause-few
add_row_at-requires-clause-few c = λ b.
    let read = atom_read c.args.task.now c.as_slice.result.now c.as_slice-2.result.now c.args.i
    c.index-as_slice-i.result c.index-as_slice-place.result c.as_slice.ensures c.as_slice-2.ensures
    c.requires.within c.index-as_slice-i.is c.index-as_slice-place.is in
    let low = (width_here c.args.task.now c.args.i c.index-as_slice-i.result c.index-as_slice-place.result
    c.args.builders.now b c.requires.within read.0 c.requires.before read.1 c.if-not-definition.false).1 in
    omega (arith, low, c.requires.few)

pub returns : goal.returns
returns c =
    let at : c.index-as_slice-i.result ≡ get_or c.args.task.now.init c.args.i c.index-as_slice-i.result =
    c.index-as_slice-i.is ∙ ap (λ xs. get_or xs c.args.i c.index-as_slice-i.result) c.as_slice.ensures in
    on_ok c.add_row_at.result
    (λ adds. gathered_row c.args.task.now.predicates c.args.task.now.init c.args.i c.index-as_slice-i.result
    c.args.builders.now c.add_row_at.new.builders c.requires.within at c.requires.before
    (subst (AddsRow c.args.builders.now c.add_row_at.new.builders c.index-as_slice-i.result.predicate)
    c.as_slice-3.ensures adds))
    c.add_row_at.ensures
