use Rattle.std.proofs.Common.{◌<◌, List, length, sym, subst, refl, ◌∙◌}
use Rattle.pl_rows.specs.Rows.{rows_of, IsAscending}
use Rattle.pl_task.specs.declared.data.PredicateDef.{PredicateDef}
use Rattle.pl_state.specs.StateOf.{state_in}
use Rattle.pl_state.specs.Layout.{AreTrueRows}
use Rattle.pl_state.proofs.Applyings.{part_whole, part_true}
use Rattle.pl_state.proofs.Readings.{definition_read, start_more, start_static}
use Rattle.pl_state.proofs.Tablings.{tables_none, tables_static, tables_fluent}
use Rattle.pl_state.proofs.tabling.tables_in.Goals as goal

pub loop-number-init : goal.loop-number-init
loop-number-init c =
    record {
      start = refl;
      made =
          tables_none c.args.task.now (state_in c.args.task.now c.args.words.now) c.in_ok-tables.tables.items
          c.in_ok-tables.ensures.items;
    }

pub loop-number-preserved-then-definition : goal.loop-number-preserved-then-definition
loop-number-preserved-then-definition c =
    let within : c.loop-number.number < length c.args.task.now.predicates =
    subst (λ (ps : List PredicateDef). c.loop-number.number < length ps) c.as_slice-predicates.ensures
    c.loop-number-test.true in
    let found = definition_read c.args.task.now c.as_slice-predicates.result.now c.loop-number.number
    c.index-predicates-number.result c.as_slice-predicates.ensures within c.index-predicates-number.is in
    record {
      start = start_static c.args.task.now c.args.words.now c.loop-number.number c.loop-number.at
          c.index-predicates-number.result c.loop-number.invariant.start found c.if-definition.true;
      made = tables_static c.args.task.now (state_in c.args.task.now c.args.words.now) c.loop-number.number
          c.loop-number.tables.items c.push.new.self.items c.index-predicates-number.result found
          c.if-definition.true
          c.in_ok-push.ensures.items c.loop-number.invariant.made;
    }

pub part_in-part-requires : goal.part_in-part-requires
part_in-part-requires c =
    let within : c.loop-number.number < length c.args.task.now.predicates =
    subst (λ (ps : List PredicateDef). c.loop-number.number < length ps) c.as_slice-predicates.ensures
    c.loop-number-test.true in
    let found = definition_read c.args.task.now c.as_slice-predicates.result.now c.loop-number.number
    c.index-predicates-number.result c.as_slice-predicates.ensures within c.index-predicates-number.is in
    part_whole c.args.task.now c.args.words.now c.loop-number.number c.loop-number.at
    c.index-predicates-number.result c.requires c.loop-number.invariant.start found c.if-definition.false

pub part_end-at-requires : goal.part_end-at-requires
part_end-at-requires c =
    let within : c.loop-number.number < length c.args.task.now.predicates =
    subst (λ (ps : List PredicateDef). c.loop-number.number < length ps) c.as_slice-predicates.ensures
    c.loop-number-test.true in
    let found = definition_read c.args.task.now c.as_slice-predicates.result.now c.loop-number.number
    c.index-predicates-number.result c.as_slice-predicates.ensures within c.index-predicates-number.is in
    part_whole c.args.task.now c.args.words.now c.loop-number.number c.loop-number.at
    c.index-predicates-number.result c.requires c.loop-number.invariant.start found c.if-definition.false

pub from_ascending-requires-clause-ascending : goal.from_ascending-requires-clause-ascending
from_ascending-requires-clause-ascending c =
    let within : c.loop-number.number < length c.args.task.now.predicates =
    subst (λ (ps : List PredicateDef). c.loop-number.number < length ps) c.as_slice-predicates.ensures
    c.loop-number-test.true in
    let found = definition_read c.args.task.now c.as_slice-predicates.result.now c.loop-number.number
    c.index-predicates-number.result c.as_slice-predicates.ensures within c.index-predicates-number.is in
    subst (λ f. IsAscending (rows_of c.index-predicates-number.result.arity c.part_in-part.result.count f))
    (sym c.in_ok-flat.ensures.items)
    (part_true c.args.task.now c.args.words.now c.loop-number.number c.loop-number.at
    c.index-predicates-number.result c.part_in-part.result.count c.part_in-part.result.flat.now c.requires
    c.loop-number.invariant.start found
    c.if-definition.false c.part_in-part.ensures.count c.part_in-part.ensures.flat).table.ascending

pub loop-number-preserved : goal.loop-number-preserved
loop-number-preserved c =
    let within : c.loop-number.number < length c.args.task.now.predicates =
    subst (λ (ps : List PredicateDef). c.loop-number.number < length ps) c.as_slice-predicates.ensures
    c.loop-number-test.true in
    let found = definition_read c.args.task.now c.as_slice-predicates.result.now c.loop-number.number
    c.index-predicates-number.result c.as_slice-predicates.ensures within c.index-predicates-number.is in
    let rows = subst (λ f. AreTrueRows (length c.args.task.now.objects)
    (state_in c.args.task.now c.args.words.now) c.loop-number.number
    c.index-predicates-number.result.arity
    (rows_of c.index-predicates-number.result.arity c.part_in-part.result.count f))
    (sym c.in_ok-flat.ensures.items)
    (part_true c.args.task.now c.args.words.now c.loop-number.number c.loop-number.at
    c.index-predicates-number.result c.part_in-part.result.count c.part_in-part.result.flat.now c.requires
    c.loop-number.invariant.start found
    c.if-definition.false c.part_in-part.ensures.count c.part_in-part.ensures.flat) in
    record {
      start = c.part_end-at.ensures ∙
          start_more c.args.task.now c.args.words.now c.loop-number.number c.loop-number.at
          c.index-predicates-number.result c.requires c.loop-number.invariant.start found
          c.if-definition.false;
      made = tables_fluent c.args.task.now (state_in c.args.task.now c.args.words.now) c.loop-number.number
          c.part_in-part.result.count c.in_ok-flat.flat.items c.loop-number.tables.items
          c.push-in-loop-number.new.self.items
          c.index-predicates-number.result c.from_ascending.result found c.if-definition.false
          c.from_ascending.ensures rows c.in_ok-push-2.ensures.items c.loop-number.invariant.made;
    }
