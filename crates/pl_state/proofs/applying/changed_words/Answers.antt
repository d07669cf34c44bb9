use Rattle.std.proofs.Common.{◌<◌, ◌≤◌, List, length, sym, subst, ◌∙◌}
use Rattle.pl_task.specs.declared.data.PredicateDef.{PredicateDef}
use Rattle.pl_state.specs.StateOf.{state_in}
use Rattle.pl_state.proofs.Applyings.{applied_static, applied_untouched, applied_touched, applied_all}
use Rattle.pl_state.proofs.Applyings.{part_whole, part_true}
use Rattle.pl_state.proofs.Readings.{definition_read}
use Rattle.pl_state.proofs.applying.changed_words.Goals as goal

pub loop-number-preserved-then-definition : goal.loop-number-preserved-then-definition
loop-number-preserved-then-definition c =
    let within : c.loop-number.number < length c.args.task.now.predicates =
    subst (λ (ps : List PredicateDef). c.loop-number.number < length ps) c.as_slice-predicates.ensures
    c.loop-number-test.true in
    let found = definition_read c.args.task.now c.as_slice-predicates.result.now c.loop-number.number
    c.index-predicates-number.result c.as_slice-predicates.ensures within c.index-predicates-number.is in
    applied_static c.args.task.now c.args.old.now c.args.args.now c.args.deletes.now c.args.adds.now
    c.loop-number.number c.loop-number.from c.loop-number.at c.loop-number.new.items
    c.index-predicates-number.result
    found c.if-definition.true c.loop-number.invariant

pub part_end-at-requires : goal.part_end-at-requires
part_end-at-requires c =
    let within : c.loop-number.number < length c.args.task.now.predicates =
    subst (λ (ps : List PredicateDef). c.loop-number.number < length ps) c.as_slice-predicates.ensures
    c.loop-number-test.true in
    let found = definition_read c.args.task.now c.as_slice-predicates.result.now c.loop-number.number
    c.index-predicates-number.result c.as_slice-predicates.ensures within c.index-predicates-number.is in
    part_whole c.args.task.now c.args.old.now c.loop-number.number c.loop-number.at
    c.index-predicates-number.result c.requires.state c.loop-number.invariant.start found
    c.if-definition.false

pub loop-number-preserved-then-not-is_touched : goal.loop-number-preserved-then-not-is_touched
loop-number-preserved-then-not-is_touched c =
    let within : c.loop-number.number < length c.args.task.now.predicates =
    subst (λ (ps : List PredicateDef). c.loop-number.number < length ps) c.as_slice-predicates.ensures
    c.loop-number-test.true in
    let found = definition_read c.args.task.now c.as_slice-predicates.result.now c.loop-number.number
    c.index-predicates-number.result c.as_slice-predicates.ensures within c.index-predicates-number.is in
    applied_untouched c.args.task.now c.args.old.now c.args.args.now c.args.deletes.now c.args.adds.now
    c.loop-number.number c.loop-number.from c.loop-number.at c.part_end-at.result c.loop-number.new.items
    c.index-predicates-number.result
    c.requires.state found c.if-definition.false c.part_end-at.ensures (sym c.is_touched.ensures ∙
    c.if-not-is_touched.true) c.loop-number.invariant

pub part_in-part-requires : goal.part_in-part-requires
part_in-part-requires c =
    let within : c.loop-number.number < length c.args.task.now.predicates =
    subst (λ (ps : List PredicateDef). c.loop-number.number < length ps) c.as_slice-predicates.ensures
    c.loop-number-test.true in
    let found = definition_read c.args.task.now c.as_slice-predicates.result.now c.loop-number.number
    c.index-predicates-number.result c.as_slice-predicates.ensures within c.index-predicates-number.is in
    part_whole c.args.task.now c.args.old.now c.loop-number.number c.loop-number.at
    c.index-predicates-number.result c.requires.state c.loop-number.invariant.start found
    c.if-definition.false

pub change_part-requires-clause-ascending : goal.change_part-requires-clause-ascending
change_part-requires-clause-ascending c =
    let within : c.loop-number.number < length c.args.task.now.predicates =
    subst (λ (ps : List PredicateDef). c.loop-number.number < length ps) c.as_slice-predicates.ensures
    c.loop-number-test.true in
    let found = definition_read c.args.task.now c.as_slice-predicates.result.now c.loop-number.number
    c.index-predicates-number.result c.as_slice-predicates.ensures within c.index-predicates-number.is in
    (part_true c.args.task.now c.args.old.now c.loop-number.number c.loop-number.at
    c.index-predicates-number.result c.part_in-part.result.count c.part_in-part.result.flat.now
    c.requires.state c.loop-number.invariant.start found
    c.if-definition.false c.part_in-part.ensures.count c.part_in-part.ensures.flat).table.ascending

pub change_part-requires-clause-deletes : goal.change_part-requires-clause-deletes
change_part-requires-clause-deletes c =
    let within : c.loop-number.number < length c.args.task.now.predicates =
    subst (λ (ps : List PredicateDef). c.loop-number.number < length ps) c.as_slice-predicates.ensures
    c.loop-number-test.true in
    c.requires.deletes c.loop-number.number c.index-predicates-number.result
    (definition_read c.args.task.now c.as_slice-predicates.result.now c.loop-number.number
    c.index-predicates-number.result c.as_slice-predicates.ensures within c.index-predicates-number.is)

pub change_part-requires-clause-adds : goal.change_part-requires-clause-adds
change_part-requires-clause-adds c =
    let within : c.loop-number.number < length c.args.task.now.predicates =
    subst (λ (ps : List PredicateDef). c.loop-number.number < length ps) c.as_slice-predicates.ensures
    c.loop-number-test.true in
    c.requires.adds c.loop-number.number c.index-predicates-number.result
    (definition_read c.args.task.now c.as_slice-predicates.result.now c.loop-number.number
    c.index-predicates-number.result c.as_slice-predicates.ensures within c.index-predicates-number.is)

pub loop-number-preserved : goal.loop-number-preserved
loop-number-preserved c =
    let within : c.loop-number.number < length c.args.task.now.predicates =
    subst (λ (ps : List PredicateDef). c.loop-number.number < length ps) c.as_slice-predicates.ensures
    c.loop-number-test.true in
    let found = definition_read c.args.task.now c.as_slice-predicates.result.now c.loop-number.number
    c.index-predicates-number.result c.as_slice-predicates.ensures within c.index-predicates-number.is in
    let rows = part_true c.args.task.now c.args.old.now c.loop-number.number c.loop-number.at
    c.index-predicates-number.result c.part_in-part.result.count c.part_in-part.result.flat.now
    c.requires.state c.loop-number.invariant.start found
    c.if-definition.false c.part_in-part.ensures.count c.part_in-part.ensures.flat in
    applied_touched c.args.task.now c.args.old.now c.args.args.now c.args.deletes.now c.args.adds.now
    c.loop-number.number c.loop-number.from c.loop-number.at c.part_end-at.result c.loop-number.new.items
    c.extend_from_slice.new.self.items
    c.change_part.new.new.items c.index-predicates-number.result c.requires.state found c.if-definition.false
    c.part_end-at.ensures c.in_ok-extend_from_slice.ensures.items
    (c.in_ok-change_part.ensures (state_in c.args.task.now c.args.old.now) rows) c.loop-number.invariant

pub returns : goal.returns
returns c =
    applied_all c.args.task.now c.args.old.now c.args.args.now c.args.deletes.now c.args.adds.now
    c.loop-number.number c.loop-number.from c.loop-number.at c.loop-number.new.items
    c.extend_from_slice-2.new.self.items c.requires.state
    (subst (λ (ps : List PredicateDef). length ps ≤ c.loop-number.number) c.as_slice-predicates.ensures
    c.loop-number-test.false) c.in_ok-extend_from_slice-2.ensures.items c.loop-number.invariant
