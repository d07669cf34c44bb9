use Rattle.std.proofs.Common.{◌<◌, List, length, subst}
use Rattle.pl_task.specs.declared.data.PredicateDef.{PredicateDef}
use Rattle.pl_state.proofs.Readings.{definition_read}
use Rattle.pl_state.proofs.StaticTables.{statics_none, statics_more}
use Rattle.pl_state.proofs.statics.static_tables.Goals as goal

pub loop-number-init : goal.loop-number-init
loop-number-init c = statics_none c.args.task.now c.in_ok-tables.tables.items c.in_ok-tables.ensures.items

pub loop-number-preserved : goal.loop-number-preserved
loop-number-preserved c =
    let within : c.loop-number.number < length c.args.task.now.predicates =
    subst (λ (ps : List PredicateDef). c.loop-number.number < length ps) c.as_slice-predicates.ensures
    c.loop-number-test.true in
    let found = definition_read c.args.task.now c.as_slice-predicates.result.now c.loop-number.number
    c.index-predicates-number.result c.as_slice-predicates.ensures within c.index-predicates-number.is in
    statics_more c.args.task.now c.loop-number.number c.loop-number.tables.items c.push.new.self.items
    c.index-predicates-number.result c.in_ok-table.table found c.in_ok-push.ensures.items
    c.in_ok-table.ensures c.loop-number.invariant
