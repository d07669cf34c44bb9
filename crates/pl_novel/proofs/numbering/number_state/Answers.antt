use Rattle.std.proofs.Common.{◌≡◌, ◌<◌, length, ap, subst, arith, List}
use Rattle.pl_rows.specs.Rows.{rows_of}
use Rattle.pl_task.specs.declared.data.PredicateDef.{PredicateDef}
use Rattle.pl_state.specs.Layout.{AreTrueRows}
use Rattle.pl_state.specs.StateOf.{state_in, arity_one}
use Rattle.pl_state.proofs.Readings.{definition_read}
use Rattle.pl_state.proofs.StatesOfWords.{fluent_from}
use Rattle.pl_novel.specs.Keys.{AreStateNumbers}
use Rattle.pl_novel.proofs.Lists.{extends_trans}
use Rattle.pl_novel.proofs.StateKeys.{state_none, state_static, state_fluent, state_extends}
use Rattle.pl_novel.proofs.numbering.number_state.Goals as goal

pub loop-predicate-init : goal.loop-predicate-init
loop-predicate-init c = state_none c.args.task.now (state_in c.args.task.now c.args.state.now)
    c.args.atoms.now.keys c.clear.new.self.items c.clear.ensures.items

pub loop-predicate-preserved-then-definition : goal.loop-predicate-preserved-then-definition
loop-predicate-preserved-then-definition c =
    let within : c.loop-predicate.predicate < length c.args.task.now.predicates =
    subst (λ (ps : List PredicateDef). c.loop-predicate.predicate < length ps)
    c.as_slice-predicates.ensures c.loop-predicate-test.true in
    let found = definition_read c.args.task.now c.as_slice-predicates.result.now c.loop-predicate.predicate
    c.index-predicates-predicate.result c.as_slice-predicates.ensures within
    c.index-predicates-predicate.is in
    state_static c.args.task.now (state_in c.args.task.now c.args.state.now) c.loop-predicate.predicate
    c.index-predicates-predicate.result c.args.atoms.now.keys c.loop-predicate.atoms.keys
    c.loop-predicate.numbers.items found c.if-definition.true c.loop-predicate.invariant

pub returns-in_err-number_rows-clause-extends : goal.returns-in_err-number_rows-clause-extends
returns-in_err-number_rows-clause-extends c =
    extends_trans c.args.atoms.now.keys c.loop-predicate.atoms.keys c.number_rows.new.atoms.keys
    (state_extends c.args.task.now (state_in c.args.task.now c.args.state.now) c.loop-predicate.predicate
    c.args.atoms.now.keys c.loop-predicate.atoms.keys c.loop-predicate.numbers.items
    c.loop-predicate.invariant)
    c.number_rows.ensures.extends

pub loop-predicate-preserved : goal.loop-predicate-preserved
loop-predicate-preserved c =
    let within : c.loop-predicate.predicate < length c.args.task.now.predicates =
    subst (λ (ps : List PredicateDef). c.loop-predicate.predicate < length ps)
    c.as_slice-predicates.ensures c.loop-predicate-test.true in
    let found = definition_read c.args.task.now c.as_slice-predicates.result.now c.loop-predicate.predicate
    c.index-predicates-predicate.result c.as_slice-predicates.ensures within
    c.index-predicates-predicate.is in
    let rows = subst (λ k. AreTrueRows (length c.args.task.now.objects)
    (state_in c.args.task.now c.args.state.now) c.loop-predicate.predicate k
    (rows_of k c.true_rows-rows.result.count c.true_rows-rows.result.flat.now))
    (ap arity_one found) c.true_rows-rows.ensures.rows in
    state_fluent c.args.task.now (state_in c.args.task.now c.args.state.now) c.loop-predicate.predicate
    c.index-predicates-predicate.result.arity
    (rows_of c.index-predicates-predicate.result.arity c.true_rows-rows.result.count
    c.true_rows-rows.result.flat.now) c.args.atoms.now.keys c.loop-predicate.atoms.keys
    c.number_rows.new.atoms.keys c.loop-predicate.numbers.items c.number_rows.new.numbers.items
    (fluent_from c.args.task.now c.loop-predicate.predicate c.index-predicates-predicate.result found
    c.if-definition.false) rows c.loop-predicate.invariant c.in_ok-number_rows.ensures.ok

pub returns-clause-ok : goal.returns-clause-ok
returns-clause-ok c =
    let same : length c.as_slice-predicates.result.now ≡ length c.args.task.now.predicates =
    ap length c.as_slice-predicates.ensures in
    let high = c.loop-predicate.auto.predicate-end in
    let low = c.loop-predicate-test.false in
    subst (λ n. AreStateNumbers c.args.task.now (state_in c.args.task.now c.args.state.now) n
    c.args.atoms.now.keys c.loop-predicate.atoms.keys c.loop-predicate.numbers.items)
    (omega (arith, same, high, low)) c.loop-predicate.invariant

pub returns-clause-extends : goal.returns-clause-extends
returns-clause-extends c =
    state_extends c.args.task.now (state_in c.args.task.now c.args.state.now) c.loop-predicate.predicate
    c.args.atoms.now.keys c.loop-predicate.atoms.keys c.loop-predicate.numbers.items
    c.loop-predicate.invariant
