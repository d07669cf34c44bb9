use Rattle.std.proofs.Common.{length, take, ◌+◌, ap, refl, subst, sym, ◌∙◌, arith, ne_eqb}
use Rattle.pl_join.specs.Relation.{ClassRows}
use Rattle.pl_normal.specs.Asked.{state_asked, source_rows}
use Rattle.pl_normal.specs.Queries.{IsSieved, edge_at}
use Rattle.pl_normal.proofs.Forms.{schema_of}
use Rattle.pl_normal.proofs.Edging.{passed_here, passed_by, filter_of}
use Rattle.pl_normal.proofs.Relating.{over_here, edge_passed, rises}
use Rattle.pl_normal.proofs.Sieving.{sieved_few, filter_taken, filter_passed, filters_taken}
use Rattle.pl_normal.proofs.relations.passing_rows.Goals as goal
use Rattle.pl_normal.proofs.relations.passing_rows.Goals.{then-placed-number+in_ok-relation}
use Rattle.pl_normal.proofs.relations.passing_rows.Goals.{else-placed-number}

pub loop-placed-init : goal.loop-placed-init
loop-placed-init g c = (c.requires.selected, omega arith, omega arith, refl)

pub sieved-requires-clause-sieve : goal.sieved-requires-clause-sieve
sieved-requires-clause-sieve g c =
    let is = schema_of c.args.query.now.task.now c.args.query.now.number c.args.query.now.schema.now
    c.requires.query.found in
    filter_of c.args.query.now.task.now c.args.query.now.schema.now c.loop-placed.placed-index
    c.as_slice-local.result.now c.placed-item.result is
    (c.as_slice-local.ensures ∙ c.requires.form.local) c.loop-placed-test.true c.placed-item.is

pub sieved-requires-clause-over : goal.sieved-requires-clause-over
sieved-requires-clause-over g c =
    over_here c.args.query.now.task.now c.args.query.now.schema.now (state_asked c.args.query.now)
    c.args.form.now.edges c.args.number c.loop-placed.placed-index c.as_slice-local.result.now
    c.placed-item.result c.loop-placed.relation
    (c.as_slice-local.ensures ∙ c.requires.form.local) c.requires.form.edges c.loop-placed-test.true
    c.placed-item.is c.requires.number c.if-placed-number.true c.loop-placed.invariant.0

pub loop-placed-preserved : goal.loop-placed-preserved
loop-placed-preserved g c =
    let is = schema_of c.args.query.now.task.now c.args.query.now.number c.args.query.now.schema.now
    c.requires.query.found in
    elim c.if-placed-number.branch [
      | then-placed-number+in_ok-relation w ↦ (
        subst (IsSieved c.args.query.now.task.now c.args.query.now.schema.now (state_asked c.args.query.now)
            (edge_at c.args.form.now.edges c.args.number) c.args.number
            (take (c.loop-placed.placed-index + 1) c.as_slice-local.result.now)) (sym w.relation-is)
            (passed_here c.args.query.now.task.now c.args.query.now.schema.now
            (state_asked c.args.query.now) (edge_at c.args.form.now.edges c.args.number) c.args.number
            c.loop-placed.placed-index c.as_slice-local.result.now c.placed-item.result
            c.loop-placed.relation w.in_ok-relation.relation c.loop-placed-test.true c.placed-item.is
            c.loop-placed.invariant.0 w.if-placed-number.true w.in_ok-relation.ensures.classes
            w.in_ok-relation.ensures.rows),
        rises c.args.steps.now c.loop-placed.steps w.sieved.new.steps c.if-placed-number.steps
            c.loop-placed.invariant.1 w.in_ok-relation.ensures.rise w.steps-is,
        filter_taken c.args.steps.now c.loop-placed.steps w.sieved.new.steps c.if-placed-number.steps
            c.loop-placed.placed-index (length c.loop-placed.relation.rows)
            (source_rows c.args.query.now c.args.number) c.loop-placed.invariant.2
            w.in_ok-relation.ensures.cost
            (sieved_few c.args.query.now.task.now c.args.query.now.schema.now (state_asked c.args.query.now)
            c.args.form.now.edges c.args.number (take c.loop-placed.placed-index
            c.as_slice-local.result.now) c.loop-placed.relation is c.requires.form.edges
            c.requires.number c.requires.objects w.in_ok-relation.ensures.whole c.loop-placed.invariant.0)
            w.steps-is,
        ap (λ (r : ClassRows). r.classes) w.relation-is ∙ (w.in_ok-relation.ensures.classes
            ∙ c.loop-placed.invariant.3),
      )
      | else-placed-number w ↦ (
        passed_by c.args.query.now.task.now c.args.query.now.schema.now (state_asked c.args.query.now)
            (edge_at c.args.form.now.edges c.args.number) c.args.number c.loop-placed.placed-index
            c.as_slice-local.result.now c.placed-item.result
            c.loop-placed.relation c.if-placed-number.relation c.loop-placed-test.true c.placed-item.is
            c.loop-placed.invariant.0 (ne_eqb c.placed-item.result.edge c.args.number
            w.if-placed-number.false) w.relation-is,
        rises c.args.steps.now c.loop-placed.steps c.loop-placed.steps c.if-placed-number.steps
            c.loop-placed.invariant.1 (omega arith) w.steps-is,
        filter_passed c.args.steps.now c.loop-placed.steps c.if-placed-number.steps
            c.loop-placed.placed-index (source_rows c.args.query.now c.args.number)
            c.loop-placed.invariant.2 w.steps-is,
        ap (λ (r : ClassRows). r.classes) w.relation-is ∙ c.loop-placed.invariant.3,
      )
    ]

pub returns-clause-relation : goal.returns-clause-relation
returns-clause-relation g c =
    edge_passed c.args.query.now.task.now c.args.query.now.schema.now (state_asked c.args.query.now)
    c.args.form.now.edges c.args.number c.loop-placed.placed-index c.as_slice-local.result.now
    c.loop-placed.relation
    (c.as_slice-local.ensures ∙ c.requires.form.local) c.requires.form.edges c.loop-placed-test.false
    c.requires.number c.loop-placed.invariant.0 c.relation_is_one.ensures

pub returns-clause-cost : goal.returns-clause-cost
returns-clause-cost g c =
    filters_taken c.args.steps.now c.loop-placed.steps c.loop-placed.placed-index
    (length c.as_slice-local.result.now) (length c.args.form.now.local)
    (source_rows c.args.query.now c.args.number) c.loop-placed.invariant.2
    c.loop-placed.auto.placed-index-end (ap length c.as_slice-local.ensures)
