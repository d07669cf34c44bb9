use Rattle.std.proofs.Common.{refl, arith}
use Rattle.pl_normal.specs.Filters.{late_of}
use Rattle.pl_gen.specs.Queries.{state_asked}
use Rattle.pl_gen.specs.SchemaSteps.{passes_late}
use Rattle.pl_gen.proofs.Stepping.{given, row_wide, rows_after, row_passes, row_fails}
use Rattle.pl_gen.proofs.Reading.{row_read, row_local, none_fails}
use Rattle.pl_gen.proofs.turn.next_row.Goals as goal

pub passes_row-requires-clause-row : goal.passes_row-requires-clause-row
passes_row-requires-clause-row g c =
    let gives = given c.loop-row.cursor c.next.follows.lender-at-none c.next.result c.in-Some.row c.in-Some.is
    c.next.follows.holds-at-none in
    row_wide c.args.query.now.normal.now c.args.query.now.number c.args.query.now.schema.now
    c.loop-row.cursor c.next.follows.lender-at-none c.in-Some.row.now c.requires.query.found
    c.loop-row.invariant.1 gives

pub returns-then-passes_row-clause-next : goal.returns-then-passes_row-clause-next
returns-then-passes_row-clause-next g c =
    let gives = given c.loop-row.cursor c.next.follows.lender-at-none c.next.result c.in-Some.row c.in-Some.is
    c.next.follows.holds-at-none in (
      c.in-Some.row.now,
      row_passes (passes_late c.args.query.now.schema.now (state_asked c.args.query.now))
          c.args.cursor.now.left c.loop-row.cursor.left c.next.follows.lender-at-none.left c.in-Some.row.now
          c.passes_row.result c.loop-row.invariant.0 gives.left c.passes_row.ensures.passes
          c.if-passes_row.true,
      c.passes_row.ensures.agree,
    )

pub returns-then-passes_row-clause-rows : goal.returns-then-passes_row-clause-rows
returns-then-passes_row-clause-rows g c =
    let gives = given c.loop-row.cursor c.next.follows.lender-at-none c.next.result c.in-Some.row c.in-Some.is
    c.next.follows.holds-at-none in
    rows_after c.args.query.now.normal.now c.args.query.now.number c.loop-row.cursor
    c.next.follows.lender-at-none c.in-Some.row.now c.loop-row.invariant.1 gives

pub returns-then-passes_row-clause-cost : goal.returns-then-passes_row-clause-cost
returns-then-passes_row-clause-cost g c =
    let gives = given c.loop-row.cursor c.next.follows.lender-at-none c.next.result c.in-Some.row c.in-Some.is
    c.next.follows.holds-at-none in
    row_read c.args.query.now.schema.now c.loop-row.cursor c.next.follows.lender-at-none c.in-Some.row.now
    (late_of c.args.query.now.schema.now) _ c.loop-row.steps c.next.new.steps c.passes_row.new.steps
    c.loop-row.invariant.4 gives
    (c.loop-row.invariant.1.classes c.args.query.now.schema.now c.requires.query.found) refl
    c.next.ensures.cost c.passes_row.ensures.cost

pub returns-then-passes_row-clause-local : goal.returns-then-passes_row-clause-local
returns-then-passes_row-clause-local g c = λ none.
    row_local c.args.query.now.schema.now c.loop-row.cursor (late_of c.args.query.now.schema.now)
    c.args.steps.now c.loop-row.steps c.next.new.steps c.passes_row.new.steps none
    (c.loop-row.invariant.5 none)
    (c.loop-row.invariant.1.classes c.args.query.now.schema.now c.requires.query.found)
    refl c.next.ensures.cost c.passes_row.ensures.cost

pub loop-row-preserved : goal.loop-row-preserved
loop-row-preserved g c =
    let gives = given c.loop-row.cursor c.next.follows.lender-at-none c.next.result c.in-Some.row c.in-Some.is
    c.next.follows.holds-at-none in (
      row_fails (passes_late c.args.query.now.schema.now (state_asked c.args.query.now))
          c.args.cursor.now.left c.loop-row.cursor.left c.next.follows.lender-at-none.left c.in-Some.row.now
          c.passes_row.result c.loop-row.invariant.0 gives.left c.passes_row.ensures.passes
          c.if-passes_row.false,
      rows_after c.args.query.now.normal.now c.args.query.now.number c.loop-row.cursor
          c.next.follows.lender-at-none c.in-Some.row.now c.loop-row.invariant.1 gives,
      c.passes_row.ensures.values,
      search (arith, c.passes_row.ensures.rise, c.loop-row.invariant, c.next.ensures.rise),
      row_read c.args.query.now.schema.now c.loop-row.cursor c.next.follows.lender-at-none c.in-Some.row.now
          (late_of c.args.query.now.schema.now) _ c.loop-row.steps c.next.new.steps c.passes_row.new.steps
          c.loop-row.invariant.4 gives
          (c.loop-row.invariant.1.classes c.args.query.now.schema.now c.requires.query.found) refl
          c.next.ensures.cost c.passes_row.ensures.cost,
      λ none. none_fails _ _ c.passes_row.result none c.passes_row.ensures.passes c.if-passes_row.false,
    )
