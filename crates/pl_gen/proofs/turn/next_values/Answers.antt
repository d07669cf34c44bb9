use Rattle.std.proofs.Common.{ap, ◌∙◌}
use Rattle.pl_gen.specs.Turns.{prepared_of, steps_of_turn}
use Rattle.pl_gen.proofs.Stepping.{once_step, rows_next}
use Rattle.pl_gen.proofs.turn.next_values.Goals as goal

pub returns-in-Once-clause-next : goal.returns-in-Once-clause-next
returns-in-Once-clause-next g c =
    ap (steps_of_turn c.args.query.now) c.in-Once.is
    ∙ once_step c.args.query.now.normal.now (prepared_of c.args.query.now) c.args.query.now.number
    c.args.query.now.schema.now c.args.values.now c.requires.query.found
    (c.requires.turn.once c.args.query.now.schema.now c.in-Once.is c.requires.query.found)

pub returns-in-Rows-clause-next : goal.returns-in-Rows-clause-next
returns-in-Rows-clause-next g c =
    rows_next c.args.query.now c.args.turn.now c.in-Rows.cursor c.next_row.new.cursor c.next_row.new.values
    c.next_row.result c.in-Rows.is c.requires.query.found c.next_row.ensures.next
