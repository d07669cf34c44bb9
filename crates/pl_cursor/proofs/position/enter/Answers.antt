use Rattle.std.proofs.Common.{arith, length, ap}
use Rattle.pl_cursor.specs.Answers.{stage_at}
use Rattle.pl_cursor.specs.Stages.{stages_of}
use Rattle.pl_cursor.proofs.Stops.{at_stop, first_found, row_fits, row_there, narrow_join, first_row}
use Rattle.pl_cursor.proofs.position.enter.Goals as goal

pub row-row-requires : goal.row-row-requires
row-row-requires g c =
    let there = at_stop c.args.reduced.now c.args.layout.now c.args.t c.args.answer.now c.requires.layout
    c.requires.depth in
    let some = first_found (stage_at (stages_of c.args.reduced.now) c.args.t) c.args.answer.now
    c.look_up-range.new.key c.look_up-range.result.from c.look_up-range.result.to
    c.look_up-range.ensures.found c.requires.onward in
    let within = c.look_up-range.ensures.found.rows.within in
    rw c.table.ensures (omega (arith, some, within, ap length there.rows))

pub write_new-requires-clause-within : goal.write_new-requires-clause-within
write_new-requires-clause-within g c =
    let there = at_stop c.args.reduced.now c.args.layout.now c.args.t c.args.answer.now c.requires.layout
    c.requires.depth in
    let at = row_there _ _ c.table.result.now _ c.look_up-range.result.from c.row-row.result.now there.rows
    c.table.ensures c.row-row.ensures.row in
    let fits = row_fits c.args.reduced.now c.args.layout.now c.args.t c.look_up-range.result.from
    c.row-row.result.now c.requires.layout c.requires.depth at in
    let few = narrow_join c.args.reduced.now c.requires.layout.reduced in
    omega (arith, fits, few, c.requires.answer)

pub overflow_add-result : goal.overflow_add-result
overflow_add-result g c =
    let some = first_found (stage_at (stages_of c.args.reduced.now) c.args.t) c.args.answer.now
    c.look_up-range.new.key c.look_up-range.result.from c.look_up-range.result.to
    c.look_up-range.ensures.found c.requires.onward in
    let fits = c.look_up-range.type_inv.1.1.1.0.1 in
    omega (arith, some, fits)

pub returns-clause-first : goal.returns-clause-first
returns-clause-first g c =
    let there = at_stop c.args.reduced.now c.args.layout.now c.args.t c.args.answer.now c.requires.layout
    c.requires.depth in
    let at = row_there _ _ c.table.result.now _ c.look_up-range.result.from c.row-row.result.now there.rows
    c.table.ensures c.row-row.ensures.row in
    first_row (stage_at (stages_of c.args.reduced.now) c.args.t) c.args.answer.now c.write_new.new.answer
    c.look_up-range.new.key c.look_up-range.result.from c.look_up-range.result.to _ _ c.row-row.result.now
    c.look_up-range.ensures.found at there.keys there.from c.write_new.ensures
