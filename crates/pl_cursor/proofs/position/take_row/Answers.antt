use Rattle.std.proofs.Common.{arith, length}
use Rattle.pl_cursor.specs.Answers.{frame_at}
use Rattle.pl_cursor.specs.Stages.{stages_of}
use Rattle.pl_cursor.proofs.Links.{stages_laid}
use Rattle.pl_cursor.proofs.Stops.{at_stop, row_fits, row_there, narrow_join}
use Rattle.pl_cursor.proofs.Positions.{row_taken}
use Rattle.pl_cursor.proofs.position.take_row.Goals as goal

pub write_new-requires-clause-within : goal.write_new-requires-clause-within
write_new-requires-clause-within g c =
    let there = at_stop c.args.reduced.now c.args.layout.now c.args.t c.args.answer.now c.requires.layout
    c.requires.depth in
    let at = row_there _ _ c.table.result.now _ (frame_at c.args.frames.now c.args.t).at c.row-row.result.now
    there.rows c.table.ensures c.row-row.ensures.row in
    let fits = row_fits c.args.reduced.now c.args.layout.now c.args.t
    (frame_at c.args.frames.now c.args.t).at c.row-row.result.now c.requires.layout c.requires.depth at in
    let few = narrow_join c.args.reduced.now c.requires.layout.reduced in
    omega (arith, fits, few, c.requires.answer)

pub returns-clause-descends : goal.returns-clause-descends
returns-clause-descends g c =
    let there = at_stop c.args.reduced.now c.args.layout.now c.args.t c.args.answer.now c.requires.layout
    c.requires.depth in
    let at = row_there _ _ c.table.result.now _ (frame_at c.args.frames.now c.args.t).at c.row-row.result.now
    there.rows c.table.ensures c.row-row.ensures.row in
    let few = narrow_join c.args.reduced.now c.requires.layout.reduced in
    row_taken (stages_of c.args.reduced.now) (length c.args.reduced.now.classes) c.args.frames.now
    c.args.answer.now c.write_new.new.answer c.args.t _ _ c.row-row.result.now
    (stages_laid c.args.reduced.now c.requires.layout.reduced) (omega (arith, c.requires.layout.count))
    (omega (arith, c.requires.frames, few)) (omega (arith, c.requires.answer, few))
    c.requires.entered c.requires.open at there.from there.keys c.write_new.ensures
