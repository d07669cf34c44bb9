use Rattle.std.proofs.Common.{◌≡◌, ◌-◌, arith, length, take, ap, sym, ◌∙◌}
use Rattle.std.proofs.lemmas.List.{length-take-le}
use Rattle.pl_rows.specs.Rows.{Rows}
use Rattle.pl_reduce.specs.Nodes.{node_at}
use Rattle.pl_cursor.specs.Answers.{stage_at}
use Rattle.pl_cursor.specs.Stages.{stages_of}
use Rattle.pl_reduce.specs.Layout.{stop_at}
use Rattle.pl_cursor.proofs.Stops.{at_stop, stop_brings, brings_fits, narrow_join}
use Rattle.pl_cursor.proofs.Narrowing.{sought_of, placed}
use Rattle.pl_cursor.proofs.narrow.place_of.Goals as goal

pub write_part-requires-clause-within : goal.write_part-requires-clause-within
write_part-requires-clause-within g c =
    let there = at_stop c.args.reduced.now c.args.layout.now c.args.t c.args.answer.now c.requires.layout
    c.requires.depth in
    let arity = ap length c.node_classes-arity.ensures in
    let brings = stop_brings c.args.reduced.now c.args.layout.now c.args.t _ c.args.answer.now
    c.requires.layout c.requires.depth arity c.requires.onward in
    let fits = brings_fits c.args.reduced.now c.args.t _ brings in
    let few = narrow_join c.args.reduced.now c.requires.layout.reduced in
    omega (arith, fits, few, there.from, ap length c.node_classes-arity.ensures, c.requires.answer)

pub write_part-requires-clause-room : goal.write_part-requires-clause-room
write_part-requires-clause-room g c =
    let there = at_stop c.args.reduced.now c.args.layout.now c.args.t c.args.answer.now c.requires.layout
    c.requires.depth in
    omega (arith, there.few, there.narrow, ap length c.node_classes-arity.ensures, c.look_up-range.auto.key)

pub slice_bounds-tuple-end : goal.slice_bounds-tuple-end
slice_bounds-tuple-end g c =
    let there = at_stop c.args.reduced.now c.args.layout.now c.args.t c.args.answer.now c.requires.layout
    c.requires.depth in
    omega (
      arith,
      there.few,
      ap length c.node_classes-arity.ensures,
      c.look_up-range.auto.key,
      c.write_part.auto.into,
    )

pub slice_bounds-prefix-end : goal.slice_bounds-prefix-end
slice_bounds-prefix-end g c =
    let there = at_stop c.args.reduced.now c.args.layout.now c.args.t c.args.answer.now c.requires.layout
    c.requires.depth in
    sym (length-take-le _ _
    (omega (
      arith,
      there.few,
      ap length c.node_classes-arity.ensures,
      c.look_up-range.auto.key,
      c.write_part.auto.into,
    )))

pub returns-clause-place : goal.returns-clause-place
returns-clause-place g c =
    let join = c.args.reduced.now in
    let there = at_stop join c.args.layout.now c.args.t c.args.answer.now c.requires.layout
    c.requires.depth in
    let arity : length c.node_classes-arity.result.now ≡ length
    (node_at join.nodes (stop_at c.args.layout.now.stops.now c.args.t).node).relation.classes =
    ap length c.node_classes-arity.ensures in
    let brings = stop_brings join c.args.layout.now c.args.t (length c.node_classes-arity.result.now)
    c.args.answer.now c.requires.layout c.requires.depth arity c.requires.onward in
    let fits = brings_fits join c.args.t _ brings in
    let few = narrow_join join c.requires.layout.reduced in
    let rows : (stage_at (stages_of join) c.args.t).rows ≡ c.table-table.result.now.rows = there.rows
    ∙ sym (ap (λ (t : Rows). t.rows) c.table-table.ensures) in
    let sought = sought_of (stage_at (stages_of join) c.args.t) (length join.classes)
    (length c.node_classes-arity.result.now - (stop_at c.args.layout.now.stops.now c.args.t).width)
    (stop_at c.args.layout.now.stops.now c.args.t).width (stop_at c.args.layout.now.stops.now c.args.t).from
    (length c.node_classes-arity.result.now)
    c.args.answer.now c.look_up-range.new.key c.write_part.new.into c.table-table.result.now.rows
    c.look_up-range.result.from c.look_up-range.result.to c.first_in-at.result
    c.look_up-range.ensures.found there.keys there.from rows
    (omega (arith, there.narrow, there.few, c.look_up-range.auto.key))
    (omega (arith, arity, there.narrow)) (omega (arith, fits, there.from))
    (omega (arith, few, c.requires.answer))
    c.write_part.ensures c.first_in-at.ensures.low c.first_in-at.ensures.high c.first_in-at.ensures.first in
    placed (stages_of join) (length join.classes) c.args.t
    (length c.node_classes-arity.result.now - (stop_at c.args.layout.now.stops.now c.args.t).width)
    c.args.answer.now
    (take (length c.node_classes-arity.result.now) c.write_part.new.into) c.look_up-range.new.key
    c.table-table.result.now.rows c.look_up-range.result.from c.look_up-range.result.to
    c.first_in-at.result c.has_at-found.result c.rows_past.result
    brings.kind brings.rest c.look_up-range.ensures.found sought rows
    c.has_at-found.ensures.yes c.has_at-found.ensures.no c.rows_past.ensures
