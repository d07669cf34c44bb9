use Rattle.std.proofs.Common.{◌≡◌, map, sym, ap, subst, ◌∙◌, arith, false, Some}
use Rattle.pl_rows.specs.Rows.{rows_of}
use Rattle.pl_rows.specs.Layout.{comes_before, IsNarrowed}
use Rattle.pl_rows.proofs.Places.{length-rows_of, width-rows_of}
use Rattle.pl_task.specs.States.{value_of}
use Rattle.pl_state.specs.Changing.{row_under}
use Rattle.pl_state.proofs.Mergings.{IsUnderWay, under_way_none, under_way_narrowed, under_way_more}
use Rattle.pl_state.proofs.Mergings.{under_way_all, left_less, next_over}
use Rattle.pl_state.proofs.merging.merge.Goals as goal

pub loop-effect-init : goal.loop-effect-init
loop-effect-init c =
    under_way_none c.args.args.now c.args.predicate c.args.arity c.args.deletes.now c.args.adds.now
    (rows_of c.args.arity c.args.old.count c.args.old.flat.now) c.args.new.now.items

pub merge_row-requires-clause-within : goal.merge_row-requires-clause-within
merge_row-requires-clause-within c =
    let l = length-rows_of c.args.arity c.args.old.count c.args.old.flat.now in
    let w = c.loop-effect.invariant.merged.within in
    omega arith

pub merge_row-requires-clause-narrowed : goal.merge_row-requires-clause-narrowed
merge_row-requires-clause-narrowed c =
    let is : c.write_row.new.row ≡ row_under c.args.args.now c.in-Some.effect.now =
    c.write_row.ensures ∙ ap (map (value_of c.args.args.now)) c.as_slice.ensures in
    subst (λ r. IsNarrowed (comes_before false r) (rows_of c.args.arity c.args.old.count c.args.old.flat.now)
    c.loop-effect.done c.args.old.count) (sym is)
    (under_way_narrowed c.args.args.now c.args.predicate c.args.arity c.args.old.count c.args.deletes.now
    c.args.adds.now (rows_of c.args.arity c.args.old.count c.args.old.flat.now) c.loop-effect.last
    c.loop-effect.done c.loop-effect.many
    c.args.new.now.items c.loop-effect.new.items c.in-Some.effect.now
    (sym (length-rows_of c.args.arity c.args.old.count c.args.old.flat.now)) c.in-Some.ensures.row
    c.loop-effect.invariant c.in-Some.ensures.next)

pub loop-effect-preserved : goal.loop-effect-preserved
loop-effect-preserved c =
    let is : c.write_row.new.row ≡ row_under c.args.args.now c.in-Some.effect.now =
    c.write_row.ensures ∙ ap (map (value_of c.args.args.now)) c.as_slice.ensures in
    subst (λ n. IsUnderWay c.args.args.now c.args.predicate c.args.arity c.args.deletes.now c.args.adds.now
    (rows_of c.args.arity c.args.old.count c.args.old.flat.now) (Some c.in-Some.effect) c.in_ok-next.next
    n c.args.new.now.items c.merge_row.new.new.items)
    (sym c.in_ok-many.ensures.value)
    (under_way_more c.args.args.now c.args.predicate c.args.arity c.args.deletes.now c.args.adds.now
    (rows_of c.args.arity c.args.old.count c.args.old.flat.now) c.loop-effect.last c.loop-effect.done
    c.loop-effect.many
    c.in_ok-next.next c.in_ok-next.more c.args.new.now.items c.loop-effect.new.items c.merge_row.new.new.items
    c.in-Some.effect c.write_row.new.row c.names-added.result
    c.requires.ascending (width-rows_of c.args.arity c.args.old.count c.args.old.flat.now c.requires.whole)
    c.requires.adds c.in-Some.ensures.row is c.names-added.ensures
    c.loop-effect.invariant c.in-Some.ensures.next c.in_ok-next.ensures.up_to)

pub loop-effect-smaller : goal.loop-effect-smaller
loop-effect-smaller c =
    left_less c.args.args.now c.args.predicate c.args.arity _ c.loop-effect.last c.in-Some.effect
    c.loop-effect.invariant.last_row c.in-Some.ensures.row c.in-Some.ensures.next

pub copy_rows-requires-clause-in_order : goal.copy_rows-requires-clause-in_order
copy_rows-requires-clause-in_order c =
    let l = length-rows_of c.args.arity c.args.old.count c.args.old.flat.now in
    let w = c.loop-effect.invariant.merged.within in
    omega arith

pub overflow_sub-old : goal.overflow_sub-old
overflow_sub-old c =
    let l = length-rows_of c.args.arity c.args.old.count c.args.old.flat.now in
    let w = c.loop-effect.invariant.merged.within in
    omega arith

pub returns-clause-after : goal.returns-clause-after
returns-clause-after c =
    under_way_all c.args.args.now c.args.predicate c.args.arity c.args.old.count c.args.deletes.now
    c.args.adds.now (rows_of c.args.arity c.args.old.count c.args.old.flat.now) c.loop-effect.last
    c.loop-effect.done c.loop-effect.many c.in_ok-count.count
    c.args.new.now.items c.loop-effect.new.items c.copy_rows.new.new.items
    c.requires.ascending (width-rows_of c.args.arity c.args.old.count c.args.old.flat.now c.requires.whole)
    (sym (length-rows_of c.args.arity c.args.old.count c.args.old.flat.now))
    c.loop-effect.invariant
    (next_over c.args.args.now c.args.predicate _ _ c.next_effect.result c.in_default.not-Some
    c.next_effect.ensures.next) c.in_ok-copy_rows.ensures c.in_ok-count.ensures.value
