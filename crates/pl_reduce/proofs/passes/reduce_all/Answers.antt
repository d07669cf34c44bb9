use Rattle.std.proofs.Common.{◌≡◌, ◌+◌, ◌-◌, ◌<◌, ◌≤◌, ℕ, List, [], length, map, slice_index, ap, sym, ◌∙◌}
use Rattle.std.proofs.Common.{arith, subst}
use Rattle.std.proofs.lemmas.Result.{on_ok_weaker}
use Rattle.pl_join.specs.Relation.{ClassRows}
use Rattle.pl_reduce.specs.Plan.{relation_at}
use Rattle.pl_reduce.specs.Lent.{nodes_with, lent_of}
use Rattle.pl_reduce.proofs.Options.{many_with, with_at, rows_none}
use Rattle.pl_reduce.specs.Passes.{IsPassedUp, up_probes}
use Rattle.pl_reduce.proofs.PassLemmas.{none_reduced, up_begins, up_at, down_begins, down_at}
use Rattle.pl_reduce.proofs.Emptied.{none_held, emptied_down}
use Rattle.pl_reduce.proofs.Costs.{up_cost, down_cost, turn_cost, turns_cost}
use Rattle.pl_reduce.proofs.passes.reduce_all.Goals as goal

pub loop-before-init : goal.loop-before-init
loop-before-init g c = record {
  many = omega (arith, c.len-last.ensures, c.requires.filled);
  there = c.requires.there;
  passed = up_begins (nodes_with c.args.lent.now c.args.own.now.items);
  cost = omega arith;
  rise = omega arith;
}

pub returns-in_err-reduce_parent-clause-cost : goal.returns-in_err-reduce_parent-clause-cost
returns-in_err-reduce_parent-clause-cost g c =
    turn_cost _ (nodes_with c.args.lent.now c.loop-before.own.items) c.args.parents.now c.loop-before.before
    (c.len-last.result - 1) _ _ c.loop-before.steps _ c.requires.parents
    (many_with (map lent_of c.args.lent.now) c.args.own.now.items)
    (omega (arith, c.len-last.ensures, c.requires.filled)) (omega (arith, c.loop-before-test.true))
    c.loop-before.invariant.passed.reduced c.loop-before.invariant.cost c.reduce_parent.ensures.cost

pub loop-before-preserved : goal.loop-before-preserved
loop-before-preserved g c = record {
  many = omega (arith, c.reduce_parent.ensures.many, c.loop-before.invariant.many);
  there = c.reduce_parent.ensures.there;
  passed = up_at (nodes_with c.args.lent.now c.args.own.now.items)
      (nodes_with c.args.lent.now c.loop-before.own.items)
      (nodes_with c.args.lent.now c.reduce_parent.new.own.items) c.args.parents.now c.loop-before.before
      c.requires.parents
      (omega (
        arith,
        c.len-last.ensures,
        c.loop-before-test.true,
        many_with (map lent_of c.args.lent.now) c.args.own.now.items,
      )) c.loop-before.invariant.passed
      c.in_ok-reduce_parent.ensures.reduced;
  cost = up_cost (nodes_with c.args.lent.now c.args.own.now.items)
      (nodes_with c.args.lent.now c.loop-before.own.items) c.args.parents.now c.loop-before.before _
      c.loop-before.steps _ c.loop-before.invariant.passed.reduced c.loop-before.invariant.cost
      c.reduce_parent.ensures.cost;
  rise = omega (arith, c.reduce_parent.ensures.rise, c.loop-before.invariant.rise);
}

pub loop-done-init : goal.loop-done-init
loop-done-init g c =
    let many : length (nodes_with c.args.lent.now c.args.own.now.items) ≡ c.len-last.result - 1 + 1 =
    omega (
      arith,
      c.len-last.ensures,
      c.requires.filled,
      many_with (map lent_of c.args.lent.now) c.args.own.now.items,
    ) in
    let end : c.loop-before.before ≡ c.len-last.result - 1 =
    omega (arith, c.loop-before-test.false, c.loop-before.auto.before-end) in
    let none : c.len-last.result - 1 - 0 ≡ c.len-last.result - 1 = omega arith in
    record {
      many = c.loop-before.invariant.many;
      there = c.loop-before.invariant.there;
      passed = rw none
          (down_begins (nodes_with c.args.lent.now c.args.own.now.items)
          (nodes_with c.args.lent.now c.loop-before.own.items) (c.len-last.result - 1) (omega (arith, many))
          (subst (IsPassedUp (nodes_with c.args.lent.now c.args.own.now.items)
          (nodes_with c.args.lent.now c.loop-before.own.items)) end c.loop-before.invariant.passed));
      cost = rw none
          (omega (
            arith,
            subst (λ n. c.loop-before.steps ≤ c.args.steps.now + up_probes
                (nodes_with c.args.lent.now c.args.own.now.items) c.args.parents.now n) end
                c.loop-before.invariant.cost,
          ));
      rise = c.loop-before.invariant.rise;
    }

pub returns-in_err-reduce_node-clause-cost : goal.returns-in_err-reduce_node-clause-cost
returns-in_err-reduce_node-clause-cost g c =
    let more = down_cost (nodes_with c.args.lent.now c.args.own.now.items)
    (nodes_with c.args.lent.now c.loop-done.own.items) c.args.parents.now
    (c.len-last.result - 1 - (c.loop-done.done + 1)) (c.len-last.result - 1 - c.loop-done.done) _
    c.loop-done.steps _
    (omega (arith, c.loop-done-test.true)) c.loop-done.invariant.passed.reduced c.loop-done.invariant.cost
    c.reduce_node.ensures.cost in
    turns_cost _ c.args.parents.now (c.len-last.result - 1) _ _ _ c.requires.parents
    (many_with (map lent_of c.args.lent.now) c.args.own.now.items)
    (omega (arith, c.len-last.ensures, c.requires.filled)) (omega (arith, more))

pub loop-done-preserved : goal.loop-done-preserved
loop-done-preserved g c =
    let node : c.len-last.result - 1 - c.loop-done.done ≡ c.len-last.result - 1 - (c.loop-done.done + 1) + 1 =
    omega (arith, c.loop-done-test.true) in
    record {
      many = omega (arith, c.reduce_node.ensures.many, c.loop-done.invariant.many);
      there = c.reduce_node.ensures.there;
      passed = down_at (nodes_with c.args.lent.now c.args.own.now.items)
          (nodes_with c.args.lent.now c.loop-done.own.items)
          (nodes_with c.args.lent.now c.reduce_node.new.own.items) c.args.parents.now
          (c.len-last.result - 1 - (c.loop-done.done + 1)) (c.len-last.result - 1 - c.loop-done.done) node
          c.requires.parents
          (omega (
            arith,
            c.len-last.ensures,
            c.requires.filled,
            many_with (map lent_of c.args.lent.now) c.args.own.now.items,
          )) c.loop-done.invariant.passed
          c.in_ok-reduce_node.ensures.reduced;
      cost = down_cost (nodes_with c.args.lent.now c.args.own.now.items)
          (nodes_with c.args.lent.now c.loop-done.own.items) c.args.parents.now
          (c.len-last.result - 1 - (c.loop-done.done + 1)) (c.len-last.result - 1 - c.loop-done.done) _
          c.loop-done.steps _
          node c.loop-done.invariant.passed.reduced c.loop-done.invariant.cost c.reduce_node.ensures.cost;
      rise = omega (arith, c.reduce_node.ensures.rise, c.loop-done.invariant.rise);
    }

pub returns-clause-cost : goal.returns-clause-cost
returns-clause-cost g c =
    turns_cost _ c.args.parents.now (c.len-last.result - 1) _ _ _ c.requires.parents
    (many_with (map lent_of c.args.lent.now) c.args.own.now.items)
    (omega (arith, c.len-last.ensures, c.requires.filled)) (omega (arith, c.loop-done.invariant.cost))

pub returns-then-has_empty-clause-passed : goal.returns-then-has_empty-clause-passed
returns-then-has_empty-clause-passed g c =
    let (k, l, none) = rw c.deref.ensures.value at (c.has_empty.ensures c.if-has_empty.true) in
    let given : List ClassRows = nodes_with c.args.lent.now c.args.own.now.items in
    let many : length given ≡ length c.args.own.now.items =
    many_with (map lent_of c.args.lent.now) c.args.own.now.items in
    let start = none_reduced given in
    let empty : (relation_at given k).rows ≡ [] = ap (λ (r : ClassRows). r.rows)
    (with_at c.args.lent.now c.args.own.now.items k l) ∙ none in
    on_ok_weaker c.empty_all.result
    (λ emptied. emptied_down given given (nodes_with c.args.lent.now c.empty_all.new.own.items)
    (length c.args.own.now.items) start (omega (arith, many, c.requires.filled))
    (none_held given given k start (omega (arith, many, l)) empty) emptied (sym many))
    c.empty_all.ensures.emptied

pub returns-then-is_empty_at-clause-passed : goal.returns-then-is_empty_at-clause-passed
returns-then-is_empty_at-clause-passed g c =
    let given : List ClassRows = nodes_with c.args.lent.now c.args.own.now.items in
    let old : List ClassRows = nodes_with c.args.lent.now c.reduce_parent.new.own.items in
    let many : length given ≡ length c.args.own.now.items =
    many_with (map lent_of c.args.lent.now) c.args.own.now.items in
    let many_old : length old ≡ length c.reduce_parent.new.own.items =
    many_with (map lent_of c.args.lent.now) c.reduce_parent.new.own.items in
    let low : c.loop-before.before + 1 < length given =
    omega (arith, c.len-last.ensures, c.loop-before-test.true, many) in
    let passed = up_at given (nodes_with c.args.lent.now c.loop-before.own.items) old c.args.parents.now
    c.loop-before.before c.requires.parents low c.loop-before.invariant.passed
    c.in_ok-reduce_parent.ensures.reduced in
    let p : ℕ = slice_index c.args.parents.now (c.loop-before.before + 1) in
    let within : p < length given = c.requires.parents.within (c.loop-before.before + 1) (omega arith) low in
    let none : (relation_at old p).rows ≡ [] = rows_none c.args.lent.now c.reduce_parent.new.own.items
    c.deref-in-loop-before.result.now p c.deref-in-loop-before.ensures.value
    (omega (
      arith,
      within,
      many,
      c.reduce_parent.ensures.many,
      c.loop-before.invariant.many,
      c.len-last.ensures,
      c.requires.filled,
    ))
    (c.is_empty_at.ensures c.if-is_empty_at.true) in
    on_ok_weaker c.empty_all-then-is_empty_at.result
    (λ emptied. emptied_down given old (nodes_with c.args.lent.now c.empty_all-then-is_empty_at.new.own.items)
    (length c.reduce_parent.new.own.items) passed.reduced (omega (arith, many, c.requires.filled))
    (none_held given old p passed.reduced within none) emptied (sym many_old))
    c.empty_all-then-is_empty_at.ensures.emptied

pub returns-then-is_empty_at-clause-cost : goal.returns-then-is_empty_at-clause-cost
returns-then-is_empty_at-clause-cost g c =
    turn_cost _ (nodes_with c.args.lent.now c.loop-before.own.items) c.args.parents.now c.loop-before.before
    (c.len-last.result - 1) _ _ c.loop-before.steps _ c.requires.parents
    (many_with (map lent_of c.args.lent.now) c.args.own.now.items)
    (omega (arith, c.len-last.ensures, c.requires.filled)) (omega (arith, c.loop-before-test.true))
    c.loop-before.invariant.passed.reduced c.loop-before.invariant.cost c.reduce_parent.ensures.cost

pub bounds-parents-node : goal.bounds-parents-node
bounds-parents-node g c =
    omega (
      arith,
      c.requires.parents.many,
      many_with (map lent_of c.args.lent.now) c.args.own.now.items,
      c.len-last.ensures,
      c.loop-before-test.true,
    )

pub reduce_parent-requires-clause-parent : goal.reduce_parent-requires-clause-parent
reduce_parent-requires-clause-parent g c =
    let many = many_with (map lent_of c.args.lent.now) c.args.own.now.items in
    let within = c.requires.parents.within (c.loop-before.before + 1) (omega arith)
    (omega (arith, many, c.len-last.ensures, c.loop-before-test.true)) in
    omega (arith, within, many, c.len-last.ensures, c.requires.filled, c.loop-before.invariant.many)

pub reduce_parent-requires-clause-pair : goal.reduce_parent-requires-clause-pair
reduce_parent-requires-clause-pair g c =
    c.requires.lent (c.loop-before.before + 1) (omega arith)
    (omega (
      arith,
      c.requires.parents.many,
      many_with (map lent_of c.args.lent.now) c.args.own.now.items,
      c.len-last.ensures,
      c.loop-before-test.true,
    ))

pub bounds-parents-node-in-loop-before : goal.bounds-parents-node-in-loop-before
bounds-parents-node-in-loop-before g c =
    omega (
      arith,
      c.requires.parents.many,
      many_with (map lent_of c.args.lent.now) c.args.own.now.items,
      c.len-last.ensures,
      c.loop-before-test.true,
    )

pub is_empty_at-requires-clause-within : goal.is_empty_at-requires-clause-within
is_empty_at-requires-clause-within g c =
    let many = many_with (map lent_of c.args.lent.now) c.args.own.now.items in
    let within = c.requires.parents.within (c.loop-before.before + 1) (omega arith)
    (omega (arith, many, c.len-last.ensures, c.loop-before-test.true)) in
    rw c.deref-in-loop-before.ensures.value
    (omega (
      arith,
      within,
      many,
      c.len-last.ensures,
      c.requires.filled,
      c.loop-before.invariant.many,
      c.reduce_parent.ensures.many,
    ))

pub bounds-parents-node-in-loop-done : goal.bounds-parents-node-in-loop-done
bounds-parents-node-in-loop-done g c =
    omega (
      arith,
      c.requires.parents.many,
      many_with (map lent_of c.args.lent.now) c.args.own.now.items,
      c.len-last.ensures,
      c.requires.filled,
    )

pub reduce_node-requires-clause-parent : goal.reduce_node-requires-clause-parent
reduce_node-requires-clause-parent g c =
    let many = many_with (map lent_of c.args.lent.now) c.args.own.now.items in
    let within = c.requires.parents.within (c.len-last.result - 1 - c.loop-done.done)
    (omega (arith, c.loop-done-test.true)) (omega (arith, many, c.len-last.ensures, c.requires.filled)) in
    omega (arith, within, many, c.len-last.ensures, c.requires.filled, c.loop-done.invariant.many)

pub reduce_node-requires-clause-pair : goal.reduce_node-requires-clause-pair
reduce_node-requires-clause-pair g c =
    c.requires.lent (c.len-last.result - 1 - c.loop-done.done) (omega (arith, c.loop-done-test.true))
    (omega (
      arith,
      c.requires.parents.many,
      many_with (map lent_of c.args.lent.now) c.args.own.now.items,
      c.len-last.ensures,
      c.requires.filled,
    ))
