use Rattle.std.proofs.Common.{◌≡◌, ◌+◌, ◌-◌, ◌∙◌, refl, arith}
use Rattle.pl_reduce.proofs.Fixations.{fixed_begins, fixed_goes_on, up_step_at, down_up_at, down_at}
use Rattle.pl_reduce.proofs.fixing.reduce_fixed.Goals as goal

pub loop-before-init : goal.loop-before-init
loop-before-init g c = record {
  many = omega (arith, c.len-last.ensures, c.requires.filled);
  fixed = fixed_begins c.args.nodes.now.items;
  origins = c.requires.origins;
  handed = refl;
  up = λ i some l. absurd (omega arith);
  rise = omega arith;
}

pub bounds-parents-node : goal.bounds-parents-node
bounds-parents-node g c = omega (arith, c.requires.many, c.len-last.ensures, c.loop-before-test.true)

pub reduce_pair-requires-clause-keep : goal.reduce_pair-requires-clause-keep
reduce_pair-requires-clause-keep g c =
    let within = c.requires.within (c.loop-before.before + 1) (omega arith)
    (omega (arith, c.requires.many, c.len-last.ensures, c.loop-before-test.true)) in
    omega (arith, within, c.len-last.ensures, c.requires.filled, c.loop-before.invariant.many)

pub loop-before-preserved : goal.loop-before-preserved
loop-before-preserved g c = record {
  many = omega (arith, c.reduce_pair.ensures.many, c.loop-before.invariant.many);
  fixed = fixed_goes_on c.args.nodes.now.items c.loop-before.nodes.items c.reduce_pair.new.nodes.items _ _
      c.loop-before.invariant.fixed c.in_ok-reduce_pair.ensures.reduced;
  origins = omega (
    arith,
    c.reduce_pair.ensures.origins,
    c.reduce_pair.ensures.many,
    c.loop-before.invariant.origins,
  );
  handed = c.reduce_pair.ensures.handed ∙ c.loop-before.invariant.handed;
  up = up_step_at c.args.parents.now c.loop-before.nodes.items c.reduce_pair.new.nodes.items
      c.loop-before.before c.in_ok-reduce_pair.ensures.reduced
      (c.requires.remain (c.loop-before.before + 1) (omega arith)
      (omega (arith, c.requires.many, c.len-last.ensures, c.loop-before-test.true)))
      c.loop-before.invariant.up;
  rise = omega (arith, c.reduce_pair.ensures.rise, c.loop-before.invariant.rise);
}

pub loop-done-init : goal.loop-done-init
loop-done-init g c = record {
  many = c.loop-before.invariant.many;
  fixed = c.loop-before.invariant.fixed;
  origins = c.loop-before.invariant.origins;
  handed = c.loop-before.invariant.handed;
  up = λ i some l. c.loop-before.invariant.up i some
      (omega (
        arith,
        l,
        c.requires.many,
        c.len-last.ensures,
        c.loop-before-test.false,
        c.loop-before.auto.before-end,
        c.requires.filled,
      ));
  down = λ i low l. absurd (omega (arith, low, l, c.requires.many, c.len-last.ensures, c.requires.filled));
  rise = c.loop-before.invariant.rise;
}

pub bounds-parents-node-in-loop-done : goal.bounds-parents-node-in-loop-done
bounds-parents-node-in-loop-done g c = omega (arith, c.requires.many, c.len-last.ensures, c.requires.filled)

pub loop-done-preserved : goal.loop-done-preserved
loop-done-preserved g c =
    let node : c.len-last.result - 1 - c.loop-done.done ≡ c.len-last.result - 1 - (c.loop-done.done + 1) + 1 =
    omega (arith, c.loop-done-test.true) in
    record {
      many = omega (arith, c.reduce_pair-in-loop-done.ensures.many, c.loop-done.invariant.many);
      fixed = fixed_goes_on c.args.nodes.now.items c.loop-done.nodes.items
          c.reduce_pair-in-loop-done.new.nodes.items _ _ c.loop-done.invariant.fixed
          c.in_ok-reduce_pair-2.ensures.reduced;
      origins = omega (
        arith,
        c.reduce_pair-in-loop-done.ensures.origins,
        c.reduce_pair-in-loop-done.ensures.many,
        c.loop-done.invariant.origins,
      );
      handed = c.reduce_pair-in-loop-done.ensures.handed ∙ c.loop-done.invariant.handed;
      up = down_up_at c.args.parents.now c.loop-done.nodes.items c.reduce_pair-in-loop-done.new.nodes.items
          (c.len-last.result - 1 - (c.loop-done.done + 1)) (c.len-last.result - 1 - c.loop-done.done) node
          c.in_ok-reduce_pair-2.ensures.reduced
          (c.requires.remain (c.len-last.result - 1 - c.loop-done.done) (omega (arith, c.loop-done-test.true))
          (omega (arith, c.requires.many, c.len-last.ensures, c.requires.filled)))
          c.loop-done.invariant.up;
      down = down_at c.args.parents.now c.loop-done.nodes.items c.reduce_pair-in-loop-done.new.nodes.items
          (c.len-last.result - 1 - (c.loop-done.done + 1)) (c.len-last.result - 1 - c.loop-done.done) node
          c.in_ok-reduce_pair-2.ensures.reduced
          c.requires.remain (omega (arith, c.requires.many, c.len-last.ensures, c.requires.filled))
          c.loop-done.invariant.down;
      rise = omega (arith, c.reduce_pair-in-loop-done.ensures.rise, c.loop-done.invariant.rise);
    }

pub returns-clause-pairs : goal.returns-clause-pairs
returns-clause-pairs g c = record {
  up = c.loop-done.invariant.up;
  down = λ i some l. c.loop-done.invariant.down i
      (omega (arith, some, c.loop-done-test.false, c.loop-done.auto.done-end)) l;
}
