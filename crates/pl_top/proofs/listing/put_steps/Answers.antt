use Rattle.std.proofs.Common.{◌≡◌, ◌∙◌, true, false, refl, arith}
use Rattle.pl_io.specs.Blocks.{held_of}
use Rattle.pl_top.specs.Listing.{list_text}
use Rattle.pl_top.proofs.PutLemmas.{begun, step_cut, step_put, steps_left, last_left, last_cut, cut_off_rest}
use Rattle.pl_top.proofs.PutLemmas.{finished}
use Rattle.pl_top.proofs.PutLemmas.{last_page, page_put}
use Rattle.pl_top.proofs.ResultLemmas.{on_err, on_err_weaker, on_ok_weaker}
use Rattle.pl_top.proofs.listing.put_steps.Goals as goal

pub loop-count-init : goal.loop-count-init
loop-count-init g c =
    record {
      steps = c.requires.left;
      so_far = begun (list_text c.args.task.now c.args.count c.args.walk.now.left)
          (held_of c.args.blocks.now) _ c.requires.none_held;
      later = omega arith;
      cost = omega arith;
      prepared = refl;
      page = λ local. omega arith;
    }

pub returns-in_err-given-clause-front : goal.returns-in_err-given-clause-front
returns-in_err-given-clause-front g c =
    on_err _ c.from_residual.result
    (step_cut c.args.task.now c.loop-count.count c.loop-count.walk.left c.loop-count.walk.left _
    (held_of c.loop-count.blocks) (held_of c.loop-count.blocks) _ _ _
    c.loop-count.invariant.so_far c.loop-count-test.ensures c.in_err-given.ensures.cut)

pub returns-then-not-given-clause-front : goal.returns-then-not-given-clause-front
returns-then-not-given-clause-front g c =
    let none : c.in_ok-given.given ≡ false = cc c.if-not-given.true in
    on_err_weaker _ _ c.put_last.result
    (cut_off_rest _ _ _ _ _
    (last_left c.args.task.now c.loop-count.count c.loop-count.walk.left c.put_next.new.walk.left _
    (held_of c.loop-count.blocks) (held_of c.put_next.new.blocks) _ _ _
    c.loop-count.invariant.so_far c.in_ok-given.given none c.in_ok-given.ensures.put))
    c.put_last.ensures.front

pub loop-count-preserved : goal.loop-count-preserved
loop-count-preserved g c =
    let so_far = c.loop-count.invariant in
    let given : c.in_ok-given.given ≡ true = cc c.if-not-given.false in
    record {
      steps = steps_left c.args.task.now c.loop-count.count c.loop-count.walk.left c.put_next.new.walk.left _
          (held_of c.loop-count.blocks) (held_of c.put_next.new.blocks) _ _ _
          so_far.so_far c.in_ok-given.given given c.in_ok-given.ensures.put so_far.steps;
      so_far = step_put c.args.task.now c.loop-count.count c.loop-count.walk.left c.put_next.new.walk.left _
          (held_of c.loop-count.blocks) (held_of c.put_next.new.blocks) _ _ _
          so_far.so_far c.one_less-count.result c.in_ok-given.given c.one_less-count.ensures given
          c.loop-count-test.ensures
          c.in_ok-given.ensures.put;
      later = omega (arith, so_far.later, c.put_next.ensures.cause.later);
      cost = (let before = so_far.cost in let turn = c.put_next.ensures.cost in omega (arith, before, turn));
      prepared = c.put_next.ensures.prepared ∙ so_far.prepared;
      page = page_put c.args.task.now c.loop-count.count c.loop-count.walk.left c.put_next.new.walk.left _
          (held_of c.loop-count.blocks) (held_of c.put_next.new.blocks) _ _ _ so_far.so_far
          c.args.walk.now.prepared c.loop-count.walk.prepared c.one_less-count.result c.in_ok-given.given
          _ _ _ so_far.prepared c.one_less-count.ensures given c.loop-count-test.ensures
          c.in_ok-given.ensures.put so_far.page c.put_next.ensures.each;
    }

pub returns-clause-front : goal.returns-clause-front
returns-clause-front g c =
    on_err_weaker _ _ c.put_end.result
    (last_cut c.args.task.now c.loop-count.count c.loop-count.walk.left c.loop-count.walk.left _
    (held_of c.loop-count.blocks) (held_of c.loop-count.blocks) _ _ _
    c.loop-count.invariant.so_far c.loop-count-test.ensures)
    c.put_end.ensures.front

pub returns-then-not-given-clause-all : goal.returns-then-not-given-clause-all
returns-then-not-given-clause-all g c =
    let none : c.in_ok-given.given ≡ false = cc c.if-not-given.true in
    on_ok_weaker _ _ c.put_last.result
    (finished _ _ _ _ _
    (last_left c.args.task.now c.loop-count.count c.loop-count.walk.left c.put_next.new.walk.left _
    (held_of c.loop-count.blocks) (held_of c.put_next.new.blocks) _ _ _
    c.loop-count.invariant.so_far c.in_ok-given.given none c.in_ok-given.ensures.put))
    c.put_last.ensures.all

pub returns-in_err-given-clause-page : goal.returns-in_err-given-clause-page
returns-in_err-given-clause-page g c =
    last_page c.args.walk.now.prepared c.loop-count.walk.prepared _ _ _ _ c.loop-count.invariant.prepared
    c.loop-count.invariant.page
    c.put_next.ensures.each

pub returns-then-not-given-clause-page : goal.returns-then-not-given-clause-page
returns-then-not-given-clause-page g c =
    last_page c.args.walk.now.prepared c.loop-count.walk.prepared _ _ _ _ c.loop-count.invariant.prepared
    c.loop-count.invariant.page
    c.put_next.ensures.each

pub returns-clause-page : goal.returns-clause-page
returns-clause-page g c =
    last_page c.args.walk.now.prepared c.loop-count.walk.prepared _ _ _ _ c.loop-count.invariant.prepared
    c.loop-count.invariant.page
    c.put_end.ensures.each
