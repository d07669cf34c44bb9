use Rattle.std.proofs.Common.{[], refl}
use Rattle.std.proofs.lemmas.Result.{err_from_is_err_and, IfOk-weaker, IfErr-weaker}
use Rattle.pl_top.specs.Answer.{IsListed}
use Rattle.pl_top.specs.Asked.{bytes_in, items_in, options_named}
use Rattle.pl_top.specs.Refusal.{IsUnanswered}
use Rattle.pl_top.specs.Starting.{IsStartStated}
use Rattle.pl_top.proofs.ReadLemmas.{after_plan, begins_over, moved_plan, no_answer, no_plan, over_successors}
use Rattle.pl_top.proofs.ReadLemmas.{whole_files}
use Rattle.pl_top.proofs.ResultLemmas.{if_err, along}
use Rattle.pl_top.proofs.WorkLemmas.{start_read}
use Rattle.pl_top.proofs.successors.started.Goals as goal

pub returns-in_err-read-clause-refused : goal.returns-in_err-read-clause-refused
returns-in_err-read-clause-refused g c =
    let handed = err_from_is_err_and c.from_residual.result c.from_residual.ensures.1 in
    let over = over_successors c.args.domain.now c.args.problem.now (options_named c.args.options) in
    if_err _ _ handed.0 _ handed.1 handed.2 (c.in_err-read.ensures.refused _ (begins_over over))

pub returns-in_err-plan-clause-refused : goal.returns-in_err-plan-clause-refused
returns-in_err-plan-clause-refused g c =
    let handed = err_from_is_err_and c.from_residual-in_err-plan.result
    c.from_residual-in_err-plan.ensures.1 in
    let over = over_successors c.args.domain.now c.args.problem.now (options_named c.args.options) in
    let two = c.in_ok-read.ensures in
    let three = c.read_plan_file.ensures in
    if_err _ _ handed.0 _ handed.1 handed.2
    (no_plan _ _ _ _ _ (g.S.Shelf.seen c.args.shelf.now) (g.S.Shelf.seen c.read_task_files.new.shelf)
    (g.S.Shelf.seen c.read_plan_file.new.shelf) _ _ _ over two.domain two.problem
    (two.begun _ (begins_over over)) three.files three.faults three.begun c.in_err-plan.ensures.unread)

pub returns-clause-start : goal.returns-clause-start
returns-clause-start g c =
    let over = over_successors c.args.domain.now c.args.problem.now (options_named c.args.options) in
    let shelf = g.S.Shelf.seen c.args.shelf.now in
    let two = c.in_ok-read.ensures in
    IfOk-weaker c.start_from.result _ _
    (λ start h outcome worked. whole_files over shelf.files _ _ _ (items_in c.in_ok-plan.plan) outcome
    two.domain two.problem
    (moved_plan shelf.files _ _ _ (two.begun _ (begins_over over)).files c.in_ok-plan.ensures.whole)
    (along (λ d p l. IsListed d p (items_in c.in_ok-plan.plan) (bytes_in c.args.options.past)
    c.args.options.count outcome)
    _ _ _ _ [] [] c.deref.ensures.value c.deref-2.ensures.value refl (h outcome worked)))
    c.start_from.ensures.start

pub returns-clause-begun : goal.returns-clause-begun
returns-clause-begun g c =
    let over = over_successors c.args.domain.now c.args.problem.now (options_named c.args.options) in
    let three = c.in_ok-plan.ensures in
    IfOk-weaker c.start_from.result _ _
    (λ start ready. after_plan over (g.S.Shelf.seen c.args.shelf.now)
    (g.S.Shelf.seen c.read_task_files.new.shelf) (g.S.Shelf.seen c.read_plan_file.new.shelf)
    (c.in_ok-read.ensures.begun _ (begins_over over)) three.files three.faults three.begun)
    c.start_from.ensures.ready

pub returns-clause-refused : goal.returns-clause-refused
returns-clause-refused g c =
    let over = over_successors c.args.domain.now c.args.problem.now (options_named c.args.options) in
    let shelf = g.S.Shelf.seen c.args.shelf.now in
    let third = g.S.Shelf.seen c.read_plan_file.new.shelf in
    let two = c.in_ok-read.ensures in
    let three = c.in_ok-plan.ensures in
    let begun = two.begun _ (begins_over over) in
    IfErr-weaker c.start_from.result _ _
    (λ refusal h. no_answer over 3 shelf third _ _ (items_in c.in_ok-plan.plan) _ refusal (λ outcome is. is)
    two.domain two.problem (moved_plan shelf.files _ _ _ begun.files three.whole)
    (after_plan over shelf (g.S.Shelf.seen c.read_task_files.new.shelf) third begun three.files three.faults
    three.begun)
    (along (λ d p l. IsUnanswered
    (IsListed d p (items_in c.in_ok-plan.plan) (bytes_in c.args.options.past) c.args.options.count)
    refusal)
    _ _ _ _ [] [] c.deref.ensures.value c.deref-2.ensures.value refl h))
    c.start_from.ensures.refused

pub returns-clause-read : goal.returns-clause-read
returns-clause-read g c =
    let over = over_successors c.args.domain.now c.args.problem.now (options_named c.args.options) in
    let shelf = g.S.Shelf.seen c.args.shelf.now in
    let third = g.S.Shelf.seen c.read_plan_file.new.shelf in
    let two = c.in_ok-read.ensures in
    IfOk-weaker c.start_from.result _ _
    (λ start h. start_read c.args.domain.now c.args.problem.now (bytes_in c.args.options.after) shelf third _
    _ (items_in c.in_ok-plan.plan) start (two.domain third.place) (two.problem third.place)
    (moved_plan shelf.files _ _ _ (two.begun _ (begins_over over)).files c.in_ok-plan.ensures.whole)
    (along (λ d p l. IsStartStated d p (items_in c.in_ok-plan.plan) start)
    _ _ _ _ [] [] c.deref.ensures.value c.deref-2.ensures.value refl h))
    c.start_from.ensures.stated
