use Rattle.std.proofs.Common.{Some}
use Rattle.std.proofs.lemmas.Result.{err_from_is_err_and, IfOk-weaker, IfErr-weaker}
use Rattle.pl_top.specs.Answer.{IsJudged, verdict_outcome}
use Rattle.pl_top.specs.Refusal.{IsUnjudged}
use Rattle.pl_top.proofs.ReadLemmas.{after_plan, begins_over, moved, no_answer, no_plan, over_validate}
use Rattle.pl_top.proofs.ReadLemmas.{whole_files}
use Rattle.pl_top.proofs.ResultLemmas.{if_err, along}
use Rattle.pl_top.proofs.validating.verdict_on.Goals as goal

pub returns-in_err-read-clause-refused : goal.returns-in_err-read-clause-refused
returns-in_err-read-clause-refused g c =
    let handed = err_from_is_err_and c.from_residual.result c.from_residual.ensures.1 in
    let over = over_validate c.args.domain.now c.args.problem.now c.args.plan.now in
    if_err _ _ handed.0 _ handed.1 handed.2 (c.in_err-read.ensures.refused _ (begins_over over))

pub returns-in_err-plan-clause-refused : goal.returns-in_err-plan-clause-refused
returns-in_err-plan-clause-refused g c =
    let handed = err_from_is_err_and c.from_residual-in_err-plan.result
    c.from_residual-in_err-plan.ensures.1 in
    let over = over_validate c.args.domain.now c.args.problem.now c.args.plan.now in
    let two = c.in_ok-read.ensures in
    let three = c.read_file.ensures in
    if_err _ _ handed.0 _ handed.1 handed.2
    (no_plan _ _ _ (Some c.args.plan.now) _ (g.S.Shelf.seen c.args.shelf.now)
    (g.S.Shelf.seen c.read_task_files.new.shelf) (g.S.Shelf.seen c.read_file.new.shelf) _ _ _ over two.domain
    two.problem (two.begun _ (begins_over over)) three.files three.faults three.begun
    c.in_err-plan.ensures.unread)

pub returns-clause-verdict : goal.returns-clause-verdict
returns-clause-verdict g c =
    let over = over_validate c.args.domain.now c.args.problem.now c.args.plan.now in
    let shelf = g.S.Shelf.seen c.args.shelf.now in
    let two = c.in_ok-read.ensures in
    let three = c.in_ok-plan.ensures in
    IfOk-weaker c.judged.result _ _
    (λ verdict h. whole_files over shelf.files _ _ _ (Some c.in_ok-plan.plan.items) (verdict_outcome verdict)
    two.domain two.problem
    (moved shelf.files _ _ _ (two.begun _ (begins_over over)).files three.whole, three.short)
    (along (λ d p l. IsJudged d p l (verdict_outcome verdict)) _ _ _ _ _ _ c.deref.ensures.value
    c.deref-2.ensures.value c.deref-3.ensures.value h))
    c.judged.ensures.verdict

pub returns-clause-begun : goal.returns-clause-begun
returns-clause-begun g c =
    let over = over_validate c.args.domain.now c.args.problem.now c.args.plan.now in
    let three = c.in_ok-plan.ensures in
    IfOk-weaker c.judged.result _ _
    (λ verdict h. after_plan over (g.S.Shelf.seen c.args.shelf.now)
    (g.S.Shelf.seen c.read_task_files.new.shelf) (g.S.Shelf.seen c.read_file.new.shelf)
    (c.in_ok-read.ensures.begun _ (begins_over over)) three.files three.faults three.begun)
    c.judged.ensures.verdict

pub returns-clause-refused : goal.returns-clause-refused
returns-clause-refused g c =
    let over = over_validate c.args.domain.now c.args.problem.now c.args.plan.now in
    let shelf = g.S.Shelf.seen c.args.shelf.now in
    let third = g.S.Shelf.seen c.read_file.new.shelf in
    let two = c.in_ok-read.ensures in
    let three = c.in_ok-plan.ensures in
    let begun = two.begun _ (begins_over over) in
    IfErr-weaker c.judged.result _ _
    (λ refusal h. no_answer over 3 shelf third _ _ (Some c.in_ok-plan.plan.items) _ refusal (λ outcome is. is)
    two.domain two.problem (moved shelf.files _ _ _ begun.files three.whole, three.short)
    (after_plan over shelf (g.S.Shelf.seen c.read_task_files.new.shelf) third begun three.files three.faults
    three.begun)
    (along (λ d p l. IsUnjudged d p l refusal) _ _ _ _ _ _ c.deref.ensures.value c.deref-2.ensures.value
    c.deref-3.ensures.value h))
    c.judged.ensures.refused
