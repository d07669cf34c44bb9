use Rattle.std.proofs.Common.{[], inl, inr, None, refl}
use Rattle.std.proofs.lemmas.Result.{err_from_is_err_and, IfOk-weaker, IfErr-weaker}
use Rattle.pl_check.specs.Stated.{AreStated}
use Rattle.pl_top.specs.Answer.{IsInputFault}
use Rattle.pl_top.specs.Asked.{plan_options_named}
use Rattle.pl_top.specs.Refusal.{IsUnanswered}
use Rattle.pl_top.proofs.ReadLemmas.{begins_over, no_answer, over_plan, whole_files}
use Rattle.pl_top.proofs.ResultLemmas.{if_err, along}
use Rattle.pl_top.proofs.WorkLemmas.{task_read}
use Rattle.pl_top.proofs.planning.read_task.Goals as goal

pub returns-in_err-read-clause-refused : goal.returns-in_err-read-clause-refused
returns-in_err-read-clause-refused g c =
    let handed = err_from_is_err_and c.from_residual.result c.from_residual.ensures.1 in
    let over = over_plan c.args.domain.now c.args.problem.now (plan_options_named c.args._options) in
    if_err _ _ handed.0 _ handed.1 handed.2 (c.in_err-read.ensures.refused _ (begins_over over))

pub returns-clause-task : goal.returns-clause-task
returns-clause-task g c =
    let over = over_plan c.args.domain.now c.args.problem.now (plan_options_named c.args._options) in
    let two = c.in_ok-read.ensures in
    IfOk-weaker c.stated.result _ _
    (λ task h outcome planned. whole_files over (g.S.Shelf.seen c.args.shelf.now).files _ _ _ None outcome
    two.domain two.problem tt
    (inr (record {
      task = task;
      stated = along (λ d p l. AreStated d p task) _ _ _ _ [] [] c.deref.ensures.value c.deref-2.ensures.value
          refl h;
      planned = planned;
    })))
    c.stated.ensures.task

pub returns-clause-begun : goal.returns-clause-begun
returns-clause-begun g c =
    let over = over_plan c.args.domain.now c.args.problem.now (plan_options_named c.args._options) in
    IfOk-weaker c.stated.result _ _ (λ task h. c.in_ok-read.ensures.begun _ (begins_over over))
    c.stated.ensures.task

pub returns-clause-refused : goal.returns-clause-refused
returns-clause-refused g c =
    let over = over_plan c.args.domain.now c.args.problem.now (plan_options_named c.args._options) in
    let two = c.in_ok-read.ensures in
    IfErr-weaker c.stated.result _ _
    (λ refusal h. no_answer over 2 (g.S.Shelf.seen c.args.shelf.now)
    (g.S.Shelf.seen c.read_task_files.new.shelf) _ _ None _ refusal (λ outcome fault. inl fault) two.domain
    two.problem tt (two.begun _ (begins_over over))
    (along (λ d p l. IsUnanswered (IsInputFault d p) refusal) _ _ _ _ [] [] c.deref.ensures.value
    c.deref-2.ensures.value refl h))
    c.stated.ensures.refused

pub returns-clause-read : goal.returns-clause-read
returns-clause-read g c =
    let two = c.in_ok-read.ensures in
    let second = g.S.Shelf.seen c.read_task_files.new.shelf in
    IfOk-weaker c.stated.result _ _
    (λ task h. task_read c.args.domain.now c.args.problem.now (g.S.Shelf.seen c.args.shelf.now) second _ _ task
    (two.domain second.place) (two.problem second.place)
    (along (λ d p l. AreStated d p task) _ _ _ _ [] [] c.deref.ensures.value c.deref-2.ensures.value refl h))
    c.stated.ensures.task
