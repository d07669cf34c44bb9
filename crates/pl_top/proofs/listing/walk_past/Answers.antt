use Rattle.std.proofs.Common.{All, subst}
use Rattle.pl_task.specs.declared.task.Task.{Task}
use Rattle.pl_task.specs.States.{IsStep}
use Rattle.pl_gen.specs.Walks.{state_of_prepared, step_with}
use Rattle.pl_top.proofs.ListLemmas.{applicable_are_steps, above_are_steps}
use Rattle.pl_top.proofs.listing.walk_past.Goals as goal

pub returns-in-None-clause-steps : goal.returns-in-None-clause-steps
returns-in-None-clause-steps g c =
    subst (λ (t : Task). All (IsStep t) c.walk.result.left) c.requires.task
    (applicable_are_steps c.args.prepared.now.task (state_of_prepared c.args.prepared.now) c.walk.result.left
    c.walk.ensures.left)

pub returns-in-Some-clause-steps : goal.returns-in-Some-clause-steps
returns-in-Some-clause-steps g c =
    subst (λ (t : Task). All (IsStep t) c.resume.result.left) c.requires.task
    (above_are_steps c.args.prepared.now.task (state_of_prepared c.args.prepared.now)
    (step_with c.view.result.schema c.view.result.args.now) c.resume.result.left
    c.resume.ensures.left)
