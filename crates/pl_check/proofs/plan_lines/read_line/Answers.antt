use Rattle.std.proofs.Common.{sym, ap, ◌∙◌}
use Rattle.pl_names.specs.Names.{number_among}
use Rattle.pl_check.proofs.PlanLineLemmas.{action_within}
use Rattle.pl_check.proofs.plan_lines.read_line.Goals as goal

pub line_of_action-requires-clause-number : goal.line_of_action-requires-clause-number
line_of_action-requires-clause-number c =
    action_within c.args.task.now c.head.result.now c.in-Some.number
    (ap (λ names. number_among names c.head.result.now) (sym c.requires.actions) ∙ sym c.find.ensures ∙
    c.in-Some.is)
