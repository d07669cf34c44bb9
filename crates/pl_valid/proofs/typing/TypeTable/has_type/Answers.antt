use Rattle.std.proofs.Common.{sym}
use Rattle.pl_valid.proofs.StepLemmas.{known_more}
use Rattle.pl_valid.proofs.typing.TypeTable.has_type.Goals as goal

pub returns-in-Some-clause-decides : goal.returns-in-Some-clause-decides
returns-in-Some-clause-decides c =
    let asked = c.in_ok-asked.ensures in
    let right = asked.known.answers c.in_ok-asked.asked c.args.type_number c.in-Some.answer.now
    (sym c.in-Some.ensures.value) in (
      (λ h. (asked.same c.args.type_number).0 (right.0 h)),
      (λ h. right.1 ((asked.same c.args.type_number).1 h)),
    )

pub returns-clause-known : goal.returns-clause-known
returns-clause-known c = record {
  answers = known_more c.args.task.now c.representative.new.self.known c.insert.new.self c.in_ok-asked.asked
      c.args.type_number c.in_ok-answer.answer
      c.in_ok-asked.ensures.known.answers c.in_ok-answer.ensures c.in_ok-insert.ensures.updates.0;
  alike = c.in_ok-asked.ensures.known.alike;
}
