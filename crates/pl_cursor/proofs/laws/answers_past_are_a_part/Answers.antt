use Rattle.pl_cursor.proofs.Parts.{answers_part}
use Rattle.pl_cursor.proofs.laws.answers_past_are_a_part.Goals as goal

pub returns : goal.returns
returns c = answers_part
