use Rattle.std.proofs.Common.{arith, rules}
use Rattle.pl_rows.proofs.Directory.{bracketed}
use Rattle.pl_rows.proofs.indexed.bracket.Goals as goal

pub returns-then-first-starts : goal.returns-then-first-starts
returns-then-first-starts c = bracketed _ _ _ (search rules) c.requires (omega arith)
