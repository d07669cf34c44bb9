use Rattle.std.proofs.Common.{◌≡◌}
use Rattle.pl_check.proofs.PredicateLemmas.{declaration_passed, declaration_refused}
use Rattle.pl_check.proofs.predicates.check_declarations.Goals as goal

pub loop-i-preserved : goal.loop-i-preserved
loop-i-preserved c =
    declaration_passed _ _ _ _ _ _ _ c.loop-i-test.true c.loop-i.invariant.0
    c.index-forms-i.is c.loop-i.invariant.1
    c.in-Ok.ensures.reads.0 c.in-Ok.ensures.declared
