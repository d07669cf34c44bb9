use Rattle.std.proofs.Common.{length, sym, subst}
use Rattle.std.proofs.lemmas.List.Elements.{All-get_or}
use Rattle.pl_normal.specs.Scope.{IsLiteralBelow}
use Rattle.pl_normal.proofs.Merging.{joined_none, joined_more_by}
use Rattle.pl_normal.proofs.classes.join_parameters.Goals as goal

pub loop-literal-init : goal.loop-literal-init
loop-literal-init c = joined_none c.args.classes.now c.requires.start

pub loop-literal-preserved : goal.loop-literal-preserved
loop-literal-preserved c =
    joined_more_by c.args.condition.now c.loop-literal.literal-index
    (length c.args.classes.now) c.literal-item.result c.loop-literal.classes c.join_by.new.classes
    c.loop-literal-test.true c.literal-item.is
    (subst (IsLiteralBelow (length c.args.classes.now)) (sym c.literal-item.is)
    (All-get_or (IsLiteralBelow (length c.args.classes.now)) c.args.condition.now c.loop-literal.literal-index
    c.literal-item.result c.loop-literal-test.true c.requires.literals))
    c.loop-literal.invariant c.join_by.ensures
