use Rattle.std.proofs.Common.{sym, subst, take_all}
use Rattle.std.proofs.lemmas.List.Elements.{All-more, All-same}
use Rattle.pl_normal.specs.Scope.{IsLiteralBelow}
use Rattle.pl_normal.proofs.tests.literals_are_below.Goals as goal

pub loop-literal-preserved : goal.loop-literal-preserved
loop-literal-preserved c =
    All-more (IsLiteralBelow c.args.n) c.args.literals.now c.loop-literal.literal-index c.literal-item.result
    c.loop-literal-test.true c.loop-literal.invariant
    (subst (IsLiteralBelow c.args.n) c.literal-item.is
    (c.literal_is_below.ensures c.if-not-literal_is_below.false))

pub returns : goal.returns
returns c = λ _. All-same (IsLiteralBelow c.args.n) c.args.literals.now _
    (sym (take_all c.loop-literal.literal-index c.args.literals.now c.loop-literal-test.false))
    c.loop-literal.invariant
