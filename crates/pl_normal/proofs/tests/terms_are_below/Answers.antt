use Rattle.std.proofs.Common.{sym, take_all}
use Rattle.std.proofs.lemmas.List.Elements.{All-more, All-same}
use Rattle.pl_task.specs.declared.data.Term.TheVariants as term
use Rattle.pl_normal.specs.Scope.{IsTermBelow}
use Rattle.pl_normal.proofs.tests.terms_are_below.Goals as goal

pub loop-term-preserved : goal.loop-term-preserved
loop-term-preserved c = All-more (IsTermBelow c.args.n) c.args.terms.now c.loop-term.term-index
    (term.Parameter 0) c.loop-term-test.true c.loop-term.invariant
    (c.term_is_below.ensures c.if-not-term_is_below.false)

pub returns : goal.returns
returns c = λ _. All-same (IsTermBelow c.args.n) c.args.terms.now _
    (sym (take_all c.loop-term.term-index c.args.terms.now c.loop-term-test.false)) c.loop-term.invariant
