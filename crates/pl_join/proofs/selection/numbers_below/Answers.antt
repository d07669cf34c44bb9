use Rattle.std.proofs.Common.{◌≡◌, arith, subst}
use Rattle.pl_join.specs.Source.{AreNumbersBelow}
use Rattle.pl_join.proofs.Gathering.{no_numbers, numbers_more}
use Rattle.pl_join.proofs.selection.numbers_below.Goals as goal

pub loop-number-init : goal.loop-number-init
loop-number-init c = rw c.new-numbers.ensures.items no_numbers

pub loop-number-preserved : goal.loop-number-preserved
loop-number-preserved c = rw c.in_ok-push.ensures.ok (numbers_more _ _ c.loop-number.invariant)

pub returns : goal.returns
returns c =
    let end : c.loop-number.number ≡ c.args.limit =
    omega (arith, c.loop-number-test.false, c.loop-number.auto.number-end) in
    subst (λ n. AreNumbersBelow n c.loop-number.numbers.items) end c.loop-number.invariant
