use Rattle.std.proofs.Common.{ap, subst, ◌≡◌, ◌↔◌, get_or, ℕ}
use Rattle.std.specs.Int.{bit_at}
use Rattle.pl_hyper.specs.Holders.{IsHolder}
use Rattle.pl_hyper.proofs.Holding.{common_begin, common_more, common_end}
use Rattle.pl_hyper.proofs.holders.common_holders.Goals as goal

pub loop-left-init : goal.loop-left-init
loop-left-init c = common_begin c.as_slice-words.result.now c.args.holders.now.present.items c.args.classes
    c.args.block _ (ap (λ xs. get_or xs c.args.block 0) c.as_slice.ensures.value)

pub loop-left-preserved : goal.loop-left-preserved
loop-left-preserved c =
    common_more c.as_slice-words.result.now c.args.holders.now.present.items c.args.classes c.args.block
    c.loop-left.found c.loop-left.left c.least_member-class.result c.without_member-left.result
    c.loop-left.invariant c.least_member-class.ensures.held c.without_member-left.ensures.members

pub returns : goal.returns
returns c =
    subst (λ xs. (place : ℕ) → (bit_at c.loop-left.found place ≡ 1)
    ↔ IsHolder xs c.args.holders.now.present.items c.args.classes c.args.block place)
    c.as_slice-words.ensures.value
    (common_end c.as_slice-words.result.now c.args.holders.now.present.items c.args.classes c.args.block
    c.loop-left.found c.loop-left.left c.loop-left.invariant c.loop-left-test.false)
