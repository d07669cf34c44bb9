use Rattle.pl_hyper.proofs.Searches.{shared_but_less, shared_from_but}
use Rattle.pl_hyper.proofs.sharing.still_shared.Goals as goal

pub loop-left-init : goal.loop-left-init
loop-left-init c = λ edges remaining a s. s

pub loop-left-preserved : goal.loop-left-preserved
loop-left-preserved c = λ edges remaining a s.
    shared_but_less edges remaining c.args.holder c.loop-left.left c.loop-left.still
    c.least_member-class.result c.without_member-left.result c.without_unshared-still.result
    (c.loop-left.invariant edges remaining a s) c.least_member-class.ensures.held
    c.without_member-left.ensures.members c.without_unshared-still.ensures.others
    (c.without_unshared-still.ensures.decided edges remaining a)

pub returns : goal.returns
returns c = λ edges remaining a s.
    shared_from_but edges remaining c.args.holder c.loop-left.left c.loop-left.still c.loop-left-test.false
    (c.loop-left.invariant edges remaining a s)
