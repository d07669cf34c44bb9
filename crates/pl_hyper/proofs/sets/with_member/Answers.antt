use Rattle.pl_hyper.proofs.Bits.{with_bit}
use Rattle.pl_hyper.proofs.sets.with_member.Goals as goal

pub returns : goal.returns
returns c = λ k. with_bit c.args.set c.args.member k c.requires
