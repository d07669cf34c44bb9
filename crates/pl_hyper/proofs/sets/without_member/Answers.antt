use Rattle.pl_hyper.proofs.Bits.{without_bit, fewer_bits}
use Rattle.pl_hyper.proofs.sets.without_member.Goals as goal

pub returns-clause-members : goal.returns-clause-members
returns-clause-members c = λ k. without_bit c.args.set c.args.member k c.ranges.set.fits c.requires

pub returns-clause-fewer : goal.returns-clause-fewer
returns-clause-fewer c = fewer_bits c.args.set c.args.member c.requires
