use Rattle.std.proofs.Common.{arith, w64}
use Rattle.std.proofs.lemmas.Nat.Bits.{bit_at-trailing_zeros}
use Rattle.pl_hyper.proofs.sets.least_member.Goals as goal

pub returns-clause-held : goal.returns-clause-held
returns-clause-held c = (bit_at-trailing_zeros w64 c.args.set c.requires c.ranges.set.fits).1

pub returns-clause-least : goal.returns-clause-least
returns-clause-least c = λ k h b.
    let none = (bit_at-trailing_zeros w64 c.args.set c.requires c.ranges.set.fits).2 k h in
    omega (arith, none, b)
