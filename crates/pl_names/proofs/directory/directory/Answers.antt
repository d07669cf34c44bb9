use Rattle.std.proofs.Common.{arith}
use Rattle.pl_names.proofs.Parts.{parts_fit, directory_whole, looked_from, directory_more}
use Rattle.pl_names.proofs.directory.directory.Goals as goal

pub overflow_add-part-end : goal.overflow_add-part-end
overflow_add-part-end c = omega (arith, parts_fit c.args.shift c.requires.some)

pub returns : goal.returns
returns c = directory_whole _ _ _ _ _ (omega arith) c.loop-part.invariant
