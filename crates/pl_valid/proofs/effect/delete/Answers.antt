use Rattle.pl_valid.proofs.AtomSets.{deleted_one}
use Rattle.pl_valid.proofs.effect.delete.Goals as goal

pub returns : goal.returns
returns c = deleted_one c.args.atoms.now.keys c.swap_remove.new.self.keys c.args.atom.now
    c.swap_remove.ensures.updates.0
