use Rattle.pl_valid.proofs.AtomSets.{added_one}
use Rattle.pl_valid.proofs.effect.add.Goals as goal

pub returns : goal.returns
returns c = added_one c.args.atoms.now.keys c.insert.new.self.keys c.args.atom
    c.in_ok-insert.ensures.updates.0
