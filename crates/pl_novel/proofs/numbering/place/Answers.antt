use Rattle.pl_novel.proofs.Numberings.{placed_there}
use Rattle.pl_novel.proofs.numbering.place.Goals as goal

pub returns-in-Some-clause-ok : goal.returns-in-Some-clause-ok
returns-in-Some-clause-ok c = placed_there c.args.atoms.now.keys c.args.key.now c.in-Some.number
    c.in-Some.ensures.index
