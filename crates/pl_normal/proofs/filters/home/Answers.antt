use Rattle.pl_normal.proofs.Homes.{home_among}
use Rattle.pl_normal.proofs.filters.home.Goals as goal

pub returns : goal.returns
returns c = λ edges e.
    home_among c.args.finder.now edges c.args.classes c.first.result c.first.ensures e
