use Rattle.pl_reduce.specs.Recipes.{option_at}
use Rattle.pl_reduce.proofs.Fixations.{pair_smaller, pair_same}
use Rattle.pl_reduce.proofs.Origins.{pair_there}
use Rattle.pl_reduce.proofs.fixing.reduce_pair.Goals as goal

pub put-requires-clause-there : goal.put-requires-clause-there
put-requires-clause-there g c =
    pair_there (option_at c.args.nodes.now.items c.args.keep) (option_at c.args.nodes.now.items c.args.by)
    c.in-Some.kept (rw (c.deref.ensures.value, c.in-Some.is) at c.in_ok-kept.ensures.reduced)

pub returns-in-Some-clause-reduced : goal.returns-in-Some-clause-reduced
returns-in-Some-clause-reduced g c =
    rw c.put.ensures.nodes
    (pair_smaller c.args.nodes.now.items c.args.keep c.args.by c.in-Some.kept c.requires.keep
    (rw (c.deref.ensures.value, c.in-Some.is) at c.in_ok-kept.ensures.reduced))

pub returns-in_default-clause-reduced : goal.returns-in_default-clause-reduced
returns-in_default-clause-reduced g c =
    pair_same c.args.nodes.now.items c.args.keep c.args.by
    (rw (c.deref.ensures.value, c.in_default.is) at c.in_ok-kept.ensures.reduced)
