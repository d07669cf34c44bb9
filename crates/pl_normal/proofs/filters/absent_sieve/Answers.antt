use Rattle.std.proofs.Common.{◌∙◌, ap}
use Rattle.pl_normal.specs.Slots.{slots_of}
use Rattle.pl_normal.proofs.Loops.{absent_below}
use Rattle.pl_normal.proofs.filters.absent_sieve.Goals as goal

pub returns-clause-within : goal.returns-clause-within
returns-clause-within c =
    absent_below c.args.atom.now.predicate c.args.slots.now c.of.result c.args.atom.now.terms
    (c.of.ensures ∙ (c.in_ok-row.ensures ∙ ap (slots_of c.args.slots.now) c.as_slice.ensures))
    c.requires.slots c.requires.terms
