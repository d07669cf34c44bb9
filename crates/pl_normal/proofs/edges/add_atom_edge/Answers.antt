use Rattle.std.proofs.Common.{◌∙◌, ap}
use Rattle.pl_normal.specs.Slots.{slots_of}
use Rattle.pl_normal.proofs.Loops.{row_below}
use Rattle.pl_normal.proofs.edges.add_atom_edge.Goals as goal

pub class_set-classes-requires : goal.class_set-classes-requires
class_set-classes-requires c =
    row_below c.args.slots.now c.deref-2.result.now c.args.atom.now.terms
    (c.deref-2.ensures.value ∙ (c.in_ok-row.ensures ∙ ap (slots_of c.args.slots.now) c.as_slice.ensures))
    c.requires.slots c.requires.terms
