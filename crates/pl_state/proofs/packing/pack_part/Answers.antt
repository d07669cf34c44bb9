use Rattle.std.proofs.Common.{length}
use Rattle.pl_state.proofs.Packings.{packed_part, wide_atoms}
use Rattle.pl_state.proofs.packing.pack_part.Goals as goal

pub atom_table-requires : goal.atom_table-requires
atom_table-requires c =
    wide_atoms (length c.args._task.now.objects) c.args.predicate c.args.arity c.args.atoms.now c.requires

pub returns : goal.returns
returns c =
    packed_part (length c.args._task.now.objects) c.args.predicate c.args.arity c.args.atoms.now
    c.args.words.now.items c.push_part.new.words.items c.in_ok-table.table
    c.requires c.in_ok-table.ensures c.in_ok-push_part.ensures.words c.in_ok-push_part.ensures.fits
