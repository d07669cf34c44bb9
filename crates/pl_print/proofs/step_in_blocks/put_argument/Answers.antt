use Rattle.pl_io.specs.Blocks.{held_of}
use Rattle.pl_io.proofs.Gathering.{on_err, sent_same, front_of_same}
use Rattle.pl_print.proofs.Writing.{argument_is}
use Rattle.pl_print.proofs.step_in_blocks.put_argument.Goals as goal

pub returns-in_err-put_pieces-clause-front : goal.returns-in_err-put_pieces-clause-front
returns-in_err-put_pieces-clause-front g c =
    on_err c.from_residual.result
    (front_of_same _ _ (held_of c.args.blocks.now) _ _
    (argument_is c.args.objects.now c.args.number c.index-objects-number.result
    c.as_slice.result.now c.requires.within c.index-objects-number.is c.as_slice.ensures)
    c.in_err-put_pieces.ensures.front)

pub returns-clause-all : goal.returns-clause-all
returns-clause-all g c =
    sent_same _ _ (held_of c.args.blocks.now) _ _ _
    (argument_is c.args.objects.now c.args.number c.index-objects-number.result
    c.as_slice.result.now c.requires.within c.index-objects-number.is c.as_slice.ensures)
    c.in_ok-put_pieces.ensures.all
