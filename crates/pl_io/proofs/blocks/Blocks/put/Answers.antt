use Rattle.pl_io.proofs.Gathering.{on_err, front_of_block, front_past_block, sent_all}
use Rattle.pl_io.specs.Blocks.{held_of}
use Rattle.pl_io.proofs.blocks.Blocks.put.Goals as goal

pub returns-in_err-finish-clause-front : goal.returns-in_err-finish-clause-front
returns-in_err-finish-clause-front g c =
    on_err c.from_residual.result
    (front_of_block _ _ (held_of c.args.self.now) _ c.split_at.result.0.now
    c.split_at.result.1.now c.args.piece.now
    c.hold-2.ensures c.split_at.ensures.by_index.0 c.in_err-finish.ensures.front)

pub returns-in_err-put_all-clause-front : goal.returns-in_err-put_all-clause-front
returns-in_err-put_all-clause-front g c =
    on_err c.from_residual-in_err-put_all.result
    (front_past_block _ _ _ (held_of c.args.self.now) _ c.split_at.result.0.now
    c.split_at.result.1.now c.args.piece.now
    c.hold-2.ensures c.split_at.ensures.by_index.0 c.in_ok-finish.ensures.all c.in_err-put_all.ensures.front)

pub returns-clause-all : goal.returns-clause-all
returns-clause-all g c =
    sent_all _ _ _ (held_of c.args.self.now) _ c.split_at.result.0.now
    c.split_at.result.1.now c.args.piece.now
    (held_of c.finish.new.self) c.hold-2.ensures c.split_at.ensures.by_index.0 c.finish.ensures.none
    c.in_ok-finish.ensures.all c.in_ok-put_all.ensures.all
