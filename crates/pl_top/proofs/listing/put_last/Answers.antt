use Rattle.pl_io.specs.Blocks.{held_of}
use Rattle.pl_io.proofs.Gathering.{front_at_end}
use Rattle.pl_top.proofs.ResultLemmas.{on_err_weaker}
use Rattle.pl_top.proofs.listing.put_last.Goals as goal

pub returns-clause-front : goal.returns-clause-front
returns-clause-front g c =
    on_err_weaker _ _ c.finish.result
    (front_at_end _ _ _ (held_of c.args.blocks.now) c.args.line.now
    (held_of c.put.new.self) c.in_ok-put.ensures.all)
    c.finish.ensures.front
