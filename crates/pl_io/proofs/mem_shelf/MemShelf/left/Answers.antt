use Rattle.pl_io.proofs.Places.{left_of-name_at}
use Rattle.pl_io.proofs.mem_shelf.MemShelf.left.Goals as goal

pub returns : goal.returns
returns c =
    rw c.in-Some.is (left_of-name_at _ c.in-Some.i _ _ _ _ (c.args.self.now.first c.in-Some.i c.in-Some.is)
    c.index.ensures c.content-bytes.ensures c.min.ensures)
