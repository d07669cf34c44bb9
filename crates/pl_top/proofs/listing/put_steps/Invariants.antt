use Rattle.std.proofs.Common.{◌≡◌, ◌≤◌, ◌+◌, ◌*◌, ◌++◌, All, length}
use Rattle.pl_io.specs.Blocks.{held_of}
use Rattle.pl_task.specs.States.{IsStep}
use Rattle.pl_normal.specs.Measures.{largest_size}
use Rattle.pl_top.specs.Listing.{first_steps, list_text}
use Rattle.pl_top.proofs.PutLemmas.{IsSoFar, WithinPage}
use Rattle.pl_top.proofs.listing.put_steps.Given as goal

-- of the whole text a front was written, and what is left of it is what is held back and the text of the
-- steps that are left; what was taken so far leaves the shares of the steps that are to be printed
abbrev pub invariant-loop-count : goal.invariant-loop-count
invariant-loop-count g l =
    record {
      steps : All (IsStep l.task) l.walk.left;
      so_far : IsSoFar (list_text l.task l.initial.count l.initial.walk.left)
          (held_of l.blocks ++ list_text l.task l.count l.walk.left)
          (g.O.Sink.seen l.initial.out).written (g.O.Sink.seen l.out).written;
      later : (g.O.Sink.seen l.initial.out).faults ≤ (g.O.Sink.seen l.out).faults;
      cost : l.steps + l.walk.reads ≤ l.fn.steps + l.initial.walk.reads;
      prepared : l.walk.prepared ≡ l.initial.walk.prepared;
      page : WithinPage l.initial.walk.prepared l.steps
          (l.fn.steps + 2 * largest_size l.initial.walk.prepared.task
          * (length (first_steps l.initial.count l.initial.walk.left) + 1))
          (length (first_steps l.count l.walk.left));
    }

abbrev pub decreases-loop-count : goal.decreases-loop-count
decreases-loop-count g l = length l.walk.left
