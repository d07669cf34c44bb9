use Rattle.pl_state.specs.StateOf.{state_in}
use Rattle.pl_bfs.proofs.Sifted.{first_seen}
use Rattle.pl_bfs.proofs.sieve.Sieve.of.Goals as goal

pub returns-clause-notes : goal.returns-clause-notes
returns-clause-notes c =
    first_seen c.args.task.now c.args.k (state_in c.args.task.now c.args.state.now) c.new-novelty.result
    c.note.new.self c.noting_is_seeing.ensures.seeing c.noting_is_seeing.ensures.none
    c.requires.some c.requires.few c.new-novelty.ensures.width c.new-novelty.ensures.none
    c.in_ok-note.ensures.noted
