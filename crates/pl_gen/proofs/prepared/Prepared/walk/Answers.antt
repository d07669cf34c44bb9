use Rattle.std.proofs.Common.{◌∙◌}
use Rattle.pl_gen.specs.Kept.{left_of}
use Rattle.pl_gen.proofs.Turning.{all_left}
use Rattle.pl_gen.proofs.prepared.Prepared.walk.Goals as goal

pub returns-clause-left : goal.returns-clause-left
returns-clause-left c =
    c.at.ensures.left
    ∙ ((λ i. left_of c.args.self.now (c.before-2.ensures.number i) (c.before-2.ensures.turn i))
    ∙ all_left c.args.self.now c.turn.result c.turn.ensures.steps)
