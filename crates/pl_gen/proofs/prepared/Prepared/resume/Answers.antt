use Rattle.std.proofs.Common.{◌∙◌, arith}
use Rattle.pl_gen.specs.Kept.{left_of}
use Rattle.pl_gen.specs.Walks.{step_with}
use Rattle.pl_gen.proofs.Turning.{above_left}
use Rattle.pl_gen.proofs.Reading.{whole_reads}
use Rattle.pl_gen.proofs.Seeking.{resumed_few}
use Rattle.pl_gen.specs.Reads.{reads_of}
use Rattle.pl_gen.proofs.prepared.Prepared.resume.Goals as goal

pub returns-clause-left : goal.returns-clause-left
returns-clause-left g c =
    c.at.ensures.left
    ∙ ((λ i. left_of c.args.self.now (c.before-2.ensures.number i) (c.before-2.ensures.turn i))
    ∙ above_left c.args.self.now (step_with c.args.past.schema c.args.past.args.now) c.turn_past.result
    c.requires c.turn_past.ensures.steps)

pub returns-clause-cost : goal.returns-clause-cost
returns-clause-cost g c =
    let same = c.at.ensures.reads
    ∙ (λ i. reads_of c.args.self.now (c.before-2.ensures.number i) (c.before-2.ensures.turn i)) in
    let whole = whole_reads c.args.self.now c.args.past.schema c.args.steps.now c.turn_past.new.steps
    c.turn_past.result c.turn_past.ensures.cost in omega (arith, same, whole)

pub returns-clause-few : goal.returns-clause-few
returns-clause-few g c =
    resumed_few c.args.self.now c.args.past.schema c.args.steps.now c.turn_past.new.steps c.requires.schema
    c.requires.found (c.turn_past.ensures.few c.requires.schema c.requires.found)
