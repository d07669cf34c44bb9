use Rattle.std.proofs.Common.{refl}
use Rattle.pl_gen.proofs.Giving.{step_given, given_none, given_first, given_one, given_each, given_few}
use Rattle.pl_gen.proofs.walk.Walk.next.Goals as goal

pub returns-then-advance : goal.returns-then-advance
returns-then-advance g c =
    let turn = step_given c.args.self.now c.advance.new.self c.last.result c.if-advance.ensures.step
    c.last.ensures in (
      (refl, λ _. tt, (turn, c.advance.ensures.cost)),
      record {
        after = tt;
        none = given_none _ c.args.self.now c.advance.new.self c.last.result c.if-advance.ensures.step
            c.last.ensures;
        first = given_first c.args.self.now c.advance.new.self c.last.result turn;
        one = given_one c.args.self.now c.advance.new.self c.last.result c.args.steps.now c.advance.new.steps
            turn c.if-advance.ensures.local;
        over = given_none _ c.args.self.now c.advance.new.self c.last.result c.if-advance.ensures.step
            c.last.ensures;
        each = given_each c.args.self.now c.advance.new.self c.args.steps.now c.advance.new.steps
            c.if-advance.ensures.within c.if-advance.ensures.local;
        few = given_few c.args.self.now c.advance.new.self c.args.steps.now c.advance.new.steps
            c.if-advance.ensures.within c.if-advance.ensures.local;
        rise = c.advance.ensures.rise;
      },
    )
