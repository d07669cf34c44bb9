use Rattle.pl_text.proofs.NestingLemmas.{adds_close}
use Rattle.pl_text.proofs.reading.Reading.leave.Goals as goal

pub returns-in-Ok-push-clause-ok : goal.returns-in-Ok-push-clause-ok
returns-in-Ok-push-clause-ok c =
    adds_close c.args.self.now.lists.items c.pop.new.self.items c.in-Some.list c.args.self.now.done.items _
    _ c.in-Ok.elements c.args.at c.in-Some.ensures.items c.in-Ok.ensures.items c.in-Ok.ensures.tail
    c.in-Ok-push.ensures.items c.requires.kept
