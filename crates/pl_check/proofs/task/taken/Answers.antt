use Rattle.std.proofs.Common.{◌∙◌, ap}
use Rattle.pl_check.proofs.GatheringLemmas.{emptied_at}
use Rattle.pl_check.proofs.task.taken.Goals as goal

pub returns-clause-others : goal.returns-clause-others
returns-clause-others c =
    emptied_at c.args.lists.now.items c.args.place c.replace.new.dest
    (ap (λ v. v.items) c.replace.ensures.after ∙ c.new.ensures.items)
