use Rattle.pl_top.proofs.WorkLemmas.{list_cost, list_page}
use Rattle.pl_top.proofs.listing.put_list.Goals as goal

pub returns-in-Ok-put_steps-clause-work : goal.returns-in-Ok-put_steps-clause-work
returns-in-Ok-put_steps-clause-work g c =
    list_cost c.args.task.now c.in-Ok.normal c.in-Ok-prepare.prepared c.args.state.now _ _ _ _ _
    c.in-Ok.ensures
    c.in-Ok-prepare.ensures.cost c.walk_past-walk.ensures.cost c.put_steps.ensures.cost

pub returns-in-Ok-put_steps-clause-page : goal.returns-in-Ok-put_steps-clause-page
returns-in-Ok-put_steps-clause-page g c =
    list_page c.args.task.now c.in-Ok.normal c.in-Ok-prepare.prepared c.args.state.now _ c.args.count
    c.walk_past-walk.result _ _ _ _ c.in-Ok.ensures c.in-Ok-prepare.ensures.prepared
    c.in-Ok-prepare.ensures.base c.walk_past-walk.ensures.few
    c.walk_past-walk.ensures.prepared c.walk_past-walk.ensures.left c.put_steps.ensures.page
