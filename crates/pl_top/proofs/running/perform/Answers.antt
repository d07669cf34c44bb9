use Rattle.std.proofs.Common.{sym, subst}
use Rattle.pl_top.specs.declared.request.Request.{Request as Asked}
use Rattle.pl_top.specs.Asked.{named}
use Rattle.pl_top.specs.Work.{IsWithin}
use Rattle.pl_top.proofs.running.perform.Goals as goal

pub returns-in-Plan-clause-work : goal.returns-in-Plan-clause-work
returns-in-Plan-clause-work g c =
    subst (λ (r : Asked). IsWithin (named r) (g.S.Shelf.seen c.args.shelf.now)
    (g.S.Shelf.seen c.plan.new.shelf) c.args.steps.now c.plan.new.steps c.plan.result)
    (sym c.in-Plan.is) c.plan.ensures.work
