use Rattle.pl_normal.proofs.Handing.{form_kept}
use Rattle.pl_normal.proofs.normalizing.NormalTask.schema.Goals as goal

pub returns : goal.returns
returns c =
    form_kept c.self.inside.task.now c.args.self.now c.self.inside.schemas.items c.args.i c.index.result.now
    c.self.view_is
    c.self.invariant.schemas_are c.requires c.index.ensures
