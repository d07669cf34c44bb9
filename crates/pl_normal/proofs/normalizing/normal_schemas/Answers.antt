use Rattle.pl_normal.proofs.Tabling.{forms_more, item_form}
use Rattle.pl_normal.proofs.normalizing.normal_schemas.Goals as goal

pub loop-i-preserved : goal.loop-i-preserved
loop-i-preserved c =
    forms_more c.args.task.now c.loop-i.i c.as_slice-schemas.result.now c.loop-i.forms.items
    c.push.new.self.items c.in_ok-normal_schema.field-0 c.index-schemas-i.result
    c.as_slice-schemas.ensures c.loop-i-test.true c.loop-i.invariant
    (search (c.in_ok-normal_schema.ensures, c.index-schemas-i.is, item_form)) c.in_ok-push.ensures.items
