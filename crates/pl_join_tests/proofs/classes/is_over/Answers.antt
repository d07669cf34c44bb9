use Rattle.std.proofs.Common.{◌∙◌, sym}
use Rattle.pl_join.proofs.Members.{has_class-Contains}
use Rattle.pl_join.proofs.Operations.{slot_over}
use Rattle.pl_join_tests.proofs.classes.is_over.Goals as goal

pub returns-in-Class : goal.returns-in-Class
returns-in-Class c t =
    slot_over c.args.classes.now c.args.slot c.in-Class.class c.in-Class.is
    ((has_class-Contains c.args.classes.now c.in-Class.class).0 (sym c.has.ensures ∙ t))
