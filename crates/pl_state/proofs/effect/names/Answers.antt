use Rattle.std.proofs.Common.{◌∙◌, take}
use Rattle.pl_state.specs.Changing.{is_named}
use Rattle.pl_state.proofs.Namings.{named_more, none_yet, named_at}
use Rattle.pl_state.proofs.effect.names.Goals as goal

pub returns-then-names_row : goal.returns-then-names_row
returns-then-names_row c =
    named_at c.args.args.now c.args.predicate c.args.effects.now c.args.row.now c.loop-effect.effect-index
    c.effect-item.result c.loop-effect-test.true c.effect-item.is c.if-names_row.ensures

pub loop-effect-preserved : goal.loop-effect-preserved
loop-effect-preserved c =
    named_more c.args.args.now c.args.predicate c.args.effects.now c.args.row.now c.loop-effect.effect-index
    c.effect-item.result c.names_row.result c.loop-effect-test.true c.effect-item.is c.names_row.ensures ∙
    none_yet (is_named c.args.args.now c.args.predicate (take c.loop-effect.effect-index c.args.effects.now)
    c.args.row.now) c.names_row.result c.loop-effect.invariant c.if-names_row.false
