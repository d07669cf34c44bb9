use Rattle.std.proofs.Common.{◌∙◌, arith}
use Rattle.std.proofs.lemmas.Option.{slice_get_within}
use Rattle.pl_normal.proofs.Forming.{cmp_less, cmp_greater, cmp_same, order_within, order_within_other}
use Rattle.pl_normal.proofs.normalizing.NormalTask.step_cmp.Goals as goal

pub returns-then-a-b : goal.returns-then-a-b
returns-then-a-b c = cmp_less c.args.self.now _ _ c.if-a-b.true

pub returns-then-b-a : goal.returns-then-b-a
returns-then-b-a c = cmp_greater c.args.self.now _ _ c.if-b-a.true

pub schema-form-requires : goal.schema-form-requires
schema-form-requires c = slice_get_within c.args.self.now.schemas c.args.a.schema c.requires.a.schema
    c.requires.a.found

pub args_cmp-requires-clause-a : goal.args_cmp-requires-clause-a
args_cmp-requires-clause-a c =
    order_within c.requires.a.schema c.as_slice.result.now c.args.a.args.now
    (c.as_slice.ensures ∙ (c.schema-form.ensures c.requires.a.schema c.requires.a.found).order)
    c.requires.a.many

pub args_cmp-requires-clause-b : goal.args_cmp-requires-clause-b
args_cmp-requires-clause-b c =
    order_within_other c.args.self.now c.args.a.schema c.args.b.schema c.requires.a.schema c.requires.b.schema
    c.as_slice.result.now c.args.b.args.now (omega (arith, c.if-a-b.false, c.if-b-a.false))
    c.requires.a.found c.requires.b.found
    (c.as_slice.ensures ∙ (c.schema-form.ensures c.requires.a.schema c.requires.a.found).order)
    c.requires.b.many

pub returns : goal.returns
returns c =
    cmp_same c.args.self.now _ _ c.requires.a.schema c.as_slice.result.now c.args_cmp.result
    (omega (arith, c.if-a-b.false, c.if-b-a.false)) c.requires.a.found
    (c.as_slice.ensures ∙ (c.schema-form.ensures c.requires.a.schema c.requires.a.found).order)
    c.args_cmp.ensures
