use Rattle.std.proofs.lemmas.Result.{on_ok_weaker}
use Rattle.pl_novel.proofs.Numberings.{effects_have_values, added_numbered}
use Rattle.pl_novel.proofs.adding.number_added.Goals as goal

pub number_effects-requires : goal.number_effects-requires
number_effects-requires c =
    effects_have_values c.args.task.now (record { schema = c.args.step.schema; args = c.args.step.args.now })
    c.as_slice.result.now c.index-as_slice-step.result c.as_slice-adds.result.now c.requires
    c.as_slice.ensures c.index-as_slice-step.is c.as_slice-adds.ensures

pub returns-clause-ok : goal.returns-clause-ok
returns-clause-ok c =
    on_ok_weaker c.number_effects.result
    (added_numbered c.args.task.now (record { schema = c.args.step.schema; args = c.args.step.args.now })
    c.as_slice.result.now c.index-as_slice-step.result c.as_slice-adds.result.now c.requires
    c.as_slice.ensures c.index-as_slice-step.is c.as_slice-adds.ensures c.args.atoms.now.keys
    c.number_effects.new.atoms.keys c.clear.new.self.items c.number_effects.new.numbers.items
    c.clear.ensures.items)
    c.number_effects.ensures.ok
