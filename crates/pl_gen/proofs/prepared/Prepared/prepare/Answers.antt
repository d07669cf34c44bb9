use Rattle.std.proofs.Common.{◌∙◌}
use Rattle.pl_gen.proofs.Basing.{base_within}
use Rattle.pl_gen.proofs.Sizes.{prepared_within, tables_within}
use Rattle.pl_gen.proofs.prepared.Prepared.prepare.Goals as goal

pub returns-clause-cost : goal.returns-clause-cost
returns-clause-cost g c =
    prepared_within c.args.normal.now c.in_ok-words.words.items c.deref.result.now c.args.state.now
    c.args.steps.now c.entries_of.new.steps
    (c.deref.ensures.value ∙ (c.in_ok-words.ensures.items ∙ c.words.ensures))
    (c.in_ok-words.ensures.items ∙ c.words.ensures) c.in_ok-entries.ensures.cost

pub returns-clause-tables : goal.returns-clause-tables
returns-clause-tables g c =
    tables_within c.args.normal.now c.deref.result.now c.args.state.now c.args.steps.now
    c.entries_of.new.steps (c.deref.ensures.value ∙ (c.in_ok-words.ensures.items ∙ c.words.ensures))
    c.in_ok-entries.ensures.cost

pub returns-clause-base : goal.returns-clause-base
returns-clause-base g c =
    base_within c.args.normal.now c.in_ok-words.words.items c.deref.result.now c.args.state.now
    c.args.steps.now c.entries_of.new.steps (c.deref.ensures.value ∙
    (c.in_ok-words.ensures.items ∙ c.words.ensures)) (c.in_ok-words.ensures.items ∙ c.words.ensures)
    c.in_ok-entries.ensures.cost
