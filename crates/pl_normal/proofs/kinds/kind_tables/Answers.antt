use Rattle.std.proofs.Common.{◌∙◌, ap, length, subst}
use Rattle.pl_normal.specs.Kinds.{lists_of, AreTypeTables}
use Rattle.pl_normal.proofs.KindLemmas.{all_below, kinds_are}
use Rattle.pl_normal.proofs.kinds.kind_tables.Goals as goal

pub type_tables-requires-clause-types : goal.type_tables-requires-clause-types
type_tables-requires-clause-types c = all_below c.args.task.now c.as_slice.result.now
    c.as_slice-lists.result.now c.as_slice.ensures
    (ap lists_of c.as_slice-lists.ensures.value ∙ c.in_ok-parameters.ensures.lists)

pub returns : goal.returns
returns c =
    kinds_are c.args.task.now c.as_slice.result.now c.in_ok-parameters.parameters.starts.items
    c.in_ok-kinds.kinds.numbers.items c.in_ok-kinds.kinds.firsts.items c.as_slice-lists.result.now
    c.in_ok-tables.tables.items
    c.as_slice.ensures c.in_ok-parameters.ensures.starts
    (ap lists_of c.as_slice-lists.ensures.value ∙ c.in_ok-parameters.ensures.lists) c.in_ok-kinds.ensures
    (subst (λ firsts. AreTypeTables c.args.task.now (lists_of c.as_slice-lists.result.now) firsts
    (length firsts) c.in_ok-tables.tables.items) c.as_slice-4.ensures.value c.in_ok-tables.ensures)
