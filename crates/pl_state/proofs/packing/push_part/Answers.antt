use Rattle.std.proofs.Common.{◌∙◌, ◌-◌, arith}
use Rattle.pl_state.proofs.Packings.{table_words}
use Rattle.pl_state.proofs.packing.push_part.Goals as goal

pub returns-clause-words : goal.returns-clause-words
returns-clause-words c =
    c.in_ok-extend_from_slice.ensures.items ∙
    table_words c.args.words.now.items c.push.new.self.items c.part.result.now c.args.table.now.arity
    (c.len-count.result - 0) c.in_ok-as_word.field-0 c.args.table.now.rows
    (omega (arith, c.len-count.ensures.len)) (omega (arith, c.in_ok-as_word.ensures.value))
    c.in_ok-push.ensures.items c.part.ensures.whole c.part.ensures.rows
