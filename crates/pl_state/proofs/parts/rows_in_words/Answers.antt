use Rattle.pl_state.proofs.Readings.{fluent_part, lent}
use Rattle.pl_state.proofs.parts.rows_in_words.Goals as goal

pub part_in-requires : goal.part_in-requires
part_in-requires c =
    (fluent_part c.args.task.now c.args.words.now c.as_slice.result.now c.args.predicate
    c.part_start-at.result c.index-as_slice-predicate.result c.requires.state c.requires.fluent
    c.as_slice.ensures c.index-as_slice-predicate.is c.part_start-at.ensures).whole

pub returns-clause-whole : goal.returns-clause-whole
returns-clause-whole c =
    (lent c.args.task.now c.args.words.now c.as_slice.result.now c.args.predicate c.part_start-at.result
    c.index-as_slice-predicate.result c.part_in.result.count c.part_in.result.flat.now
    c.requires.state c.requires.fluent c.as_slice.ensures c.index-as_slice-predicate.is
    c.part_start-at.ensures c.part_in.ensures.count c.part_in.ensures.whole c.part_in.ensures.flat).whole

pub returns-clause-rows : goal.returns-clause-rows
returns-clause-rows c =
    (lent c.args.task.now c.args.words.now c.as_slice.result.now c.args.predicate c.part_start-at.result
    c.index-as_slice-predicate.result c.part_in.result.count c.part_in.result.flat.now
    c.requires.state c.requires.fluent c.as_slice.ensures c.index-as_slice-predicate.is
    c.part_start-at.ensures c.part_in.ensures.count c.part_in.ensures.whole c.part_in.ensures.flat).rows

pub returns-clause-read : goal.returns-clause-read
returns-clause-read c =
    (lent c.args.task.now c.args.words.now c.as_slice.result.now c.args.predicate c.part_start-at.result
    c.index-as_slice-predicate.result c.part_in.result.count c.part_in.result.flat.now
    c.requires.state c.requires.fluent c.as_slice.ensures c.index-as_slice-predicate.is
    c.part_start-at.ensures c.part_in.ensures.count c.part_in.ensures.whole c.part_in.ensures.flat).read
