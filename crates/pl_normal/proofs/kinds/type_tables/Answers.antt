use Rattle.std.proofs.Common.{length}
use Rattle.pl_normal.specs.Kinds.{lists_of}
use Rattle.pl_normal.proofs.KindLemmas.{kind_here, kind_below, tables_more}
use Rattle.pl_normal.proofs.kinds.type_tables.Goals as goal

pub type_table-requires-clause-types : goal.type_table-requires-clause-types
type_table-requires-clause-types c = kind_below (length c.args.task.now.types) c.args.lists.now
    c.args.firsts.now c.loop-k.k _ c.requires.firsts c.loop-k-test.true c.requires.types

pub loop-k-preserved : goal.loop-k-preserved
loop-k-preserved c =
    tables_more c.args.task.now (lists_of c.args.lists.now) c.args.firsts.now c.loop-k.k _
    c.loop-k.tables.items c.push.new.self.items c.in_ok-type_table.field-0 c.loop-k.invariant
    c.in_ok-type_table.ensures
    (kind_here c.args.lists.now c.args.firsts.now c.loop-k.k _ c.requires.firsts c.loop-k-test.true)
    c.in_ok-push.ensures.items
