use Rattle.pl_gen.proofs.Stepping.{entry_at}
use Rattle.pl_gen.proofs.prepared.Prepared.view.Goals as goal

pub returns-in-Never : goal.returns-in-Never
returns-in-Never c s found =
    (entry_at c.args.self.now c.self.inside.normal.now c.self.inside.words.items c.self.inside.tables
    c.self.inside.entries.items c.args.schema s c.index.result.now c.self.view_is c.self.invariant
    c.requires c.index.ensures found).never c.in-Never.is

pub returns-in-Always : goal.returns-in-Always
returns-in-Always c s found =
    let is = entry_at c.args.self.now c.self.inside.normal.now c.self.inside.words.items c.self.inside.tables
    c.self.inside.entries.items c.args.schema s c.index.result.now c.self.view_is c.self.invariant
    c.requires c.index.ensures found in
    (is.always_guards c.in-Always.is, is.always_edges c.in-Always.is)

pub returns-in-Tables : goal.returns-in-Tables
returns-in-Tables c s found =
    let is = entry_at c.args.self.now c.self.inside.normal.now c.self.inside.words.items c.self.inside.tables
    c.self.inside.entries.items c.args.schema s c.index.result.now c.self.view_is c.self.invariant
    c.requires c.index.ensures found in (
      is.tables_guards c.in-Tables.reduced c.in-Tables.is,
      (
        is.tables_edges c.in-Tables.reduced c.in-Tables.is,
        is.tables_are c.in-Tables.reduced c.in-Tables.is,
      ),
    )
