use Rattle.std.proofs.Common.{arith, refl}
use Rattle.pl_normal.proofs.KindLemmas.{place_numbered, number_within, number_table}
use Rattle.pl_normal.proofs.kinds.type_table_at.Goals as goal

pub overflow_add-first : goal.overflow_add-first
overflow_add-first c =
    let low = place_numbered c.args._task.now c.args._task.now c.args.kinds.now.starts.items
    c.args.kinds.now.numbers.items c.args.kinds.now.tables.items c.args.schema c.args.parameter
    c.index-first.result.now refl c.requires.kinds c.requires.schema c.requires.parameter
    c.index-first.ensures in
    let long = c.args.kinds.now.numbers.ok in
    omega (arith, low, long.0, long.1, c.args.kinds.now.numbers.small)

pub index-number-requires : goal.index-number-requires
index-number-requires c =
    let low = place_numbered c.args._task.now c.args._task.now c.args.kinds.now.starts.items
    c.args.kinds.now.numbers.items c.args.kinds.now.tables.items c.args.schema c.args.parameter
    c.index-first.result.now refl c.requires.kinds c.requires.schema c.requires.parameter
    c.index-first.ensures in
    let long = c.args.kinds.now.numbers.ok in
    omega (arith, low, long.0)

pub index-requires : goal.index-requires
index-requires c =
    let low = number_within c.args._task.now c.args._task.now c.args.kinds.now.starts.items
    c.args.kinds.now.numbers.items c.args.kinds.now.tables.items c.args.schema c.args.parameter
    c.index-first.result.now refl c.requires.kinds c.requires.schema c.requires.parameter
    c.index-first.ensures c.index-number.result.now c.index-number.ensures in
    let long = c.args.kinds.now.tables.ok in
    omega (arith, low, long.0)

pub returns : goal.returns
returns c = number_table c.args._task.now c.args._task.now c.args.kinds.now.starts.items
    c.args.kinds.now.numbers.items c.args.kinds.now.tables.items c.args.schema c.args.parameter
    c.index-first.result.now refl c.requires.kinds c.requires.schema c.requires.parameter
    c.index-first.ensures c.index-number.result.now c.index.result.now c.index-number.ensures c.index.ensures
