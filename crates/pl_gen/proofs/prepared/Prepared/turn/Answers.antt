use Rattle.std.proofs.Common.{◌<◌, ◌≤◌, true, subst}
use Rattle.pl_gen.proofs.Stepping.{never_here, once_here, rows_here, rows_here_of, once_here_of, none_here}
use Rattle.pl_gen.proofs.Reading.{over_reads, once_reads, rows_reads_here}
use Rattle.pl_gen.proofs.prepared.Prepared.turn.Goals as goal

pub returns-in-Always-clause-steps : goal.returns-in-Always-clause-steps
returns-in-Always-clause-steps c = once_here c.args.self.now c.self.inside.normal.now
    c.self.inside.words.items c.self.inside.tables c.self.inside.entries.items c.args.number
    c.index.result.now c.self.view_is c.self.invariant
    (subst (λ n. c.args.number < n) c.count.ensures c.if-count-number.false) c.index.ensures c.in-Always.is

pub returns-in-Always-clause-turn : goal.returns-in-Always-clause-turn
returns-in-Always-clause-turn c = once_here_of c.args.self.now c.self.inside.normal.now
    c.self.inside.words.items c.self.inside.tables c.self.inside.entries.items c.args.number
    c.index.result.now c.self.view_is c.self.invariant
    (subst (λ n. c.args.number < n) c.count.ensures c.if-count-number.false) c.index.ensures c.in-Always.is

pub returns-in-Never-clause-steps : goal.returns-in-Never-clause-steps
returns-in-Never-clause-steps c = never_here c.args.self.now c.self.inside.normal.now
    c.self.inside.words.items c.self.inside.tables c.self.inside.entries.items c.args.number
    c.index.result.now c.self.view_is c.self.invariant
    (subst (λ n. c.args.number < n) c.count.ensures c.if-count-number.false) c.index.ensures c.in-Never.is

pub returns-in-Tables-clause-steps : goal.returns-in-Tables-clause-steps
returns-in-Tables-clause-steps c = rows_here c.args.self.now c.self.inside.normal.now
    c.self.inside.words.items c.self.inside.tables c.self.inside.entries.items c.args.number
    c.index.result.now c.in-Tables.reduced c.start.result c.self.view_is c.self.invariant
    (subst (λ n. c.args.number < n) c.count.ensures c.if-count-number.false) c.index.ensures c.in-Tables.is
    c.start.ensures.join c.start.ensures.answers

pub returns-in-Tables-clause-turn : goal.returns-in-Tables-clause-turn
returns-in-Tables-clause-turn c = rows_here_of c.args.self.now c.self.inside.normal.now
    c.self.inside.words.items c.self.inside.tables c.self.inside.entries.items c.args.number
    c.index.result.now c.in-Tables.reduced c.start.result (λ _. true) c.self.view_is c.self.invariant
    (subst (λ n. c.args.number < n) c.count.ensures c.if-count-number.false) c.index.ensures c.in-Tables.is
    c.start.ensures.join c.start.ensures.answers

pub returns-then-count-number-clause-steps : goal.returns-then-count-number-clause-steps
returns-then-count-number-clause-steps c = none_here c.args.self.now c.args.number
    (subst (λ n. n ≤ c.args.number) c.count.ensures c.if-count-number.true)

pub returns-in-Never-clause-reads : goal.returns-in-Never-clause-reads
returns-in-Never-clause-reads c = over_reads c.args.self.now c.args.number

pub returns-in-Always-clause-reads : goal.returns-in-Always-clause-reads
returns-in-Always-clause-reads c = once_reads c.args.self.now c.args.number

pub returns-in-Tables-clause-reads : goal.returns-in-Tables-clause-reads
returns-in-Tables-clause-reads c =
    rows_reads_here c.args.self.now c.self.inside.normal.now c.self.inside.words.items c.self.inside.tables
    c.self.inside.entries.items c.args.number c.index.result.now c.in-Tables.reduced c.start.result
    c.self.view_is c.self.invariant
    (subst (λ n. c.args.number < n) c.count.ensures c.if-count-number.false) c.index.ensures
    c.in-Tables.is c.start.ensures.answers
