use Rattle.std.proofs.Common.{arith, refl, ap, ◌∙◌, length, take, map}
use Rattle.std.specs.Prelude.{slice_index}
use Rattle.std.proofs.lemmas.Option.{slice_get_within}
use Rattle.pl_cursor.specs.Cursor.{is_past}
use Rattle.pl_gen.specs.Walks.{step_with}
use Rattle.pl_gen.proofs.Turning.{once_turn_of, over_steps}
use Rattle.pl_gen.proofs.Stepping.{key_classes, key_few, entry_of_step, join_classes, past_here}
use Rattle.pl_gen.proofs.Stepping.{once_past_here, never_past_here, rows_here_of, front_is, then_once}
use Rattle.pl_gen.proofs.Stepping.{else_once}
use Rattle.pl_gen.proofs.Reading.{over_reads, once_reads, past_reads_here, sought}
use Rattle.pl_gen.specs.Walks.{state_of_prepared}
use Rattle.pl_gen.proofs.Seeking.{sought_few}
use Rattle.pl_gen.proofs.prepared.Prepared.turn_past.Goals as goal

pub write_key-requires-clause-classes : goal.write_key-requires-clause-classes
write_key-requires-clause-classes g c =
    key_classes c.args.self.now.task c.args.past.schema c.requires.schema c.classes-classes.result.now
    c.args.past.args.now c.requires.found c.requires.many
    (join_classes c.args.self.now c.self.inside.normal.now c.self.inside.words.items c.self.inside.tables
    c.self.inside.entries.items (step_with c.args.past.schema c.args.past.args.now) c.index.result.now
    c.requires.schema c.in-Tables.reduced c.classes-classes.result.now c.self.view_is c.self.invariant
    c.index.ensures c.in-Tables.is c.classes-classes.ensures c.requires.found)

pub write_key-requires-clause-room : goal.write_key-requires-clause-room
write_key-requires-clause-room g c =
    key_few c.args.self.now.task c.args.past.schema c.requires.schema c.classes-classes.result.now
    c.requires.found
    (join_classes c.args.self.now c.self.inside.normal.now c.self.inside.words.items c.self.inside.tables
    c.self.inside.entries.items (step_with c.args.past.schema c.args.past.args.now) c.index.result.now
    c.requires.schema c.in-Tables.reduced c.classes-classes.result.now c.self.view_is c.self.invariant
    c.index.ensures c.in-Tables.is c.classes-classes.ensures c.requires.found)

pub returns-in-Never-clause-steps : goal.returns-in-Never-clause-steps
returns-in-Never-clause-steps g c = never_past_here c.args.self.now c.self.inside.normal.now
    c.self.inside.words.items c.self.inside.tables c.self.inside.entries.items
    (step_with c.args.past.schema c.args.past.args.now) c.index.result.now c.self.view_is c.self.invariant
    c.requires c.index.ensures c.in-Never.is

pub returns-then-key_is_above-clause-steps : goal.returns-then-key_is_above-clause-steps
returns-then-key_is_above-clause-steps g c =
    then_once c.key_is_above.result _ _ c.if-key_is_above.true
    (once_past_here c.args.self.now c.self.inside.normal.now c.self.inside.words.items
    c.self.inside.tables c.self.inside.entries.items (step_with c.args.past.schema c.args.past.args.now)
    c.index.result.now c.key_is_above.result c.self.view_is c.self.invariant c.requires c.index.ensures
    c.in-Always.is c.key_is_above.ensures)

pub returns-then-key_is_above-clause-turn : goal.returns-then-key_is_above-clause-turn
returns-then-key_is_above-clause-turn g c =
    once_turn_of c.args.self.now.task c.args.past.schema c.requires.schema c.requires.found
    (slice_get_within c.args.self.now.task.schemas c.args.past.schema c.requires.schema c.requires.found)
    ((entry_of_step c.args.self.now c.self.inside.normal.now c.self.inside.words.items c.self.inside.tables
    c.self.inside.entries.items (step_with c.args.past.schema c.args.past.args.now) c.index.result.now
    c.requires.schema c.self.view_is c.self.invariant c.index.ensures c.requires.found).always_edges
    c.in-Always.is)

pub returns-else-key_is_above-clause-steps : goal.returns-else-key_is_above-clause-steps
returns-else-key_is_above-clause-steps g c =
    over_steps c.args.self.now c.args.past.schema
    ∙ else_once c.key_is_above.result _ _ c.if-key_is_above.false
    (once_past_here c.args.self.now c.self.inside.normal.now c.self.inside.words.items
    c.self.inside.tables c.self.inside.entries.items (step_with c.args.past.schema c.args.past.args.now)
    c.index.result.now c.key_is_above.result c.self.view_is c.self.invariant c.requires c.index.ensures
    c.in-Always.is c.key_is_above.ensures)

pub returns-in-Tables-clause-steps : goal.returns-in-Tables-clause-steps
returns-in-Tables-clause-steps g c =
    past_here c.args.self.now c.self.inside.normal.now c.self.inside.words.items c.self.inside.tables
    c.self.inside.entries.items (step_with c.args.past.schema c.args.past.args.now) c.index.result.now
    c.in-Tables.reduced c.seek.result c.key_is_above-inclusive.result
    (take (length c.classes-classes.result.now) c.write_key.new.key) c.self.view_is c.self.invariant
    c.requires c.index.ensures c.in-Tables.is
    c.seek.ensures.join c.answers_are_listed.ensures c.seek.ensures.answers c.answers_past_are_a_part.ensures
    (λ s found. front_is (slice_index c.args.past.args.now) c.classes-classes.result.now c.write_key.new.key _
    (length c.classes-classes.result.now) c.write_key.ensures refl
    ∙ ap (map (slice_index c.args.past.args.now))
    (join_classes c.args.self.now c.self.inside.normal.now c.self.inside.words.items c.self.inside.tables
    c.self.inside.entries.items (step_with c.args.past.schema c.args.past.args.now) c.index.result.now s
    c.in-Tables.reduced c.classes-classes.result.now c.self.view_is c.self.invariant c.index.ensures
    c.in-Tables.is c.classes-classes.ensures found))
    c.key_is_above-inclusive.ensures

pub returns-in-Tables-clause-turn : goal.returns-in-Tables-clause-turn
returns-in-Tables-clause-turn g c =
    rows_here_of c.args.self.now c.self.inside.normal.now c.self.inside.words.items c.self.inside.tables
    c.self.inside.entries.items c.args.past.schema c.index.result.now c.in-Tables.reduced c.seek.result
    (is_past c.key_is_above-inclusive.result
    (take (length c.classes-classes.result.now) c.write_key.new.key)) c.self.view_is c.self.invariant
    (slice_get_within c.args.self.now.task.schemas c.args.past.schema c.requires.schema c.requires.found)
    c.index.ensures c.in-Tables.is c.seek.ensures.join c.seek.ensures.answers

pub returns-in-Never-clause-cost : goal.returns-in-Never-clause-cost
returns-in-Never-clause-cost g c = let reads = over_reads c.args.self.now c.args.past.schema in
    omega (arith, reads)

pub returns-then-key_is_above-clause-cost : goal.returns-then-key_is_above-clause-cost
returns-then-key_is_above-clause-cost g c = let reads = once_reads c.args.self.now c.args.past.schema in
    omega (arith, reads)

pub returns-else-key_is_above-clause-cost : goal.returns-else-key_is_above-clause-cost
returns-else-key_is_above-clause-cost g c = let reads = over_reads c.args.self.now c.args.past.schema in
    omega (arith, reads)

pub returns-in-Tables-clause-cost : goal.returns-in-Tables-clause-cost
returns-in-Tables-clause-cost g c =
    past_reads_here c.args.self.now c.self.inside.normal.now c.self.inside.words.items c.self.inside.tables
    c.self.inside.entries.items c.args.past.schema c.args.steps.now c.seek.new.steps c.index.result.now
    c.in-Tables.reduced c.seek.result
    (is_past c.key_is_above-inclusive.result (take (length c.classes-classes.result.now) c.write_key.new.key))
    c.requires.schema c.self.view_is c.self.invariant c.requires.found c.index.ensures c.in-Tables.is
    c.answers_are_listed.ensures c.seek.ensures.answers c.answers_past_are_a_part.ensures c.seek.ensures.cost

pub returns-in-Tables-clause-sought : goal.returns-in-Tables-clause-sought
returns-in-Tables-clause-sought g c = λ s found.
    sought c.args.steps.now c.seek.new.steps c.in-Tables.reduced.classes c.classes-classes.result.now s
    c.classes-classes.ensures
    (join_classes c.args.self.now c.self.inside.normal.now c.self.inside.words.items c.self.inside.tables
    c.self.inside.entries.items (step_with c.args.past.schema c.args.past.args.now) c.index.result.now s
    c.in-Tables.reduced c.classes-classes.result.now c.self.view_is c.self.invariant c.index.ensures
    c.in-Tables.is c.classes-classes.ensures found) c.seek.ensures.cost

pub returns-in-Tables-clause-few : goal.returns-in-Tables-clause-few
returns-in-Tables-clause-few g c = λ s found.
    sought_few c.args.self.now.task s (state_of_prepared c.args.self.now) c.in-Tables.reduced c.args.steps.now
    c.seek.new.steps
    ((entry_of_step c.args.self.now c.self.inside.normal.now c.self.inside.words.items c.self.inside.tables
    c.self.inside.entries.items (step_with c.args.past.schema c.args.past.args.now) c.index.result.now s
    c.self.view_is c.self.invariant c.index.ensures found).tables_are c.in-Tables.reduced c.in-Tables.is)
    c.seek.ensures.cost c.seek.ensures.no_cost
