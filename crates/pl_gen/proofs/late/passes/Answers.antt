use Rattle.std.proofs.Common.{refl, sym, ap, ◌∙◌, length, take}
use Rattle.std.specs.Prelude.{slice_index}
use Rattle.std.proofs.lemmas.List.{length-map}
use Rattle.pl_normal.specs.declared.form.Sieve.TheVariants as sieve
use Rattle.pl_join.specs.Relation.{slot_value}
use Rattle.pl_gen.specs.Queries.{state_asked}
use Rattle.pl_gen.proofs.Stepping.{few_slots, slots_wide, front_is, absent_met}
use Rattle.pl_gen.proofs.late.passes.Goals as goal

pub write_key-requires-clause-room : goal.write_key-requires-clause-room
write_key-requires-clause-room g c =
    few_slots c.args.query.now.normal.now c.in-Absent.predicate c.as_slice-slots.result.now
    (c.requires.sieve.predicate c.in-Absent.predicate c.in-Absent.slots c.in-Absent.is)
    (λ d found. ap length c.as_slice-slots.ensures
    ∙ c.requires.sieve.arity c.in-Absent.predicate c.in-Absent.slots d c.in-Absent.is found)

pub has-requires : goal.has-requires
has-requires g c =
    ap length (front_is (slot_value (slice_index c.args.values.now)) c.as_slice-slots.result.now
    c.write_key.new.key _ (length c.as_slice-slots.result.now) c.write_key.ensures refl)
    ∙ (length-map c.as_slice-slots.result.now (slot_value (slice_index c.args.values.now))
    ∙ slots_wide c.args.query.now.normal.now c.in-Absent.predicate c.predicate_table-table.result.now.arity
    c.as_slice-slots.result.now
    (c.requires.sieve.predicate c.in-Absent.predicate c.in-Absent.slots c.in-Absent.is)
    (λ d found. ap length c.as_slice-slots.ensures
    ∙ c.requires.sieve.arity c.in-Absent.predicate c.in-Absent.slots d c.in-Absent.is found)
    c.predicate_table-table.ensures.arity)

pub returns-in-Absent-clause-passes : goal.returns-in-Absent-clause-passes
returns-in-Absent-clause-passes g c =
    absent_met (state_asked c.args.query.now) (slice_index c.args.values.now) c.args.sieve.now
    c.in-Absent.predicate c.as_slice-slots.result.now c.predicate_table-table.result.now.rows
    (take (length c.as_slice-slots.result.now) c.write_key.new.key) c.has.result
    (c.in-Absent.is ∙ ap (sieve.Absent c.in-Absent.predicate) (sym c.as_slice-slots.ensures))
    (front_is (slot_value (slice_index c.args.values.now)) c.as_slice-slots.result.now c.write_key.new.key _
    (length c.as_slice-slots.result.now) c.write_key.ensures refl) c.has.ensures.has
    c.predicate_table-table.ensures.rows
