use Rattle.std.proofs.Common.{◌↔◌, IsTrue, All, length, ap, sym, subst, ◌∙◌}
use Rattle.std.proofs.lemmas.Result.{IfOk-weaker}
use Rattle.pl_join.specs.Relation.{Assignment, ClassRows, Holds, IsSlotOver, AreUnequalOf, AreAbsentOf}
use Rattle.pl_normal.specs.Query.{meets_sieve}
use Rattle.pl_normal.specs.Asked.{state_asked}
use Rattle.pl_normal.proofs.Asking.{values_wide}
use Rattle.pl_normal.proofs.Relating.{unequal_passes, absent_passes}
use Rattle.pl_normal.proofs.relations.sieved.Goals as goal

pub filter_unequal-requires-clause-first : goal.filter_unequal-requires-clause-first
filter_unequal-requires-clause-first g c = c.requires.over.left c.in-NotEqual.a c.in-NotEqual.b
    c.in-NotEqual.is

pub filter_unequal-requires-clause-second : goal.filter_unequal-requires-clause-second
filter_unequal-requires-clause-second g c = c.requires.over.right c.in-NotEqual.a c.in-NotEqual.b
    c.in-NotEqual.is

pub filter_absent-requires-clause-held : goal.filter_absent-requires-clause-held
filter_absent-requires-clause-held g c =
    subst (All (IsSlotOver c.args.relation.now.classes)) (sym c.as_slice.ensures)
    (c.requires.over.slots c.in-Absent.predicate c.in-Absent.slots c.in-Absent.is)

pub filter_absent-requires-clause-arity : goal.filter_absent-requires-clause-arity
filter_absent-requires-clause-arity g c =
    ap length c.as_slice.ensures
    ∙ values_wide c.args.query.now.task.now c.in-Absent.predicate (length c.in-Absent.slots)
    c.true_atoms-table.result.now.arity (c.requires.sieve.predicate c.in-Absent.predicate
    c.in-Absent.slots c.in-Absent.is)
    (λ d found. c.requires.sieve.arity c.in-Absent.predicate c.in-Absent.slots d c.in-Absent.is found)
    c.true_atoms-table.ensures.arity

pub returns-in-NotEqual-clause-rows : goal.returns-in-NotEqual-clause-rows
returns-in-NotEqual-clause-rows g c =
    IfOk-weaker c.filter_unequal.result (AreUnequalOf c.args.relation.now c.in-NotEqual.a c.in-NotEqual.b)
    (λ (r : ClassRows). (f : Assignment) → Holds r f ↔ (Holds c.args.relation.now f × IsTrue
    (meets_sieve (state_asked c.args.query.now) f c.args.sieve.now)))
    (λ kept rows. unequal_passes (state_asked c.args.query.now) c.args.sieve.now c.in-NotEqual.a
    c.in-NotEqual.b c.args.relation.now kept c.in-NotEqual.is rows) c.filter_unequal.ensures.rows

pub returns-in-Absent-clause-rows : goal.returns-in-Absent-clause-rows
returns-in-Absent-clause-rows g c =
    IfOk-weaker c.filter_absent.result (AreAbsentOf c.args.relation.now c.true_atoms-table.result.now.rows
    c.as_slice.result.now)
    (λ (r : ClassRows). (f : Assignment) → Holds r f ↔ (Holds c.args.relation.now f × IsTrue
    (meets_sieve (state_asked c.args.query.now) f c.args.sieve.now)))
    (λ kept rows. absent_passes (state_asked c.args.query.now) c.args.sieve.now c.in-Absent.predicate
    c.in-Absent.slots c.as_slice.result.now c.true_atoms-table.result.now.rows c.args.relation.now kept
    c.in-Absent.is c.as_slice.ensures c.true_atoms-table.ensures.rows rows) c.filter_absent.ensures.rows
