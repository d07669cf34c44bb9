use Rattle.std.proofs.Common.{◌≡◌, ◌++◌, ◌∙◌, ap, length, subst, List, ℕ, ◌↔◌, IsTrue, Contains}
use Rattle.std.specs.Prelude.{OnOk}
use Rattle.pl_normal.specs.declared.form.Guard.{Guard}
use Rattle.pl_normal.specs.Guards.{known, is_positive}
use Rattle.pl_normal.proofs.Forming.{static_is, row_fits, known_is}
use Rattle.pl_normal.proofs.guards.add_ground_guard.Goals as goal

pub has_row-requires : goal.has_row-requires
has_row-requires c =
    let is = static_is c.args.task.now c.args.statics.now c.args.predicate c.index-statics-predicate.result
    c.in-Some.table c.requires.statics c.requires.predicate c.index-statics-predicate.is c.in-Some.is in
    ap length c.deref.ensures.value ∙ row_fits c.args.task.now c.args.predicate c.in-Some.table
    c.args.objects.items is.1 c.requires.predicate c.requires.arity

pub returns-in-Some : goal.returns-in-Some
returns-in-Some c =
    let is = static_is c.args.task.now c.args.statics.now c.args.predicate c.index-statics-predicate.result
    c.in-Some.table c.requires.statics c.requires.predicate c.index-statics-predicate.is c.in-Some.is in
    subst (λ (g : List Guard). OnOk c.add_known.result
    (c.add_known.new.guards.items ≡ c.args.guards.now.items ++ g))
    (ap known c.is_as_wanted.ensures ∙ known_is c.args.task.now (is_positive c.args.sign) c.has_row.result
    c.args.predicate c.args.objects.items c.in-Some.table is.0 is.1
    (subst (λ (row : List ℕ). IsTrue c.has_row.result ↔ Contains c.in-Some.table.rows row)
    c.deref.ensures.value c.has_row.ensures))
    c.add_known.ensures
