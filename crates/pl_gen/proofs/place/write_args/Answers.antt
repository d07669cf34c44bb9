use Rattle.std.proofs.Common.{◌≡◌, ◌≤◌, sym, ◌∙◌, subst, length, take}
use Rattle.std.specs.Prelude.{slice_index}
use Rattle.pl_normal.specs.Query.{args_under}
use Rattle.pl_gen.proofs.Stepping.{args_written}
use Rattle.pl_gen.proofs.place.write_args.Goals as goal

pub returns-clause-args : goal.returns-clause-args
returns-clause-args c task schema form few =
    subst (λ xs. take (length xs) c.loop-p.args ≡ args_under schema (slice_index c.args.values.now))
    c.as_slice-classes.ensures
    (args_written schema c.as_slice-fixed.result.now c.as_slice-classes.result.now c.args.values.now
    c.loop-p.args c.loop-p.p (c.as_slice-classes.ensures ∙ form.class_of)
    (c.as_slice-fixed.ensures ∙ form.fixed)
    c.loop-p.invariant.0 (subst (λ xs. length xs ≤ 64) (sym c.as_slice-classes.ensures) c.requires.few)
    c.loop-p-test.false c.loop-p.invariant.1)
