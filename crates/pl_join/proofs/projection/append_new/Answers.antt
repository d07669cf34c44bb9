use Rattle.std.proofs.Common.{◌≡◌, ◌-◌, length, drop, sym, subst}
use Rattle.std.proofs.lemmas.List.{length-map}
use Rattle.pl_rows.proofs.Places.{rows_of-push}
use Rattle.pl_join.specs.Source.{picked}
use Rattle.pl_join.proofs.Loops.{same_rows}
use Rattle.pl_join.proofs.Repeats.{held_already}
use Rattle.pl_join.proofs.projection.append_new.Goals as goal

pub returns-then-ends_with-clause-rows : goal.returns-then-ends_with-clause-rows
returns-then-ends_with-clause-rows c =
    let wide : length (picked c.args.columns.now c.args.row.now) ≡ length c.args.columns.now =
    length-map c.args.columns.now _ in
    let last : drop (length c.args.flat.now.items - length c.args.columns.now) c.args.flat.now.items
    ≡ picked c.args.columns.now c.args.row.now =
    rw c.deref.ensures.value at (c.ends_with.ensures.0 c.if-ends_with.true) in
    held_already (length c.args.columns.now) c.args.count c.args.flat.now.items
    (picked c.args.columns.now c.args.row.now) c.requires.whole wide c.if-count-gt0.true
    (subst (λ k. drop (length c.args.flat.now.items - k) c.args.flat.now.items
    ≡ picked c.args.columns.now c.args.row.now) (sym wide) last)

pub returns-clause-rows : goal.returns-clause-rows
returns-clause-rows c =
    rw c.in_ok-append_picked.ensures.items
    (same_rows _ _ (rows_of-push _ _ _ _ c.requires.whole (length-map c.args.columns.now _)))
