use Rattle.std.proofs.Common.{◌≡◌, length, map, filter, ap, ◌∙◌, sym}
use Rattle.std.proofs.lemmas.List.Elements.{All-weaker}
use Rattle.pl_join.specs.Source.{picked, fits_slots, passes_all}
use Rattle.pl_join.proofs.Loops.{same_along}
use Rattle.pl_join.proofs.Selecting.{filter_agree}
use Rattle.pl_join.proofs.selection.fitting_rows.Goals as goal

pub returns-clause-same : goal.returns-clause-same
returns-clause-same g c =
    let same : filter (passes_all c.as_slice.result.now) c.args.table.now.rows ≡ filter
    (fits_slots c.args.sources.now c.args.columns.now) c.args.table.now.rows =
    filter_agree _ _ _
    (All-weaker (λ row. length row ≡ c.args.table.now.arity)
    (λ row. passes_all c.as_slice.result.now row ≡ fits_slots c.args.sources.now c.args.columns.now row)
    (λ row l. rw c.as_slice.ensures (c.in_ok-tests.ensures.tests row (l ∙ sym c.requires.arity)))
    c.args.table.now.rows c.passing_rows.ensures.table.width) in
    same_along _ _ _ (ap (map (picked c.args.columns.now)) same) c.passing_rows.ensures.same
