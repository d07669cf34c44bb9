use Rattle.std.proofs.Common.{All, length, ap, refl, sym, subst, ◌∙◌, arith}
use Rattle.pl_rows.specs.Rows.{AreRows}
use Rattle.pl_join.specs.Source.{IsWithin}
use Rattle.pl_join.proofs.Assignments.{few_classes}
use Rattle.pl_join.proofs.Operations.{selected_made}
use Rattle.pl_join.proofs.selection.fitting_relation.Goals as goal

pub sources_of-requires : goal.sources_of-requires
sources_of-requires g c = rw c.as_slice.ensures c.requires.over

pub fitting_rows-requires-clause-columns : goal.fitting_rows-requires-clause-columns
fitting_rows-requires-clause-columns g c = rw (← c.requires.arity) c.requires.places.within

pub fitting_rows-requires-clause-sources : goal.fitting_rows-requires-clause-sources
fitting_rows-requires-clause-sources g c =
    let same = ap length c.as_slice.ensures ∙ sym c.requires.places.len in
    rw c.as_slice-2.ensures
    (subst (λ n. All (IsWithin n) c.in_ok-sources.sources.items) same c.in_ok-sources.ensures.within)

pub fitting_rows-requires-clause-few : goal.fitting_rows-requires-clause-few
fitting_rows-requires-clause-few g c =
    omega (
      arith,
      c.requires.places.len,
      few_classes c.args.classes.items 64 c.requires.distinct c.requires.below,
    )

pub new-requires-clause-arity : goal.new-requires-clause-arity
new-requires-clause-arity g c = c.in_ok-kept.ensures.arity ∙ c.requires.places.len

pub new-requires-clause-rows : goal.new-requires-clause-rows
new-requires-clause-rows g c =
    subst (λ n. AreRows n c.in_ok-kept.kept.rows) c.requires.places.len c.in_ok-kept.ensures.rows

pub returns-clause-rows : goal.returns-clause-rows
returns-clause-rows g c =
    selected_made c.args.table.now.rows _ c.args.slots.now c.args.classes.items
    c.args.columns.now _ _ c.in_ok-sources.sources.items _ c.in_ok-kept.kept
    c.requires.places.values c.as_slice.ensures c.in_ok-sources.ensures.values
    refl c.as_slice-2.ensures
    c.in_ok-kept.ensures.same c.new.ensures
