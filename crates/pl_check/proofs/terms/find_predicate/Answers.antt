-- A number that is found is a place of the names, of which there are as many as numbers of arguments.
use Rattle.std.proofs.Common.{◌≡◌, ◌<◌, ℕ, List, length, get_or, Some, arith, ◌∙◌, ap, sym}
use Rattle.std.proofs.lemmas.Option.{slice_get_within, slice_get-get_or}
use Rattle.pl_names.specs.Names.{number_among}
use Rattle.pl_names.proofs.Numbers.{number_place}
use Rattle.pl_check.proofs.terms.find_predicate.Goals as goal

pub bounds-arities-number : goal.bounds-arities-number
bounds-arities-number c =
    let below : c.in-Some.number < length c.predicates.result.now =
    slice_get_within _ _ _ (number_place _ _ _ (sym c.in-Some.ensures)) in
    omega (arith, below, c.predicates.ensures.as_many, ap length c.arities.ensures.arities)

pub returns : goal.returns
returns c =
    let below : c.in-Some.number < length c.args.known.now.arities =
    let first : c.in-Some.number < length c.predicates.result.now =
    slice_get_within _ _ _ (number_place _ _ _ (sym c.in-Some.ensures)) in
    omega (arith, first, c.predicates.ensures.as_many) in (
      ap (λ names. number_among names c.args.name.now) (sym c.predicates.ensures.names) ∙
          sym c.in-Some.ensures,
      slice_get-get_or _ _ 0 below ∙ ap (λ l. Some (get_or l c.in-Some.number 0))
          (sym c.arities.ensures.arities),
    )
