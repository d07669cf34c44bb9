use Rattle.std.proofs.Common.{◌≡◌, false, nat_lt, arith, get_or, ◌/◌, ◌^◌}
use Rattle.std.proofs.lemmas.Bool.Decides.{nat_tests}
use Rattle.pl_names.specs.Entries.{begins_below, no_entry}
use Rattle.pl_names.proofs.Order.{narrowed_down, begins_down}
use Rattle.pl_names.proofs.directory.first_from.Goals as goal

pub returns-else-entries-place-clause-narrowed : goal.returns-else-entries-place-clause-narrowed
returns-else-entries-place-clause-narrowed c =
    let from = c.if-entries-place.false in
    let fails : begins_below c.args.shift c.args.part (get_or c.args.entries.now c.loop-place.place no_entry)
    ≡ false = grind (arith, nat_tests) in
    narrowed_down (begins_below c.args.shift c.args.part) (begins_down c.args.shift c.args.part)
    c.args.entries.now _ _ c.loop-place.place c.requires.ordered fails c.loop-place.invariant.narrowed
