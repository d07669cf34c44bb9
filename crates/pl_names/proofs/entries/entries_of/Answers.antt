use Rattle.std.proofs.Common.{◌≡◌, ℕ, List, length, subst, arith, Bor}
use Rattle.std.proofs.lemmas.List.{length-map}
use Rattle.pl_names.specs.Names.{texts}
use Rattle.pl_names.proofs.Parts.{ArePlaces, places_sorted}
use Rattle.pl_names.proofs.entries.entries_of.Goals as goal

pub returns-clause-entries : goal.returns-clause-entries
returns-clause-entries c =
    let e : c.loop-i.i ≡ length (texts c.args.names.now) =
    omega (arith, length-map c.args.names.now (λ (name : Bor (List ℕ)). name.now)) in
    places_sorted (texts c.args.names.now) c.loop-i.entries.items c.sort_unstable.new.self.items
    (subst (ArePlaces (texts c.args.names.now) c.loop-i.entries.items) e c.loop-i.invariant)
    c.sort_unstable.ensures.permutation c.sort_unstable.ensures.sorted
