use Rattle.std.proofs.Common.{arith, ap, ◌∙◌}
use Rattle.std.specs.List.{position_from}
use Rattle.pl_hyper.proofs.Finding.{holds_all, found_first}
use Rattle.pl_hyper.proofs.finder.EdgeFinder.first.Goals as goal

pub returns : goal.returns
returns c =
    found_first c.self.inside.edges.items c.self.inside.holders.words.items
    c.self.inside.holders.present.items 4294967295 c.args.classes c.first_parent.result
    (omega (arith, c.self.invariant.0)) c.self.invariant.1 c.first_parent.ensures.first
    c.first_parent.ensures.none
    ∙ ap (λ xs. position_from (holds_all c.args.classes) 0 xs) c.self.view_is
