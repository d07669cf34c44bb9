use Rattle.std.proofs.Common.{◌++◌, List, ℕ, ap, subst}
use Rattle.std.specs.Io.KnownBytes.{Appends}
use Rattle.pl_io.specs.Outside.{AppendsFront, joined}
use Rattle.pl_io.specs.Blocks.{held_of}
use Rattle.pl_io.proofs.Gathering.{on_err, front_at_end, all_at_end}
use Rattle.pl_input_tests.proofs.blocks.put_through.Goals as goal

pub returns-in_err-finish-clause-front : goal.returns-in_err-finish-clause-front
returns-in_err-finish-clause-front g c =
    let bare = ap (λ (l : List ℕ). l ++ joined c.args.parts.now) c.requires in
    on_err c.from_residual-in_err-finish.result
    (subst (AppendsFront _ _) bare
    (front_at_end _ _ _ (held_of c.args.blocks.now) _ _ c.in_ok-put_pieces.ensures.all
    c.in_err-finish.ensures.front))

pub returns-clause-all : goal.returns-clause-all
returns-clause-all g c =
    let bare = ap (λ (l : List ℕ). l ++ joined c.args.parts.now) c.requires in
    subst (Appends _ _) bare
    (all_at_end _ _ _ (held_of c.args.blocks.now) _ _ c.in_ok-put_pieces.ensures.all
    c.in_ok-finish.ensures.all)
