-- What a walk is once the step that it lent out is no longer used.
use Rattle.std.specs.Borrow.{MutBor, Fml, follows_so}
use mathlib.Core.Option.{none}
use mir.Syntax.{named}
use Rattle.std.specs.Prelude.{[]}
use Rattle.pl_gen.specs.Walks.{WalkView}
use Rattle.pl_gen.specs.contracts.walk.Walk.{the_row}

abbrev pub Rests : MutBor WalkView → (WalkView → Type 0) → Fml
Rests walk P = let row = the_row (record { mir = named 1; lft = [] }) in
    follows_so row row walk.ghost_name none (λ _ _. Unit {0}) P
