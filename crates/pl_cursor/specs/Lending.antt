-- What a cursor is once the answer that it lent out is no longer used.
use Rattle.std.specs.Borrow.{MutBor, Fml, follows_so}
use mathlib.Core.Option.{none}
use mir.Syntax.{named}
use Rattle.std.specs.Prelude.{[]}
use Rattle.pl_cursor.specs.Cursor.{CursorView}
use Rattle.pl_cursor.specs.contracts.cursor.Cursor.{the_row}

abbrev pub Rests : MutBor CursorView → (CursorView → Type 0) → Fml
Rests cursor P = let row = the_row (record { mir = named 1; lft = [] }) in
    follows_so row row cursor.ghost_name none (λ _ _. Unit {0}) P
