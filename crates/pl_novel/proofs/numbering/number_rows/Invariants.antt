use Rattle.std.proofs.Common.{◌∷◌, map, take}
use Rattle.pl_rows.specs.Rows.{rows_of}
use Rattle.pl_novel.specs.Keys.{AreNumbered}
use Rattle.pl_novel.proofs.numbering.number_rows.Given as goal

abbrev pub invariant-loop-i : goal.invariant-loop-i
invariant-loop-i l = AreNumbered l.fn.atoms.keys l.fn.numbers.items
    (map (λ row. l.predicate ∷ row) (take l.i (rows_of l.arity l.rows.count l.rows.flat.now))) l.atoms.keys
    l.numbers.items
