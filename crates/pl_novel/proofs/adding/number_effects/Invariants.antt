use Rattle.std.proofs.Common.{map, take}
use Rattle.pl_novel.specs.Keys.{key_under, AreNumbered}
use Rattle.pl_novel.proofs.adding.number_effects.Given as goal

abbrev pub invariant-loop-i : goal.invariant-loop-i
invariant-loop-i l = AreNumbered l.fn.atoms.keys l.fn.numbers.items
    (map (key_under l.args) (take l.i l.effects)) l.atoms.keys l.numbers.items
