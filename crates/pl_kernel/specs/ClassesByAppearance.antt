-- The order of the classes of several relations: by first appearance, within one relation by rising number.
use Rattle.std.specs.Prelude.{ℕ, List, filter}
use Rattle.std.specs.List.{flat_map, range_with_len}
use Rattle.pl_hyper.specs.ClassOrder.{first_appearances}
use Rattle.pl_join.specs.Relation.{ClassRows, has_class}

-- the classes below a bound that are among these, rising
abbrev pub rising_below : ℕ → List ℕ → List ℕ
rising_below bound classes = filter (has_class classes) (range_with_len 0 bound)

-- the classes of a relation, rising: all of them are below 64
unfoldable pub rising : List ℕ → List ℕ
rising classes = rising_below 64 classes

-- the classes of the relations, each where it is met first
abbrev pub classes_by_appearance : List ClassRows → List ℕ
classes_by_appearance relations = first_appearances (flat_map (λ relation. rising relation.classes) relations)
