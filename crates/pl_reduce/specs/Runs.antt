-- What the parts of the reducer make of a join one after another: its relations arranged, reduced and stored.
use Rattle.std.specs.Prelude.{ℕ, List, Option, length}
use Rattle.pl_join.specs.Relation.{ClassRows}
use Rattle.pl_join.specs.Keyed.{KeyedRows}
use Rattle.pl_hyper.specs.Ears.{Removal}
use Rattle.pl_reduce.specs.Passes.{IsPassedDown}
use Rattle.pl_reduce.specs.Lent.{nodes_with}
use Rattle.pl_reduce.specs.Arranged.{AreArrangedBelow}
use Rattle.pl_reduce.specs.Kept.{AreStored}
use Rattle.pl_reduce.specs.declared.reduced.Stored.{Stored}

pub record IsRun (plan : Removal) (order : List ℕ) (lent : List (Option KeyedRows))
    (given : List (Option ClassRows)) (stored : List Stored) : Type 0 where
  pub arranged : List (Option ClassRows)
  pub passed : List ClassRows
  pub are_arranged : AreArrangedBelow order given arranged (length given)
  pub are_passed : IsPassedDown (nodes_with lent arranged) passed 0
  pub are_stored : AreStored plan passed stored
