use Rattle.std.proofs.Common.{◌≡◌, ◌-◌, ◌≤◌, Some, length, drop}
use Rattle.pl_top.specs.Asked.{plan_options_named}
use Rattle.pl_top.specs.Request.{with_each, no_plan_options}
use Rattle.pl_top.proofs.plan_options.plan_options_of.Given as goal

-- the options so far with those of the words that are left are all
abbrev pub invariant-loop-at : goal.invariant-loop-at
invariant-loop-at l =
    (l.at ≤ length l.words)
    × (with_each (drop l.at l.words) (Some (plan_options_named l.options)) ≡ with_each (drop 3 l.words)
    (Some no_plan_options))

abbrev pub decreases-loop-at : goal.decreases-loop-at
decreases-loop-at l = length l.words - l.at
