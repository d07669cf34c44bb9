-- The states that wait to be expanded: a heap of keys, one for each state, greater the earlier it is
-- expanded.
use Rattle.std.specs.Prelude.{◌≡◌, ℕ, ◌+◌, ◌*◌, ◌-◌, ◌^◌, ◌%◌, List, ◌++◌, map, length, All}
use Rattle.std.specs.BinaryHeap.{IsHeap}
use Rattle.std.specs.Ordering.{nat_cmp}
use Rattle.std.specs.List.Sorted.{IsPermutation}
use Rattle.pl_task.specs.declared.task.Task.{Task}
use Rattle.pl_task.specs.Goal.{unmet}
use Rattle.pl_registry.specs.Registered.{Register}
use Rattle.pl_registry.specs.Held.{turns, state_at}

-- the key of a state: greater for a lower rank, and among equals for a lower number
abbrev pub key_of : ℕ → ℕ → ℕ
key_of rank n = (2 ^ 64 - 1) - (rank * 2 ^ 32 + n)

-- the number of the state that a key stands for
abbrev pub number_of : ℕ → ℕ
number_of key = ((2 ^ 64 - 1) - key) % 2 ^ 32

-- the key stands for an entry, with the rank of its state
abbrev pub IsKey : Task → Register → ℕ → Type 0
IsKey task now key = key + (unmet task (state_at task now (number_of key)) * 2 ^ 32 + number_of key) ≡ 2 ^
    64 - 1

-- the entries are those that were expanded, and those that wait
pub record IsQueued (task : Task) (now : Register) (past keys : List ℕ) : Type 0 where
  pub heap : IsHeap nat_cmp keys
  pub keys_are : All (IsKey task now) keys
  pub all : IsPermutation (turns (length now.entries)) (past ++ map number_of keys)
