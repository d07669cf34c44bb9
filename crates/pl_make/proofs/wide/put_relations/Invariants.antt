use Rattle.std.proofs.Common.{◌≡◌, ◌++◌, ◌+◌}
use Rattle.std.specs.List.{flat_map}
use Rattle.pl_task.specs.Types.{numbers_below}
use Rattle.pl_make.specs.Texts.{relation_text}
use Rattle.pl_make.proofs.wide.put_relations.Given as goal

abbrev pub invariant-loop-k : goal.invariant-loop-k
invariant-loop-k l = l.text.items ≡ l.fn.text.items ++
    flat_map (λ i. relation_text l.n (i + 1)) (numbers_below l.k)
