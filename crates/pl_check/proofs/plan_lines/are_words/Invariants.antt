use Rattle.std.proofs.Common.{◌≡◌, drop, not}
use Rattle.std.specs.List.{list_all}
use Rattle.pl_check.specs.Elements.{trees, is_list}
use Rattle.pl_check.proofs.plan_lines.are_words.Given as goal

abbrev pub invariant-loop-word : goal.invariant-loop-word
invariant-loop-word l =
    list_all (λ word. not (is_list word)) (trees (drop l.word-index l.words))
    ≡ list_all (λ word. not (is_list word)) (trees l.words)
