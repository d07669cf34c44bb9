use Rattle.std.proofs.Common.{◌≡◌, ◌≤◌, length, filter, map, take}
use Rattle.pl_check.specs.Elements.{trees, word_of}
use Rattle.pl_check.specs.Words.{is_variable}
use Rattle.pl_check.proofs.known.count_variables.Given as goal

abbrev pub invariant-loop-form : goal.invariant-loop-form
invariant-loop-form l = record {
  count : l.count ≡ length (filter is_variable (map (word_of l.text) (trees (take l.form-index l.forms))));
  most : l.count ≤ l.form-index;
}
