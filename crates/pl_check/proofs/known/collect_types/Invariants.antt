use Rattle.std.proofs.Common.{◌≡◌, ◌≤◌, ◌+◌, ◌∷◌, length, filter, map, take}
use Rattle.std.specs.Prelude.{codes}
use Rattle.pl_names.specs.Names.{texts}
use Rattle.pl_check.specs.Elements.{trees, word_of}
use Rattle.pl_check.specs.Words.{is_name}
use Rattle.pl_check.proofs.known.collect_types.Given as goal

abbrev pub invariant-loop-form : goal.invariant-loop-form
invariant-loop-form l = record {
  names : texts l.names.items ≡ codes "object" ∷ filter is_name
      (map (word_of l.text) (trees (take l.form-index l.forms)));
  few : length l.names.items ≤ l.form-index + 1;
}
