use Rattle.std.proofs.Common.{◌≡◌, ◌+◌, ◌≤◌, take}
use Rattle.pl_text.specs.Lines.{line_of, column_of}
use Rattle.pl_text.proofs.lines.line_column.Given as goal

abbrev pub invariant-loop-b : goal.invariant-loop-b
invariant-loop-b l = record {
  line : l.line ≡ line_of (take l.at l.bytes) l.b-index;
  column : l.column ≡ column_of (take l.at l.bytes) l.b-index;
  few_lines : l.line ≤ l.b-index + 1;
  few_columns : l.column ≤ l.b-index + 1;
}
