use Rattle.pl_gen.proofs.Above.{steps_above_come_by_schemas, steps_above_are_rows_past}
use Rattle.pl_gen.proofs.laws.steps_above_are_rows_past.Goals as goal

pub returns : goal.returns
returns c = record {
  schemas = λ s past is. steps_above_come_by_schemas c.args._task.now s past is;
  rows = λ number schema past rows found is same long. steps_above_are_rows_past c.args._task.now number
      schema past rows found is same long;
}
