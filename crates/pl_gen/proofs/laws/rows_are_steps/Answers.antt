use Rattle.pl_gen.proofs.SchemaRows.{steps_come_by_schemas, rows_are_steps, late_filters_are_last}
use Rattle.pl_gen.proofs.laws.rows_are_steps.Goals as goal

pub returns : goal.returns
returns c = record {
  schemas = λ s. steps_come_by_schemas c.args._task.now s;
  rows = λ number schema s rows found keeps are. rows_are_steps c.args._task.now number schema s rows found
      keeps are;
  late = λ number schema s rows found are. late_filters_are_last c.args._task.now number schema s rows found
      are;
}
