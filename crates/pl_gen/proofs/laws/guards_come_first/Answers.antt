use Rattle.pl_gen.proofs.SchemaRows.{false_guards_stop, no_edge_is_one_step}
use Rattle.pl_gen.proofs.laws.guards_come_first.Goals as goal

pub returns : goal.returns
returns c = record {
  stop = λ number schema s found keeps failed. false_guards_stop c.args._task.now number schema s found keeps
      failed;
  one = λ number schema s found keeps met bare. no_edge_is_one_step c.args._task.now number schema s found
      keeps met bare;
}
