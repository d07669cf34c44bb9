use Rattle.pl_join_tests.proofs.answers.searches_give_the_answers_past_each_tuple.Given as goal

abbrev pub ghosts-is_met_past_each : goal.ghosts-is_met_past_each
ghosts-is_met_past_each g a = record { name = a.blank.name; parts = a.blank.parts }
