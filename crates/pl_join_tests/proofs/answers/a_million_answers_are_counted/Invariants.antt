use Rattle.pl_join_tests.proofs.answers.a_million_answers_are_counted.Given as goal

abbrev pub ghosts-count_of_pairs : goal.ghosts-count_of_pairs
ghosts-count_of_pairs g a = record { name = a.blank.name; parts = a.blank.parts }
