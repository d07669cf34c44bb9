use Rattle.pl_join_tests.proofs.answers.cursors_give_the_answers_by_hand.Given as goal

abbrev pub ghosts-is_met : goal.ghosts-is_met
ghosts-is_met g a = record { name = a.blank.name; parts = a.blank.parts }
