use Rattle.pl_join_tests.proofs.cores.cores_join_to_the_classes_and_rows_by_hand.Given as goal

abbrev pub ghosts-is_met : goal.ghosts-is_met
ghosts-is_met g a = record { name = a.blank.name; parts = a.blank.parts }
