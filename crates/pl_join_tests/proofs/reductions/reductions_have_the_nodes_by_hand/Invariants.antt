use Rattle.pl_join_tests.proofs.reductions.reductions_have_the_nodes_by_hand.Given as goal

abbrev pub ghosts-is_met : goal.ghosts-is_met
ghosts-is_met g a = record { name = a.blank.name; parts = a.blank.parts }
