use Rattle.pl_join_tests.proofs.reductions.recipes_have_the_nodes_by_hand.Given as goal

abbrev pub ghosts-is_met_by_recipes : goal.ghosts-is_met_by_recipes
ghosts-is_met_by_recipes g a = record { name = a.blank.name; parts = a.blank.parts }
