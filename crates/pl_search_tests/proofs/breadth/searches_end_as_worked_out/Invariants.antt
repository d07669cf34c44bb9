use Rattle.pl_search_tests.proofs.breadth.searches_end_as_worked_out.Given as goal

abbrev pub ghosts-is_met : goal.ghosts-is_met
ghosts-is_met g a = record { name = a.blank.name; parts = a.blank.parts }
