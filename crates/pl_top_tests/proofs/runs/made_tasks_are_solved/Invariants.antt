use Rattle.pl_top_tests.proofs.runs.made_tasks_are_solved.Given as goal

abbrev pub ghosts-is_met : goal.ghosts-is_met
ghosts-is_met g a = record { name = a.blank.name; parts = a.blank.parts }
