use Rattle.pl_top_tests.proofs.runs.plans_are_judged.Given as goal

abbrev pub ghosts-is_met : goal.ghosts-is_met
ghosts-is_met g a = record { name = a.blank.name; parts = a.blank.parts }
