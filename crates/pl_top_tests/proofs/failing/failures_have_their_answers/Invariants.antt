use Rattle.pl_top_tests.proofs.failing.failures_have_their_answers.Given as goal

abbrev pub ghosts-is_met : goal.ghosts-is_met
ghosts-is_met g a = record { name = a.blank.name; parts = a.blank.parts }
