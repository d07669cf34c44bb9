use Rattle.pl_top_tests.proofs.failing.each_failing_call_blames_its_file.Given as goal

abbrev pub ghosts-is_met : goal.ghosts-is_met
ghosts-is_met g a = record { name = a.blank.name; parts = a.blank.parts }
