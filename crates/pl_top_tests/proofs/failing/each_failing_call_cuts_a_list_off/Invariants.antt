use Rattle.pl_top_tests.proofs.failing.each_failing_call_cuts_a_list_off.Given as goal

abbrev pub ghosts-write_otherwise_answered : goal.ghosts-write_otherwise_answered
ghosts-write_otherwise_answered g a = record { name = a.blank.name; parts = a.blank.parts }
