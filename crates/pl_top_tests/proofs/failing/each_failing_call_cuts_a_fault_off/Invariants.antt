use Rattle.pl_top_tests.proofs.failing.each_failing_call_cuts_a_fault_off.Given as goal

abbrev pub ghosts-line_otherwise_answered : goal.ghosts-line_otherwise_answered
ghosts-line_otherwise_answered g a = record { name = a.blank.name; parts = a.blank.parts }
