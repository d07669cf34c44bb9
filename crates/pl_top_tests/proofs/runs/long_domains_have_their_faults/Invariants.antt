use Rattle.pl_top_tests.proofs.runs.long_domains_have_their_faults.Given as goal

abbrev pub ghosts-is_met_over : goal.ghosts-is_met_over
ghosts-is_met_over g a = record { name = a.blank.name; parts = a.blank.parts }
