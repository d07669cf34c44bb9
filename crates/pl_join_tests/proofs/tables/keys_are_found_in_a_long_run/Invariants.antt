use Rattle.pl_join_tests.proofs.tables.keys_are_found_in_a_long_run.Given as goal

abbrev pub ghosts-is_found_in_long_run : goal.ghosts-is_found_in_long_run
ghosts-is_found_in_long_run g a = record { name = a.blank.name; parts = a.blank.parts }
