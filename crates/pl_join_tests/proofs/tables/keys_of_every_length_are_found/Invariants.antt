use Rattle.pl_join_tests.proofs.tables.keys_of_every_length_are_found.Given as goal

abbrev pub ghosts-is_answered : goal.ghosts-is_answered
ghosts-is_answered g a = record { name = a.blank.name; parts = a.blank.parts }
