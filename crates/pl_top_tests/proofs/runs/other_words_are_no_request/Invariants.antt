use Rattle.pl_top_tests.proofs.runs.other_words_are_no_request.Given as goal

abbrev pub ghosts-is_met : goal.ghosts-is_met
ghosts-is_met g a = record { name = a.blank.name; parts = a.blank.parts }
