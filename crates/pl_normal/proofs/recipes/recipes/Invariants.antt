use Rattle.pl_normal.proofs.recipes.recipes.Given as goal

abbrev pub ghosts-counts_recipes : goal.ghosts-counts_recipes
ghosts-counts_recipes a = record { name = a.blank.name; parts = a.blank.parts }
