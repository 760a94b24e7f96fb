use Rattle.bidi_base.proofs.search.first_passing.Given as goal

abbrev pub ghosts-first_passing_with_new_count : goal.ghosts-first_passing_with_new_count
ghosts-first_passing_with_new_count g a = record { name = a.blank.name; parts = a.blank.parts }
