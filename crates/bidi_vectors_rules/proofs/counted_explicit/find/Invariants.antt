use Rattle.bidi_vectors_rules.proofs.counted_explicit.find.Given as goal

abbrev pub ghosts-find_with_new_count : goal.ghosts-find_with_new_count
ghosts-find_with_new_count a = record { name = a.blank.name; parts = a.blank.parts }
