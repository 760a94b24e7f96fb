use Rattle.bidi_vectors_code.proofs.explicit_levels.worked_paragraph.Given as goal

abbrev pub ghosts-find_with_new_count : goal.ghosts-find_with_new_count
ghosts-find_with_new_count g a = record { name = a.blank.name; parts = a.blank.parts }
