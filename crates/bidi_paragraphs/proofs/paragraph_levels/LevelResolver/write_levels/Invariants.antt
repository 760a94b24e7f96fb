use Rattle.bidi_paragraphs.proofs.paragraph_levels.LevelResolver.write_levels.Given as goal

abbrev pub ghosts-resolve_with_new_count : goal.ghosts-resolve_with_new_count
ghosts-resolve_with_new_count g a = record { name = a.blank.name; parts = a.blank.parts }
