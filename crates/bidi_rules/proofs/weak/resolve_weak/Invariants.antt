use Rattle.bidi_rules.proofs.weak.resolve_weak.Given as goal

abbrev pub ghosts-resolve_weak_with_new_count : goal.ghosts-resolve_weak_with_new_count
ghosts-resolve_weak_with_new_count g a = record { name = a.blank.name; parts = a.blank.parts }
