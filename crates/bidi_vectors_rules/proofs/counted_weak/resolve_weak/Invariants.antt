use Rattle.bidi_vectors_rules.proofs.counted_weak.resolve_weak.Given as goal

abbrev pub ghosts-resolve_by : goal.ghosts-resolve_by
ghosts-resolve_by a = record { name = a.blank.name; parts = a.blank.parts }
