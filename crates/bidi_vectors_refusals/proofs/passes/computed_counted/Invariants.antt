use Rattle.bidi_vectors_refusals.proofs.passes.computed_counted.Given as goal

abbrev pub ghosts-computed_by : goal.ghosts-computed_by
ghosts-computed_by a = record { name = a.blank.name; parts = a.blank.parts }
