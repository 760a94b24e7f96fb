use Rattle.bidi_explicit.proofs.explicit.compute.Given as goal

abbrev pub ghosts-compute_with_new_count : goal.ghosts-compute_with_new_count
ghosts-compute_with_new_count g a = record { name = a.blank.name; parts = a.blank.parts }
