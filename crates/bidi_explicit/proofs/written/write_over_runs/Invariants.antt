use Rattle.bidi_explicit.proofs.written.write_over_runs.Given as goal

abbrev pub ghosts-write_over_runs_with_new_count : goal.ghosts-write_over_runs_with_new_count
ghosts-write_over_runs_with_new_count a = record { name = a.blank.name; parts = a.blank.parts }
