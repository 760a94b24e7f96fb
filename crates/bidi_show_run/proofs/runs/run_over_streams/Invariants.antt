use Rattle.bidi_show_run.proofs.runs.run_over_streams.Given as goal

abbrev pub ghosts-run_counted-F-Ledger : goal.ghosts-run_counted-F-Ledger
ghosts-run_counted-F-Ledger g a = record { name = a.blanks.failed_reads.name; parts = a.blanks.failed_reads.parts }

abbrev pub ghosts-run_counted-E-Ledger : goal.ghosts-run_counted-E-Ledger
ghosts-run_counted-E-Ledger g a = record { name = a.blanks.ended_reads.name; parts = a.blanks.ended_reads.parts }

abbrev pub ghosts-run_counted-O-Ledger : goal.ghosts-run_counted-O-Ledger
ghosts-run_counted-O-Ledger g a = record { name = a.blanks.failed_writes.name; parts = a.blanks.failed_writes.parts }
