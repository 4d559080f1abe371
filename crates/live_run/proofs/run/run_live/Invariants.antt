use Rattle.std.proofs.Common.{map}
use Rattle.live_seats.specs.live_book.Live.{opening_of}
use Rattle.live_run.proofs.run.run_live.Given as goal

abbrev pub ghosts-run_named-K-Ledger : goal.ghosts-run_named-K-Ledger
ghosts-run_named-K-Ledger g a = record { name = a.accepted.name; parts = a.accepted.parts }

abbrev pub ghosts-run_named-K-Opening : goal.ghosts-run_named-K-Opening
ghosts-run_named-K-Opening g a = record { opened = opening_of g.D.Disk.faults a.book }

abbrev pub ghosts-run_named-K-Row : goal.ghosts-run_named-K-Row
ghosts-run_named-K-Row g a = record { cells = map (λ c. c.id) a.orders.cells.now }

abbrev pub ghosts-run_named-N-Ledger : goal.ghosts-run_named-N-Ledger
ghosts-run_named-N-Ledger g a = record { name = a.refused.name; parts = a.refused.parts }
