-- The books of a run: how many are accepted at most, and a part for each worker.
use Rattle.crew.proofs.running.serve_all.Given as goal

abbrev pub ghosts-serve_counted-A-Quota : goal.ghosts-serve_counted-A-Quota
ghosts-serve_counted-A-Quota g a = record { most = a.most }

abbrev pub ghosts-serve_counted-A-Ledger : goal.ghosts-serve_counted-A-Ledger
ghosts-serve_counted-A-Ledger g a = record { name = a.accepted.name; parts = a.accepted.parts }

abbrev pub ghosts-serve_counted-B-Ledger : goal.ghosts-serve_counted-B-Ledger
ghosts-serve_counted-B-Ledger g a = record { name = a.left.name; parts = a.left.parts }
