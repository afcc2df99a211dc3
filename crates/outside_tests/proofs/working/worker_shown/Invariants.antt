use Rattle.outside_tests.proofs.working.worker_shown.Given as goal

abbrev pub ghosts-serve-A-Quota : goal.ghosts-serve-A-Quota
ghosts-serve-A-Quota g a = record { most = a.most }

abbrev pub ghosts-serve-A-Ledger : goal.ghosts-serve-A-Ledger
ghosts-serve-A-Ledger g a = record { name = a.accepted.name; parts = a.accepted.parts }

abbrev pub ghosts-serve-B-Ledger : goal.ghosts-serve-B-Ledger
ghosts-serve-B-Ledger g a = record { name = a.left.name; parts = a.left.parts }
