use Rattle.outside_tests.proofs.together.together_shown.Given as goal

abbrev pub ghosts-ask_together-A-Quota : goal.ghosts-ask_together-A-Quota
ghosts-ask_together-A-Quota g a = record { most = a.most }

abbrev pub ghosts-ask_together-A-Ledger : goal.ghosts-ask_together-A-Ledger
ghosts-ask_together-A-Ledger g a = record { name = a.accepted.name; parts = a.accepted.parts }

abbrev pub ghosts-ask_together-B-Ledger : goal.ghosts-ask_together-B-Ledger
ghosts-ask_together-B-Ledger g a = record { name = a.left.name; parts = a.left.parts }
