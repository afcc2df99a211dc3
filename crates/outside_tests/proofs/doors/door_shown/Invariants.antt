use Rattle.outside_tests.proofs.doors.door_shown.Given as goal

abbrev pub ghosts-ask-A-Quota : goal.ghosts-ask-A-Quota
ghosts-ask-A-Quota g a = record { most = a.most }

abbrev pub ghosts-ask-A-Ledger : goal.ghosts-ask-A-Ledger
ghosts-ask-A-Ledger g a = record { name = a.accepted.name; parts = a.accepted.parts }

abbrev pub ghosts-ask-B-Ledger : goal.ghosts-ask-B-Ledger
ghosts-ask-B-Ledger g a = record { name = a.left.name; parts = a.left.parts }
