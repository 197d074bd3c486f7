use Rattle.run_tests.proofs.ended.over_streams.Given as goal

-- the ledger of the counter
abbrev pub ghosts-status_of : goal.ghosts-status_of
ghosts-status_of a = record { name = a.blank.name; parts = a.blank.parts }
