use Rattle.heap_tests.proofs.locked.scenes.play_named.Given as goal

abbrev pub ghosts-open_and_play : goal.ghosts-open_and_play
ghosts-open_and_play g a = record { config = a.blank.config; tables = a.blank.tables; ledger = a.blank.ledger; rolls = a.blank.rolls }
