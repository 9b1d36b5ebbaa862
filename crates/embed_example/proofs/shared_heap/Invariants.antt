use Rattle.embed_example.proofs.shared_heap.Given as goal

abbrev pub ghosts-open : goal.ghosts-open
ghosts-open g a = record { config = a.blank.config; tables = a.blank.tables; ledger = a.blank.ledger; rolls = a.blank.rolls }
