use Rattle.heapdbg.proofs.served_heap.serve_blank.Given as goal

abbrev pub ghosts-serve_named : goal.ghosts-serve_named
ghosts-serve_named g a = record { config = a.blank.config; tables = a.blank.tables; ledger = a.blank.ledger; rolls = a.blank.rolls }
