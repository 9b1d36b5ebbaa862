use Rattle.heap_lock.proofs.seat_table.HomeTable+TableSide.add_entry.Given as goal

abbrev pub ghosts-note : goal.ghosts-note
ghosts-note a = record { noted = (a.turn, a.entry.now.value) }
