use Rattle.heap_lock.proofs.home_table.HomeTable.new.Goals as goal

pub returns-clause-words : goal.returns-clause-words
returns-clause-words g c = c.in_ok-table.ensures.0

pub returns-clause-own : goal.returns-clause-own
returns-clause-own g c = (c.in_ok-table.ensures.2, c.in_ok-table.ensures.4)
