use Rattle.hprof_heap.proofs.Laws.{new_heap_becomes_that_of_dump}
use Rattle.hprof_heap.proofs.dump_heap.session_makes_heap.Goals as goal

pub returns : goal.returns
returns c = new_heap_becomes_that_of_dump
