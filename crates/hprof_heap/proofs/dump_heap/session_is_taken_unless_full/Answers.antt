use Rattle.hprof_heap.proofs.Laws.{new_heap_takes_session_unless_full}
use Rattle.hprof_heap.proofs.dump_heap.session_is_taken_unless_full.Goals as goal

pub returns : goal.returns
returns c = new_heap_takes_session_unless_full
