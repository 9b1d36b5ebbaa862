-- For proofs: all functions of this crate, opened at once, for facts by computation.
use Rattle.heap_mark.specs.MarkSteps.{is_white, with_mark_of, shaded, each_object, each_region, children_of, pending_regions, dead_count, logged, snap_refusal, snapped, unsnapped, mark_refusal, marked, unshaded, unmarked, drain_refusal, drained_once, undrained, finish_refusal, finished_region, finished, unfinished_region, unfinished}

-- nothing of its own: to unfold it is to unfold the functions above
unfoldable pub mark_functions : Unit {0}
unfolding is_white with_mark_of shaded each_object each_region children_of pending_regions dead_count logged snap_refusal snapped unsnapped mark_refusal marked unshaded unmarked drain_refusal drained_once undrained finish_refusal finished_region finished unfinished_region unfinished
mark_functions = tt
