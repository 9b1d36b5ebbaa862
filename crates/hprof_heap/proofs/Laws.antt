-- The laws of the session of a dump, from a new heap on.
use Rattle.std.proofs.Common.{◌≤◌, map, sym, ap, subst}
use Rattle.heap_world.specs.declared.Limits.{Limits}
use Rattle.hprof_plan.specs.Accepted.{class_event}
use Rattle.hprof_lines.specs.Sessions.{all_events}
use Rattle.hprof_heap.specs.TakenEvents.{state_after_all}
use Rattle.hprof_heap.specs.DumpHeaps.{IsHeapOfDump}
use Rattle.hprof_heap.specs.Laws.{IsTakenUnlessFull, MakesHeap, NewHeap, PlannedDump, objects_in, opened}
use Rattle.hprof_heap.proofs.NewHeaps.{new_heap_is_ready, new_heap_takes_classes, state_after_parts, taken_in_parts, taken_unless_full_in_turn}
use Rattle.hprof_heap.proofs.PlannedRuns.{found_is_taken_unless_full}
use Rattle.hprof_heap.proofs.WalkedItems.{items_have_bytes, whole_walk_has_tables}
use Rattle.hprof_heap.proofs.Whole.{found_makes_heap}

pub new_heap_becomes_that_of_dump : (d : PlannedDump) (h : NewHeap) → MakesHeap d h
new_heap_becomes_that_of_dump d h taken =
    let events = all_events (objects_in d) d.items d.found.roots.items in
    let classes = map class_event d.plan.classes in
    let parts = taken_in_parts classes events (opened h) taken in
    let ready = new_heap_is_ready d.limits d.most d.found d.plan h d.planned parts.0 in
    subst (IsHeapOfDump (objects_in d) d.items d.found.roots.items) (sym (state_after_parts classes events (opened h)))
    (found_makes_heap d.limits d.most d.found d.plan d.walk.ids d.items (state_after_all classes (opened h)) (whole_walk_has_tables d.walk d.items d.found d.whole d.finds) d.planned ready.bare ready.classes parts.1)

pub new_heap_takes_session_unless_full : (d : PlannedDump) (h : NewHeap) → IsTakenUnlessFull d h
new_heap_takes_session_unless_full d h bytes same room arrays =
    let events = all_events (objects_in d) d.items d.found.roots.items in
    let classes = map class_event d.plan.classes in
    let taken = new_heap_takes_classes d.limits d.most d.found d.plan h d.planned same in
    let ready = new_heap_is_ready d.limits d.most d.found d.plan h d.planned taken in
    let elements = ap (λ (l : Limits). l.elements) (sym ready.same) in
    taken_unless_full_in_turn classes events (opened h) taken
    (found_is_taken_unless_full d.limits d.most d.found d.plan d.walk.ids d.items (state_after_all classes (opened h)) (whole_walk_has_tables d.walk d.items d.found d.whole d.finds)
    (items_have_bytes d.walk d.items d.whole.end d.whole.walked (record { segment = bytes.segment; rest = bytes.rest })) d.planned ready.bare ready.classes
    (subst (λ n. d.most ≤ n) elements room) (subst (λ n. 1024 ≤ n) elements arrays))
