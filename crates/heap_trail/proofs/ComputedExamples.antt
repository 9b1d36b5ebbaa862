-- The worked examples, by computation.
use Rattle.std.proofs.Common.{refl, rules}
use Rattle.heap_class.specs.Functions.{class_functions as open_heap_class}
use Rattle.heap_world.specs.Regions.{block_words, cell_count, used_at, object_at, objects_of_region, objects_in, id_of, cell_around, ref_of, object_of, slot_kinds, references_of, updated, in_used, with_region, with_object, with_word, with_mark, cell_size_for}
use Rattle.heap_world.specs.Pool.{fresh_region, opening_pool, blank_object, free_place, place_or_fresh, new_place, is_fresh, taken, restored, allocated, freed, released, unallocated}
use Rattle.heap_world.specs.MarkFunctions.{mark_functions as open_heap_mark}
use Rattle.heap_world.specs.SweepFunctions.{sweep_functions as open_heap_sweep}
use Rattle.heap_world.specs.Functions.{world_functions as open_heap_world}
use Rattle.heap_step.specs.Functions.{step_functions as open_heap_step}
use Rattle.heap_trail.specs.Functions.{trail_functions as open_heap_trail}
use Rattle.heap_trail.specs.Examples.{LimitsOfOneRegion, LowestRegionFirst, RewindGivesBackCells, KeepOne, RewindTooFar, RefusalsOfMutators, FinishRefusedUntilReady, MarkAndDrainRewound, MarkUndonePushesBack, SweepOrderAndReuse, SweepAndReuseRewound, BarrierLogsOldValues}

-- all functions of heap_region, opened at once
unfoldable open_heap_region : Unit {0}
unfolding block_words cell_count used_at object_at objects_of_region objects_in id_of cell_around ref_of object_of slot_kinds references_of updated in_used with_region with_object with_word with_mark cell_size_for fresh_region opening_pool blank_object free_place place_or_fresh new_place is_fresh taken restored allocated freed released unallocated
open_heap_region = tt

pub limits_of_one_region : LimitsOfOneRegion
unfolding open_heap_class open_heap_region open_heap_mark open_heap_sweep open_heap_world open_heap_step open_heap_trail
limits_of_one_region = refl

pub lowest_region_first : LowestRegionFirst
unfolding open_heap_class open_heap_region open_heap_mark open_heap_sweep open_heap_world open_heap_step open_heap_trail
lowest_region_first = refl

pub rewind_gives_back_cells : RewindGivesBackCells
unfolding open_heap_class open_heap_region open_heap_mark open_heap_sweep open_heap_world open_heap_step open_heap_trail
rewind_gives_back_cells = refl

pub keep_one : KeepOne
unfolding open_heap_class open_heap_region open_heap_mark open_heap_sweep open_heap_world open_heap_step open_heap_trail
keep_one = refl

pub computed_rewind_is_too_far : RewindTooFar
unfolding open_heap_class open_heap_region open_heap_mark open_heap_sweep open_heap_world open_heap_step open_heap_trail
computed_rewind_is_too_far = refl

pub refusals_of_mutators : RefusalsOfMutators
unfolding open_heap_class open_heap_region open_heap_mark open_heap_sweep open_heap_world open_heap_step open_heap_trail
refusals_of_mutators = refl

pub finish_refused_until_ready : FinishRefusedUntilReady
unfolding open_heap_class open_heap_region open_heap_mark open_heap_sweep open_heap_world open_heap_step open_heap_trail
finish_refused_until_ready = refl

pub mark_and_drain_rewound : MarkAndDrainRewound
unfolding open_heap_class open_heap_region open_heap_mark open_heap_sweep open_heap_world open_heap_step open_heap_trail
mark_and_drain_rewound = refl

pub mark_undone_pushes_back : MarkUndonePushesBack
unfolding open_heap_class open_heap_region open_heap_mark open_heap_sweep open_heap_world open_heap_step open_heap_trail
mark_undone_pushes_back = refl

pub sweep_order_and_reuse : SweepOrderAndReuse
unfolding open_heap_class open_heap_region open_heap_mark open_heap_sweep open_heap_world open_heap_step open_heap_trail
sweep_order_and_reuse = refl

pub sweep_and_reuse_rewound : SweepAndReuseRewound
unfolding open_heap_class open_heap_region open_heap_mark open_heap_sweep open_heap_world open_heap_step open_heap_trail
sweep_and_reuse_rewound = (refl, refl)

pub barrier_logs_old_values : BarrierLogsOldValues
unfolding open_heap_class open_heap_region open_heap_mark open_heap_sweep open_heap_world open_heap_step open_heap_trail
barrier_logs_old_values = search rules
