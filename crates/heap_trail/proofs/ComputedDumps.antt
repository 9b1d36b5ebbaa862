-- The worked examples of pins, arrays and failed allocations, by computation.
use Rattle.std.proofs.Common.{refl}
use Rattle.heap_class.specs.Functions.{class_functions as open_heap_class}
use Rattle.heap_world.specs.Regions.{block_words, cell_count, used_at, object_at, objects_of_region, objects_in, id_of, cell_around, ref_of, object_of, slot_kinds, references_of, updated, in_used, with_region, with_object, with_word, with_mark, cell_size_for, live_objects}
use Rattle.heap_world.specs.Pool.{fresh_region, opening_pool, blank_object, free_place, place_or_fresh, new_place, is_fresh, taken, restored, allocated, freed, released, unallocated}
use Rattle.heap_world.specs.MarkFunctions.{mark_functions as open_heap_mark}
use Rattle.heap_world.specs.SweepFunctions.{sweep_functions as open_heap_sweep}
use Rattle.heap_world.specs.Functions.{world_functions as open_heap_world}
use Rattle.heap_step.specs.Functions.{step_functions as open_heap_step}
use Rattle.hprof_text.specs.Text.{record_of, header, utf8, load_class, trace, field_entry, class_dump, root, value_bytes, dump_of, object_dump, opening_records, items_of, sub_records}
use Rattle.hprof_text.specs.Segments.{cut_at, segments_of, segment_records, end_record, pieces_of, nth_piece, piece_of}
use Rattle.heap_trail.specs.Functions.{trail_functions as open_heap_trail}
use Rattle.heap_trail.specs.DumpExamples.{PinGivesItsDump, DumpIsOf301, RewindLosesPin, FourPinsOpen, StarvedPin, ReferencesLoaded}

-- all functions of heap_region, opened at once
unfoldable open_heap_region : Unit {0}
unfolding block_words cell_count used_at object_at objects_of_region objects_in id_of cell_around ref_of object_of slot_kinds references_of updated in_used with_region with_object with_word with_mark cell_size_for live_objects fresh_region opening_pool blank_object free_place place_or_fresh new_place is_fresh taken restored allocated freed released unallocated
open_heap_region = tt

-- all functions of hprof_text that pieces need, opened at once
unfoldable open_hprof_text : Unit {0}
unfolding record_of header utf8 load_class trace field_entry class_dump root value_bytes dump_of object_dump opening_records items_of sub_records cut_at segments_of segment_records end_record pieces_of nth_piece piece_of
open_hprof_text = tt

pub pin_gives_its_dump : PinGivesItsDump
unfolding open_heap_class open_heap_region open_heap_mark open_heap_sweep open_heap_world open_heap_step open_hprof_text open_heap_trail
pin_gives_its_dump = refl

pub dump_is_of_301 : DumpIsOf301
dump_is_of_301 = refl

pub rewind_loses_pin : RewindLosesPin
unfolding open_heap_class open_heap_region open_heap_mark open_heap_sweep open_heap_world open_heap_step open_hprof_text open_heap_trail
rewind_loses_pin = record { replies = refl; lost = refl }

pub four_pins_open : FourPinsOpen
unfolding open_heap_class open_heap_region open_heap_mark open_heap_sweep open_heap_world open_heap_step open_hprof_text open_heap_trail
four_pins_open = refl

pub starved_pin : StarvedPin
unfolding open_heap_class open_heap_region open_heap_mark open_heap_sweep open_heap_world open_heap_step open_hprof_text open_heap_trail
starved_pin = record {
  allocations = ((refl, refl), (tt, (tt, ((refl, refl), (tt, ((refl, refl), (tt, ((refl, refl), (tt, (tt, (tt, tt)))))))))));
  replies = refl;
  lost = refl;
}

pub references_loaded : ReferencesLoaded
unfolding open_heap_class open_heap_region open_heap_mark open_heap_sweep open_heap_world open_heap_step open_heap_trail
references_loaded = refl
