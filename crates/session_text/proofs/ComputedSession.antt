-- The worked example, by computation.
use Rattle.std.proofs.Common.{◌≡◌, [], refl}
use Rattle.std.specs.Fmt.{digits}
use Rattle.hex.specs.Hex.{encode_with}
use Rattle.heap_class.specs.Functions.{class_functions as open_heap_class}
use Rattle.heap_world.specs.Regions.{block_words, cell_count, used_at, object_at, objects_of_region, objects_in, id_of, cell_around, ref_of, object_of, slot_kinds, references_of, updated, in_used, with_region, with_object, with_word, with_mark, cell_size_for, live_objects}
use Rattle.heap_world.specs.Pool.{fresh_region, opening_pool, blank_object, free_place, place_or_fresh, new_place, is_fresh, taken, restored, allocated, freed, released, unallocated}
use Rattle.heap_world.specs.Functions.{world_functions as open_heap_world}
use Rattle.heap_step.specs.Functions.{step_functions as open_heap_step}
use Rattle.hprof_text.specs.Text.{record_of, header, utf8, load_class, trace, field_entry, class_dump, root, value_bytes, dump_of, object_dump, opening_records, items_of, sub_records}
use Rattle.hprof_text.specs.Segments.{cut_at, segments_of, segment_records, end_record, pieces_of, nth_piece, piece_of}
use Rattle.heap_trail.specs.Functions.{trail_functions as open_heap_trail}
use Rattle.session_grammar.specs.Grammar.{words_of_line, number_of_word, kind_of_word, class_rules, making_rules, access_rules, marking_rules, session_rules, by_rule, command_of}
use Rattle.session_text.specs.declared.Ended.TheVariants.{Eof}
use Rattle.session_text.specs.declared.ReadEnd.TheVariants.{Over}
use Rattle.session_text.specs.declared.limits.SessionLimits.TheVariants.{Narrow}
use Rattle.session_text.specs.Replies.{chunks_of_64, data_lines}
use Rattle.session_text.specs.Session.{pieces_dumped, session_of}
use Rattle.session_text.specs.Examples.{default_machine, point_lines, point_answers}

-- the functions of heap_region, opened at once
unfoldable open_heap_region : Unit {0}
unfolding block_words cell_count used_at object_at objects_of_region objects_in id_of cell_around ref_of object_of slot_kinds references_of updated in_used with_region with_object with_word with_mark cell_size_for live_objects fresh_region opening_pool blank_object free_place place_or_fresh new_place is_fresh taken restored allocated freed released unallocated
open_heap_region = tt

-- those of hprof_text that pieces need
unfoldable open_hprof_text : Unit {0}
unfolding record_of header utf8 load_class trace field_entry class_dump root value_bytes dump_of object_dump opening_records items_of sub_records cut_at segments_of segment_records end_record pieces_of nth_piece piece_of
open_hprof_text = tt

-- those of the lines
unfoldable open_session : Unit {0}
unfolding words_of_line number_of_word kind_of_word class_rules making_rules access_rules marking_rules session_rules by_rule command_of digits encode_with chunks_of_64 data_lines pieces_dumped session_of
open_session = tt

pub computed_session_reaches_eof : (session_of Narrow default_machine [] 0 point_lines Over).1 ≡ Eof
unfolding open_heap_class open_heap_region open_heap_world open_heap_step open_hprof_text open_heap_trail open_session
computed_session_reaches_eof = refl

pub computed_session_answers : (session_of Narrow default_machine [] 0 point_lines Over).0.written ≡ point_answers
unfolding open_heap_class open_heap_region open_heap_world open_heap_step open_hprof_text open_heap_trail open_session
computed_session_answers = refl
