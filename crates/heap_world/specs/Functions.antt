-- For proofs: all functions of this crate, opened at once, for facts by computation.
use Rattle.heap_world.specs.Events.{after_class, new_object, after_new, is_full, new_refusal, new_array_refusal, new_prim_refusal, lacks_slot, is_reference_slot, load_refusal, after_load, store_refusal, is_logged, without_last, with_slot, after_store, put_refusal, after_put, move_refusal, after_move, clear_refusal, after_snap, after_mark, after_drain, after_finish, after_sweep}
use Rattle.heap_world.specs.State.{opening_state, place_of, slot_kind, word_of}

-- nothing of its own: to unfold it is to unfold the functions above
unfoldable pub world_functions : Unit {0}
unfolding after_class new_object after_new is_full new_refusal new_array_refusal new_prim_refusal lacks_slot is_reference_slot load_refusal after_load store_refusal is_logged without_last with_slot after_store put_refusal after_put move_refusal after_move clear_refusal after_snap after_mark after_drain after_finish after_sweep opening_state place_of slot_kind word_of
world_functions = tt
