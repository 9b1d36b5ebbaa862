-- For proofs: all functions of this crate, opened at once, for worked examples by computation.
use Rattle.heap_trail.specs.Examples.{machine_at_end, replies_to}
use Rattle.heap_trail.specs.Machine.{opening_machine, after_result, after_step_at, unless, after_rewind_by, after_open, counted, after_piece, after_close, acted, acted_under, machine_after, replies_of, may_grow, may_overwrite, is_accepted, without_dumps, all_granted}
use Rattle.heap_pins.specs.Images.{dumped_objects, image_of}
use Rattle.heap_trail.specs.Pins.{pin_at, is_retained, open_refusal, with_pin, without_pin, if_kept, each_kept, with_piece_given, after_rewind, with_lost}
use Rattle.heap_trail.specs.Trail.{stepped, state_ago, rewind_refusal, rewound}

-- nothing of its own: to unfold it is to unfold the functions above
unfoldable pub trail_functions : Unit {0}
unfolding opening_machine after_result after_step_at unless after_rewind_by after_open counted after_piece after_close acted acted_under machine_after replies_of may_grow may_overwrite is_accepted without_dumps all_granted dumped_objects image_of pin_at is_retained open_refusal with_pin without_pin if_kept each_kept with_piece_given after_rewind with_lost stepped state_ago rewind_refusal rewound machine_at_end replies_to
trail_functions = tt
