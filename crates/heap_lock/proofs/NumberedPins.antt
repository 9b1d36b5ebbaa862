-- The numbers of open pins stay below the next one.
use Rattle.std.proofs.Common.{ℕ, ◌+◌, ◌<◌, Bool, true, false, List, [], ◌∷◌, map, sym, subst, arith, Option, Some, None}
use Rattle.std.specs.Prelude.{All, nat_le, nat_lt, not, unwrap_or, length, ◌==◌, if◌then◌else◌}
use Rattle.std.specs.List.{list_any}
use Rattle.std.proofs.lemmas.List.Elements.{All-nil, All-cons, All-head, All-tail, All-append, All-filter}
use Rattle.heap_class.specs.declared.IdSize.{IdSize}
use Rattle.heap_class.specs.declared.LostCause.TheVariants.{Rewound, Memory}
use Rattle.heap_class.specs.declared.Refusal.{Refusal}
use Rattle.hprof_text.specs.Image.{Image}
use Rattle.hprof_text.specs.Segments.{pieces_of}
use Rattle.heap_trail.specs.declared.Action.{Action}
use Rattle.heap_trail.specs.declared.Action.TheVariants.{Step, Rewind, OpenPin, NextPiece, ClosePin}
use Rattle.heap_world.specs.declared.Limits.{Limits}
use Rattle.heap_trail.specs.Limits.{last_place}
use Rattle.heap_trail.specs.Trail.{rewind_refusal, rewound}
use Rattle.heap_trail.specs.Pins.{Pins, PinState, Kept, Gone, AreNumbered, pin_at, open_refusal, with_pin, without_pin, if_kept, each_kept, with_piece_given, after_rewind, with_lost}
use Rattle.heap_trail.specs.Machine.{Machine, Allocation, Granted, Denied, LosesPins, opening_machine, unless, after_rewind_by, after_open, counted, after_piece, after_close, acted, acted_under, machine_after}
use Rattle.heap_trail.proofs.Images.{pins_same_after_step}

-- ---- the list of pins

abbrev IsPinBelow : ℕ → ℕ × PinState → Type 0
IsPinBelow next e = e.0 < next

mapped_pins_stay_below : (f : ℕ → ℕ → Image → ℕ → PinState) (next : ℕ) (xs : List (ℕ × PinState)) → All (IsPinBelow next) xs → All (IsPinBelow next) (map {B = ℕ × PinState} (λ e. (e.0, if_kept (f e.0) e.1)) xs)
mapped_pins_stay_below f next [] h = All-nil (IsPinBelow next)
mapped_pins_stay_below f next (x ∷ xs) h = All-cons (IsPinBelow next) (x.0, if_kept (f x.0) x.1) _ (All-head (IsPinBelow next) x xs h) (mapped_pins_stay_below f next xs (All-tail (IsPinBelow next) x xs h))

pins_stay_below_next_number : (next : ℕ) (xs : List (ℕ × PinState)) → All (IsPinBelow next) xs → All (IsPinBelow (next + 1)) xs
pins_stay_below_next_number next [] h = All-nil (IsPinBelow (next + 1))
pins_stay_below_next_number next (x ∷ xs) h = All-cons (IsPinBelow (next + 1)) x xs (omega (arith, All-head (IsPinBelow next) x xs h)) (pins_stay_below_next_number next xs (All-tail (IsPinBelow next) x xs h))

mapped_pins_stay_numbered : (f : ℕ → ℕ → Image → ℕ → PinState) (p : Pins) → AreNumbered p → AreNumbered (each_kept f p)
unfolding each_kept
mapped_pins_stay_numbered f p h = mapped_pins_stay_below f p.next p.open_pins h

rewound_numbered : (to : ℕ) (p : Pins) → AreNumbered p → AreNumbered (after_rewind to p)
unfolding after_rewind
rewound_numbered to p h = mapped_pins_stay_numbered (λ number place image given. if nat_lt to place then Gone place Rewound else Kept place image given) p h

given_numbered : (pin : ℕ) (p : Pins) → AreNumbered p → AreNumbered (with_piece_given pin p)
unfolding with_piece_given
given_numbered pin p h = mapped_pins_stay_numbered (λ number place image given. Kept place image (if number == pin then given + 1 else given)) p h

lost_numbered : (pins : List ℕ) (p : Pins) → AreNumbered p → AreNumbered (with_lost pins p)
unfolding with_lost
lost_numbered pins p h = mapped_pins_stay_numbered (λ number place image given. if list_any (λ n. n == number) pins then Gone place Memory else Kept place image given) p h

closed_numbered : (pin : ℕ) (p : Pins) → AreNumbered p → AreNumbered (without_pin pin p)
unfolding without_pin
closed_numbered pin p h = All-filter (λ (e : ℕ × PinState). not (e.0 == pin)) (IsPinBelow p.next) p.open_pins h

-- ---- the machine

rewind_numbered : (m : Machine) (n : ℕ) (r : Option Refusal) → AreNumbered m.pins → AreNumbered (unless r (after_rewind_by n) m).0.pins
unfolding unless after_rewind_by
rewind_numbered m n None h = rewound_numbered (rewound n m.trail).place m.pins h
rewind_numbered m n (Some r) h = h

open_numbered : (m : Machine) (at : ℕ) (r : Option Refusal) → AreNumbered m.pins → AreNumbered (unless r (after_open at) m).0.pins
unfolding unless after_open with_pin
open_numbered m at None h = All-append (IsPinBelow (m.pins.next + 1)) m.pins.open_pins _ (pins_stay_below_next_number m.pins.next m.pins.open_pins h) (All-cons (IsPinBelow (m.pins.next + 1)) _ [] (omega arith) (All-nil (IsPinBelow (m.pins.next + 1))))
open_numbered m at (Some r) h = h

counted_numbered : (b : Bool) (pin : ℕ) (m : Machine) → AreNumbered m.pins → AreNumbered (counted b pin m).pins
unfolding counted
counted_numbered true pin m h = given_numbered pin m.pins h
counted_numbered false pin m h = h

piece_numbered : (m : Machine) (pin time : ℕ) (s : Option PinState) → AreNumbered m.pins → AreNumbered (after_piece pin time m s).0.pins
unfolding after_piece
piece_numbered m pin time None h = h
piece_numbered m pin time (Some (Gone place cause)) h = h
piece_numbered m pin time (Some (Kept place image given)) h = counted_numbered (nat_lt given (length (pieces_of m.ids image time))) pin m h

close_numbered : (m : Machine) (pin : ℕ) (s : Option PinState) → AreNumbered m.pins → AreNumbered (after_close pin m s).0.pins
unfolding after_close
close_numbered m pin None h = h
close_numbered m pin (Some s) h = closed_numbered pin m.pins h

acted_numbered : (m : Machine) (a : Action) → AreNumbered m.pins → AreNumbered (acted m a).0.pins
unfolding acted
acted_numbered m (Step e) h = subst AreNumbered (sym (pins_same_after_step m e (nat_le last_place m.trail.place))) h
acted_numbered m (Rewind n) h = rewind_numbered m n (rewind_refusal n m.trail) h
acted_numbered m (OpenPin at) h = open_numbered m (unwrap_or at m.trail.place) (open_refusal (unwrap_or at m.trail.place) m.trail m.pins) h
acted_numbered m (NextPiece pin time) h = piece_numbered m pin time (pin_at pin m.pins) h
acted_numbered m (ClosePin pin) h = close_numbered m pin (pin_at pin m.pins) h

numbered_under_allocation : (m : Machine) (a : Action) (k : Allocation) → AreNumbered m.pins → AreNumbered (acted_under m (a, k)).0.pins
unfolding acted_under
numbered_under_allocation m a Granted h = acted_numbered m a h
numbered_under_allocation m a Denied h = h
numbered_under_allocation m a (LosesPins pins) h = lost_numbered pins (acted m a).0.pins (acted_numbered m a h)

pub numbered_after : (m : Machine) (paired : List (Action × Allocation)) → AreNumbered m.pins → AreNumbered (machine_after m paired).pins
unfolding machine_after
numbered_after m [] h = h
numbered_after m ((a, k) ∷ paired) h = numbered_after (acted_under m (a, k)).0 paired (numbered_under_allocation m a k h)

pub opening_numbered : (limits : Limits) (ids : IdSize) (regions mutators keep : ℕ) → AreNumbered (opening_machine limits ids regions mutators keep).pins
unfolding opening_machine
opening_numbered limits ids regions mutators keep = All-nil (IsPinBelow 1)
