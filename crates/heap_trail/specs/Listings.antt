-- What a list of the open pins says of each.
use Rattle.std.specs.Prelude.{ℕ}
use Rattle.heap_trail.specs.declared.held.Held.{Held}
use Rattle.heap_trail.specs.declared.held.Held.TheVariants as held
use Rattle.heap_trail.specs.declared.held.NumberedPin.{NumberedPin}
use Rattle.heap_trail.specs.declared.listing.ListedPin.{ListedPin}
use Rattle.heap_trail.specs.declared.listing.PinStatus.{PinStatus}
use Rattle.heap_trail.specs.declared.listing.PinStatus.TheVariants as status
use Rattle.heap_trail.specs.Pins.{PinState, Kept, Gone}

-- the place of the pin, and the pieces given or the cause of its loss
unfoldable pub status_of : PinState → PinStatus
status_of (Kept place image given) = status.Kept place given
status_of (Gone place cause) = status.Lost place cause

-- an open pin and its number
unfoldable pub listed_pin : ℕ × PinState → ListedPin
listed_pin e = record { number = e.0; status = status_of e.1 }

-- so it is told of a pin as it is kept
unfoldable pub held_status : Held → PinStatus
held_status (held.Kept place pin cursor given) = status.Kept place given
held_status (held.Lost place cause) = status.Lost place cause

-- and of its slot
unfoldable pub listed_slot : NumberedPin → ListedPin
listed_slot s = record { number = s.number; status = held_status s.held }
