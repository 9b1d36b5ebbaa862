use Rattle.std.proofs.Common.{◌≡◌, ◌==◌, ◌≤◌, ◌-◌, length, drop}
use Rattle.std.specs.List.{list_any}
use Rattle.seat_session.proofs.joined.is_open.Given as goal

abbrev pub invariant-loop-open : goal.invariant-loop-open
invariant-loop-open l =
    (l.index ≤ length l.machine.pins.open_pins)
    × (list_any (λ e. e.0 == l.pin) l.machine.pins.open_pins ≡ list_any (λ e. e.0 == l.pin) (drop l.index l.machine.pins.open_pins))

abbrev pub decreases-loop-open : goal.decreases-loop-open
decreases-loop-open l = length l.machine.pins.open_pins - l.index
