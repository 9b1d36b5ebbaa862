-- The actions of a private machine.
use Rattle.std.specs.Prelude.{◌≡◌, ℕ}
use Rattle.heap_trail.specs.declared.Action.{Action}
use Rattle.heap_trail.specs.declared.Reply.{Reply}
use Rattle.heap_trail.specs.Pins.{pins_below}
use Rattle.heap_trail.specs.Machine.{Machine, Allocation, MayStand, acted_under}

-- an action with one of the allocations that are possible for it
abbrev pub LocalActs : Machine → Action → Reply → Machine → Type 0
LocalActs m a r m' =
    (allocation : Allocation) × MayStand m (a, allocation)
    × (acted_under m (a, allocation) ≡ (m', r))

-- the machine without the pins that have this number or a greater one
abbrev pub own_closed : ℕ → Machine → Machine
own_closed first m = record m { pins = pins_below first m.pins }
