-- The settings of a heap, and their limits.
use Rattle.std.specs.Prelude.{ℕ, ◌≤◌, false}
use Rattle.heap_class.specs.declared.ClassLimits.{ClassLimits}
use Rattle.heap_class.specs.declared.IdSize.{IdSize}
use Rattle.heap_class.specs.Limits.{AreClassLimits, array_limit, large_array_limit, widest_classes}
use Rattle.heap_region.specs.Limits.{region_limit}
use Rattle.heap_world.specs.declared.Limits.{Limits}

-- the largest number of mutators of a heap
abbrev pub mutator_limit : ℕ
mutator_limit = 16

-- the number of registers of each mutator
abbrev pub registers_each : ℕ
registers_each = 8

-- the largest number of steps that can be undone
abbrev pub keep_limit : ℕ
keep_limit = 16777216

-- the largest number of open pins, lost ones included
abbrev pub pin_limit : ℕ
pin_limit = 64

-- the largest number of regions of a heap that isn't wide
abbrev pub narrow_regions : ℕ
narrow_regions = 256

-- the largest number of steps that can be undone in a heap that isn't wide
abbrev pub narrow_keep : ℕ
narrow_keep = 65536

-- what a heap that isn't wide allows of its classes and their names
abbrev pub narrow_classes : ClassLimits
narrow_classes = record { classes = 256; name_bytes = 64; any_sign = false }

-- what a heap that isn't wide allows
abbrev pub narrow_limits : Limits
narrow_limits = record { classes = narrow_classes; pins = 4; elements = array_limit; area = 0 }

-- what a wide heap without an area allows
abbrev pub wide_limits : Limits
wide_limits =
    record { classes = widest_classes; pins = pin_limit; elements = array_limit; area = 0 }

-- what a heap with these limits allows if its area has this number of regions
abbrev pub with_area : ℕ → Limits → Limits
with_area regions limits = record limits { elements = large_array_limit; area = regions }

-- a heap may have these limits: they allow no more than any heap does
pub record AreLimits (limits : Limits) : Type 0 where
  pub classes : AreClassLimits limits.classes
  pub pins : limits.pins ≤ pin_limit
  pub elements : limits.elements ≤ large_array_limit

-- a heap that isn't wide may have these numbers of regions, of mutators and of steps that can be undone
pub record AreNarrowSettings (regions mutators keep : ℕ) : Type 0 where
  pub regions_within : (1 ≤ regions) × (regions ≤ narrow_regions)
  pub mutators_within : (1 ≤ mutators) × (mutators ≤ mutator_limit)
  pub keep_within : (1 ≤ keep) × (keep ≤ narrow_keep)

-- a heap may have these numbers of regions, of mutators and of steps that can be undone
pub record AreHeapSettings (regions mutators keep : ℕ) : Type 0 where
  pub regions_within : (1 ≤ regions) × (regions ≤ region_limit)
  pub mutators_within : (1 ≤ mutators) × (mutators ≤ mutator_limit)
  pub keep_within : (1 ≤ keep) × (keep ≤ keep_limit)

-- the settings of a heap: its regions, its mutators, the steps that can be undone, the size of the ids in its dumps, and what
-- it allows of classes, their names and pins
pub record HeapSettings : Type 0 where
  pub regions : ℕ
  pub mutators : ℕ
  pub keep : ℕ
  pub ids : IdSize
  pub limits : Limits
