-- The state of the marker, and its demands on the regions that it works on.
use Rattle.std.specs.Prelude.{◌≡◌, ◌≢◌, ℕ, ◌*◌, ◌<◌, ◌≤◌, true, false, List, [], length, map, filter, zip, not, ◌==◌, Some, Contains, IsSome, nat_eq}
use Rattle.std.specs.List.{IsDistinct}
use Rattle.heap_class.specs.declared.Kind.{Kind}
use Rattle.heap_class.specs.declared.ObjKind.{ObjKind}
use Rattle.heap_class.specs.declared.ObjKind.TheVariants.{Instance, Array, Prim}
use Rattle.heap_class.specs.Kinds.{is_reference}
use Rattle.heap_class.specs.Classes.{Class, slots_of}
use Rattle.heap_region.specs.Regions.{Object, Region, object_of}
use Rattle.heap_region.specs.Pool.{RegionPool}
use Rattle.heap_region.specs.Legal.{EachObject}
use Rattle.heap_mark.specs.declared.Phase.{Phase}
use Rattle.heap_mark.specs.declared.Phase.TheVariants.{Idle}
use Rattle.heap_mark.specs.MarkSteps.{MarkState}

-- the largest number of cells of a region
abbrev pub cells_each : ℕ
cells_each = 256

-- the state of the marker beside the objects' bits: the gray stack by ids, its top first, and its room in ids; the log by ids,
-- its oldest entry first; the number of its entries that were drained; and the phase
pub record MarkerState : Type 0 where
  pub gray : List ℕ
  pub room : ℕ
  pub log : List ℕ
  pub drained : ℕ
  pub phase : Phase

-- a new marker
abbrev pub idle_marker : ℕ → MarkerState
idle_marker room = record { gray = []; room = room; log = []; drained = 0; phase = Idle }

-- the marker at work on these regions
abbrev pub at_work : List Region → MarkerState → MarkState
at_work regions m =
    record { regions = regions; gray = m.gray; log = m.log; drained = m.drained; phase = m.phase }

-- the marker at work on the regions of this pool
abbrev pub work : RegionPool → MarkerState → MarkState
work pool m = at_work pool.regions m

-- the pool after work that led to this state
abbrev pub pool_with : MarkState → RegionPool → RegionPool
pool_with s pool = record pool { regions = s.regions }

-- the marker after work that led to this state; the stack's room stays
abbrev pub after_work : MarkState → MarkerState → MarkerState
after_work s m =
    record { gray = s.gray; room = m.room; log = s.log; drained = s.drained; phase = s.phase }

-- x is the id of a marked object
abbrev pub NamesMarked : List Region → ℕ → Type 0
NamesMarked regions x = (o : Object) × (object_of regions x ≡ Some o) × (o.mark ≡ true)

-- x is null or the id of an object
abbrev pub IsNullOrNames : List Region → ℕ → Type 0
IsNullOrNames regions x = x ≢ 0 → IsSome (object_of regions x)

-- gray ids are distinct, each names a marked object, and the stack has room for the ids of all objects
pub record IsGraySound (regions : List Region) (m : MarkerState) : Type 0 where
  pub distinct : IsDistinct nat_eq m.gray
  pub marked : (x : ℕ) → Contains m.gray x → NamesMarked regions x
  pub ids : cells_each * length regions ≤ m.room

-- objects of the kind may have n slots: an instance as many as its class, which exists; values aren't of the kind Object
abbrev pub HasSlots : List Class → ObjKind → ℕ → Type 0
HasSlots classes (Instance k) n = (k < length classes) × (n ≡ length (slots_of classes k))
HasSlots classes (Array k) n = Unit {0}
HasSlots classes (Prim kind) n = kind ≢ Kind.Object

-- no cycle runs, nothing is gray, and no object is marked
pub record IsIdle (s : MarkState) : Type 0 where
  pub phase : s.phase ≡ Idle
  pub gray : s.gray ≡ []
  pub unmarked : EachObject s.regions (λ at o. o.mark ≡ false)

-- the words of the reference slots among slots of these kinds, without null
unfoldable pub references_among : List Kind → List ℕ → List ℕ
references_among kinds words =
    filter (λ w. not (w == 0)) (map (λ p. p.1) (filter (λ p. is_reference p.0) (zip kinds words)))
