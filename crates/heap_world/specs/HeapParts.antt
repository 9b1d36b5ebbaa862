-- For proofs: the state that the fields of a heap hold.
use Rattle.std.specs.Prelude.{ℕ, ◌*◌, ◌≤◌, List, length}
use Rattle.heap_class.specs.Classes.{Class}
use Rattle.heap_region.specs.Pool.{RegionPool}
use Rattle.heap_mark.specs.Marker.{MarkerState, cells_each}
use Rattle.heap_world.specs.declared.Limits.{Limits}
use Rattle.heap_world.specs.State.{HeapState}
use Rattle.heap_world.specs.Legal.{IsLegal}

-- the state with these parts
abbrev pub heap_of_parts : Limits → List Class → RegionPool → List ℕ → MarkerState → HeapState
heap_of_parts limits classes pool registers marker =
    record {
      limits = limits;
      classes = classes;
      regions = pool.regions;
      pool = pool.pool;
      area_start = pool.area_start;
      registers = registers;
      gray = marker.gray;
      log = marker.log;
      drained = marker.drained;
      phase = marker.phase;
    }

-- the state is legal, and `room` ids are as many as all regions can have cells
pub record IsSoundHeap (state : HeapState) (room : ℕ) : Type 0 where
  pub legal : IsLegal state
  pub ids : cells_each * length state.regions ≤ room
