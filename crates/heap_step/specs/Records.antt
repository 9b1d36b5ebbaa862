-- The record that an event leaves, its weight, and its undoing.
use Rattle.std.specs.Prelude.{ℕ, ◌+◌, ◌-◌, length, take, sum_by, if◌then◌else◌}
use Rattle.heap_region.specs.Regions.{block_words, with_word}
use Rattle.heap_region.specs.Pool.{unallocated, restored}
use Rattle.heap_mark.specs.MarkSteps.{unsnapped, unmarked, undrained, unfinished}
use Rattle.heap_sweep.specs.Sweep.{unswept}
use Rattle.heap_world.specs.State.{HeapState, pool_of, with_pool, marking_of, with_marking, with_register}
use Rattle.heap_world.specs.Events.{without_last}
use Rattle.heap_step.specs.declared.Event.{Event}
use Rattle.heap_step.specs.declared.Undo.{Undo}
use Rattle.heap_step.specs.declared.Undo.TheVariants.{Put, Store, Reg, New, Class, Snap, Mark, Drain, Finish, Sweep, Reclaim}
use Rattle.heap_step.specs.Apply.{model_of}

-- the record that an accepted event leaves
unfoldable pub undo_record : Event → HeapState → Undo
undo_record e = (model_of e).left

-- the entries and words that a record keeps besides its fixed fields
unfoldable pub weight : Undo → ℕ
weight (Put at slot old) = 1
weight (Store at slot old logged) = 1
weight (Reg m r old) = 0
weight (New at fresh m r old) = 0
weight Class = 0
weight Snap = 0
weight (Mark parent pushed) = 0
weight (Drain pushed) = 0
weight (Finish log) = length log
weight (Sweep region dead) = sum_by (λ d. 1 + length d.1.words) dead
weight (Reclaim region storage) = block_words storage.cell_size + length storage.cells

-- the state before the step that left this record and this state
unfoldable pub undone : Undo → HeapState → HeapState
undone (Put at slot old) w = record w { regions = with_word at slot old w.regions }
undone (Store at slot old logged) w =
    record w {
      regions = with_word at slot old w.regions;
      log = if logged then without_last w.log else w.log;
    }
undone (Reg m r old) w = with_register m r old w
undone (New at fresh m r old) w =
    with_register m r old (with_pool (unallocated at fresh (pool_of w)) w)
undone Class w = record w { classes = take (length w.classes - 1) w.classes }
undone Snap w = with_marking (unsnapped (marking_of w)) w
undone (Mark parent pushed) w = with_marking (unmarked parent pushed (marking_of w)) w
undone (Drain pushed) w = with_marking (undrained pushed (marking_of w)) w
undone (Finish log) w = with_marking (unfinished log (marking_of w)) w
undone (Sweep region dead) w = with_pool (unswept region dead (pool_of w)) w
undone (Reclaim region storage) w = with_pool (restored region storage (pool_of w)) w
