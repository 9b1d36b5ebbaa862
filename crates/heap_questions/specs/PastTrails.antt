-- The trail up to a retained state, and what the records of the steps since tell of it.
use Rattle.std.specs.Prelude.{◌≡◌, ℕ, ◌+◌, ◌-◌, ◌*◌, ◌/◌, ◌%◌, ◌≤◌, ◌==◌, ◌&&◌, ◌||◌, Bool, not, ◌∷◌, length, Option, Some, None, option_map, is_some, if◌then◌else◌}
use Rattle.std.specs.List.{list_any}
use Rattle.heap_class.specs.declared.ObjRef.{ObjRef}
use Rattle.heap_region.specs.Limits.{region_words}
use Rattle.heap_region.specs.Regions.{UsedRegion, block_words, cell_object, object_base, used_at}
use Rattle.heap_world.specs.State.{HeapState}
use Rattle.heap_step.specs.declared.Undo.{Undo}
use Rattle.heap_step.specs.declared.Undo.TheVariants.{New, Sweep, Reclaim}
use Rattle.heap_pins.specs.Pin.{PinContents}
use Rattle.heap_pins.specs.Shows.{IsPinOf, ShowsState}
use Rattle.heap_pins.specs.WalkedPins.{IsWalked}
use Rattle.heap_trail.specs.Laws.{IsTrail}
use Rattle.heap_trail.specs.Trail.{Trail, state_ago}
use Rattle.heap_questions.specs.declared.past.seen.SeenSlot.{SeenSlot}
use Rattle.heap_questions.specs.Changes.{made_by, slot_word}
use Rattle.heap_questions.specs.SlotChanges.{refers_at}

-- a trail of legal states, each of which came from the one before it
abbrev pub IsPast : Trail → Type 0
IsPast t = (keep : ℕ) × IsTrail keep t

-- what a slot of the object at a place holds; none if there is no such object or slot
abbrev pub seen_slot : HeapState → ObjRef → ℕ → Option SeenSlot
seen_slot w at s =
    option_map (λ word. record { word = word; refers = refers_at w at s }) (slot_word w at s)

-- ---- pins

-- the pin shows the state of n steps ago beside the current state
abbrev pub IsPinAgo : PinContents → Trail → ℕ → Type 0
IsPinAgo p t n = IsWalked p (state_ago n t) n (t.current ∷ t.past)

-- the pin is one of the state w, and shows it beside another
abbrev pub IsShownBeside : HeapState → PinContents → HeapState → Type 0
IsShownBeside current p w = IsPinOf p w × ShowsState p w current

-- ---- what a record tells

-- whether an object stood at a place before the step that left this record, from whether one does after it
abbrev pub stood_before : Undo → ObjRef → Bool → Bool
stood_before (New a fresh m r old) at now = not (made_by (New a fresh m r old) at) && now
stood_before (Sweep region dead) at now =
    if at.region == region then list_any (λ d. d.0 == at.cell) dead || now else now
stood_before (Reclaim region storage) at now =
    if at.region == region then is_some (cell_object storage at.cell) else now
stood_before left at now = now

-- the size of the cells of a region, or of the cell of a large object, which fill their regions
abbrev pub storage_cell_size : UsedRegion → ℕ
storage_cell_size u = block_words u.cell_size / length u.cells

-- the size of the cells of a region before the step, from that after it
abbrev pub size_before : Undo → ℕ → ℕ → ℕ
size_before (Reclaim region storage) r now =
    if region == r then storage_cell_size storage else now
size_before left r now = now

-- the cells of a region have this size, if it is in use
abbrev pub HasCellSize : HeapState → ℕ → ℕ → Type 0
HasCellSize w r size = (u : UsedRegion) → used_at w.regions r ≡ Some u → size ≡ u.cell_size

-- ---- cells by their size

-- the id of a cell of this size
abbrev pub id_with : ℕ → ObjRef → ℕ
id_with size at = object_base + 8 * (region_words * at.region + at.cell * size)

-- the cell of this size that has the word of an id
abbrev pub sized_cell : ℕ → ℕ → ℕ → ObjRef
sized_cell size region id =
    record { region = region; cell = (id - object_base) / 8 % region_words / size }

-- of the cells of this size in a region, the one with the id, if it isn't below all ids and the cells have a size
abbrev pub IsCellOf : ℕ → ℕ → ℕ → Option ObjRef → Type 0
IsCellOf size region id (Some at) = (at ≡ sized_cell size region id) × (id_with size at ≡ id)
IsCellOf size region id None =
    1 ≤ size → id_with size (sized_cell size region id) ≡ id → ⊥
