-- What a step's record and the pin have for the walk back.
use Rattle.std.proofs.Common.{◌≡◌, ℕ, zero, suc, ◌<◌, ◌≤◌, Bool, true, false, ◌&&◌, List, [], ◌∷◌, length, All, Option, Some, None, IsSome, refl, sym, subst, arith}
use Rattle.std.specs.Prelude.{nat_lt, option_map}
use Rattle.std.proofs.lemmas.Bool.{ltb-true}
use Rattle.std.proofs.lemmas.Option.{slice_get_within}
use Rattle.heap_class.specs.declared.ObjRef.{ObjRef}
use Rattle.heap_region.specs.Regions.{Object, UsedRegion, used_at, object_at}
use Rattle.heap_region.specs.RegionCopies.{frozen, region_frozen}
use Rattle.heap_world.specs.State.{HeapState, is_register, register_index}
use Rattle.heap_world.specs.Legal.{IsLegal}
use Rattle.heap_step.specs.declared.Event.{Event}
use Rattle.heap_step.specs.declared.Undo.{Undo}
use Rattle.heap_step.specs.Laws.{IsStep}
use Rattle.heap_step.proofs.EventLaws.{keeps_legal}
use Rattle.heap_pins.specs.Shows.{AreFit, FitIn}
use Rattle.heap_pins.proofs.LiveCounts.{cell_table_below_257_cells, standing_object_is_in_cell}

-- ---- dead objects

fitting_dead_cells_below_256 : (size count : ℕ) (dead : List (ℕ × Object)) → count ≤ 256 → AreFit size count dead → All (λ d. d.0 < 256) dead
fitting_dead_cells_below_256 size count [] few fit k e lt = absurd (omega (arith, lt))
fitting_dead_cells_below_256 size count (d ∷ dead) few fit zero e lt = omega (arith, few, fit.0)
fitting_dead_cells_below_256 size count (d ∷ dead) few fit (suc k) e lt = fitting_dead_cells_below_256 size count dead few fit.2 k e (omega (arith, lt))

pub dead_within : (x : HeapState) (region : ℕ) (dead : List (ℕ × Object)) → IsLegal x → IsSome (used_at x.regions region) → FitIn (region_frozen x.regions region) dead → All (λ d. d.0 < 256) dead
unfolding region_frozen
dead_within x region dead legal some fit = go (used_at x.regions region) refl some fit
  where
    go : (s : Option UsedRegion) → used_at x.regions region ≡ s → IsSome s → FitIn (option_map frozen s) dead → All (λ d. d.0 < 256) dead
    go None e some fit = absurd (cc)
    go (Some u) e some fit = fitting_dead_cells_below_256 u.cell_size (length u.cells) dead (cell_table_below_257_cells u (legal.regions.tables region u e)) (fit (frozen u) refl)

-- ---- the state after a step

pub after_legal : (e : Event) (before after : HeapState) (left : Undo) → IsStep e before after left → IsLegal after
after_legal e before after left s = subst IsLegal (sym s.gave) (keeps_legal e before s.legal s.accepted)

-- ---- cells and registers

pub cell_of_object_below_256 : (x : HeapState) (at : ObjRef) → IsLegal x → IsSome (object_at x.regions at) → at.cell < 256
cell_of_object_below_256 x at legal some = go (object_at x.regions at) refl some
  where
    go : (y : Option Object) → object_at x.regions at ≡ y → IsSome y → at.cell < 256
    go None e some = absurd (cc)
    go (Some o) e some =
        let s = standing_object_is_in_cell x.regions at o e in
        let there : at.cell < length s.0.cells = slice_get_within s.0.cells at.cell (Some o) s.2 in
        let few : length s.0.cells ≤ 256 = cell_table_below_257_cells s.0 (legal.regions.tables at.region s.0 s.1) in
        omega (arith, there, few)

pub register_within : (x : HeapState) (m r : ℕ) → is_register x m r ≡ true → register_index m r < length x.registers
register_within x m r h = ltb-true (register_index m r) (length x.registers) (go (nat_lt r 8) (nat_lt (register_index m r) (length x.registers)) h)
  where
    go : (a b : Bool) → (a && b) ≡ true → b ≡ true
    go true b h = h
    go false b h = cc
