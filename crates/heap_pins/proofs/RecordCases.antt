-- The records by what they change: a region, the registers or the classes. What holds of the others holds by one case.
use Rattle.std.proofs.Common.{◌≡◌, ℕ, Bool, List, [], ◌∷◌, set, Option, Some, None, refl, sym, ◌∙◌}
use Rattle.std.specs.Prelude.{option_map}
use Rattle.heap_class.specs.declared.ObjRef.{ObjRef}
use Rattle.heap_region.specs.Regions.{Object, UsedRegion}
use Rattle.heap_region.specs.RegionCopies.{Frozen, frozen_word_set, region_frozen}
use Rattle.heap_world.specs.State.{HeapState}
use Rattle.heap_step.specs.declared.Undo.{Undo}
use Rattle.heap_step.specs.declared.Undo.TheVariants.{Put, Store, Reg, New, Class, Sweep, Reclaim}
use Rattle.heap_step.specs.Records.{undone}
use Rattle.heap_pins.specs.KeptCopies.{touched, with_dead, patched, copy_for}
use Rattle.heap_pins.specs.Walk.{walked_copy, registers_before, classes_before}

pub equal_options_name_same_region : (q r : ℕ) → Some q ≡ Some r → q ≡ r
equal_options_name_same_region q r e = cc

pub no_region_is_named : (r : ℕ) (P : Type 0) → None ≡ Some r → P
no_region_is_named r P e = absurd (clash e)
  where
    clash : None ≡ Some r → ⊥
    clash e = cc

-- ---- the touched region

-- the record touches no region
pub record TouchesNone (left : Undo) : Type 0 where
  pub none : touched left ≡ None
  pub patch : (f : Frozen) → patched left f ≡ f

-- so it touches none that is named
pub record_that_touches_no_region : (left : Undo) → TouchesNone left → (r : ℕ) (P : Type 0) → touched left ≡ Some r → P
record_that_touches_no_region left n r P t = no_region_is_named r P (sym n.none ∙ t)

-- a sweep touches no other region than its own
pub sweep_touches_its_region : (region : ℕ) (dead : List (ℕ × Object)) (r : ℕ) → touched (Sweep region dead) ≡ Some r → region ≡ r
unfolding touched
sweep_touches_its_region region [] r e = no_region_is_named r _ e
sweep_touches_its_region region (d ∷ dead) r e = equal_options_name_same_region region r e

-- each record that touches a region, and the others
pub by_region : (P : Undo → Type 0) → ((at : ObjRef) (slot old : ℕ) → P (Put at slot old)) → ((at : ObjRef) (slot old : ℕ) (logged : Bool) → P (Store at slot old logged)) → ((region : ℕ) (d : ℕ × Object) (dead : List (ℕ × Object)) → P (Sweep region (d ∷ dead)))
    → ((region : ℕ) (storage : UsedRegion) → P (Reclaim region storage)) → ((left : Undo) → TouchesNone left → P left) → (left : Undo) → P left
unfolding touched patched with_dead
by_region P put store sweep reclaim other (Put at slot old) = put at slot old
by_region P put store sweep reclaim other (Store at slot old logged) = store at slot old logged
by_region P put store sweep reclaim other (Sweep region (d ∷ dead)) = sweep region d dead
by_region P put store sweep reclaim other (Reclaim region storage) = reclaim region storage
by_region P put store sweep reclaim other left = other left (record { none = refl; patch = λ f. refl })

pub dead_size : (dead : List (ℕ × Object)) (f : Frozen) → (with_dead dead f).cell_size ≡ f.cell_size
unfolding with_dead
dead_size [] f = refl
dead_size (d ∷ dead) f = dead_size dead (record f { cells = set f.cells d.0 (Some d.1) })

-- the record patches the copy of a region, and leaves the size of its cells
pub record PatchesRegion (left : Undo) (r : ℕ) : Type 0 where
  pub region : touched left ≡ Some r
  pub copy : (v : HeapState) (q : ℕ) → copy_for left v q ≡ option_map (patched left) (region_frozen v.regions q)
  pub walk : (f : Option Frozen) → walked_copy left f ≡ option_map (patched left) f
  pub size : (f : Frozen) → (patched left f).cell_size ≡ f.cell_size

-- each record that patches a region, each that reclaims one, and the others
pub by_patch : (P : Undo → Type 0) → ((left : Undo) (r : ℕ) → PatchesRegion left r → P left) → ((region : ℕ) (storage : UsedRegion) → P (Reclaim region storage)) → ((left : Undo) → TouchesNone left → P left) → (left : Undo) → P left
unfolding touched patched copy_for walked_copy frozen_word_set
by_patch P patches = by_region P
    (λ at slot old. patches (Put at slot old) at.region (record { region = refl; copy = λ v q. refl; walk = λ f. refl; size = λ f. refl }))
    (λ at slot old logged. patches (Store at slot old logged) at.region (record { region = refl; copy = λ v q. refl; walk = λ f. refl; size = λ f. refl }))
    (λ region d dead. patches (Sweep region (d ∷ dead)) region (record { region = refl; copy = λ v q. refl; walk = λ f. refl; size = dead_size (d ∷ dead) }))

-- ---- registers and classes

-- the step left the registers and the classes
pub record KeepsLists (left : Undo) : Type 0 where
  pub registers : (v : HeapState) → (undone left v).registers ≡ v.registers
  pub classes : (v : HeapState) → (undone left v).classes ≡ v.classes
  pub words : (rs : List ℕ) → registers_before left rs ≡ rs
  pub count : (n : ℕ) → classes_before left n ≡ n

-- each record that changes registers or classes, and the others
pub records_by_lists_they_keep : (P : Undo → Type 0) → ((m r old : ℕ) → P (Reg m r old)) → ((at : ObjRef) (fresh : Bool) (m r old : ℕ) → P (New at fresh m r old)) → P Class → ((left : Undo) → KeepsLists left → P left) → (left : Undo) → P left
unfolding undone registers_before classes_before
records_by_lists_they_keep P reg new class other (Reg m r old) = reg m r old
records_by_lists_they_keep P reg new class other (New at fresh m r old) = new at fresh m r old
records_by_lists_they_keep P reg new class other Class = class
records_by_lists_they_keep P reg new class other left = other left (record { registers = λ v. refl; classes = λ v. refl; words = λ rs. refl; count = λ n. refl })
