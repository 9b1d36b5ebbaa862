-- What a call that changes one region knows of its slot, and what the regions show afterwards.
use Rattle.std.proofs.Common.{◌≡◌, ◌≢◌, ℕ, zero, suc, [], ◌∷◌, arith, ◌<◌, Bool, true, false, List, length, map, Option, Some, None, is_none, IsSome, IfSome, IsSomeAnd, option_map, get_or, set, refl, sym, subst, ap, ◌∙◌, get_or-set_same}
use Rattle.std.specs.Prelude.{slice_get}
use Rattle.std.proofs.lemmas.List.{length-map, get_or-map, set-get_or}
use Rattle.heap_class.specs.declared.ObjRef.{ObjRef}
use Rattle.heap_region.specs.Regions.{Object, UsedRegion, FitsWords, used_at, object_at, slot_object, with_object}
use Rattle.heap_region.specs.Changes.{with_pending}
use Rattle.heap_region.specs.Pool.{RegionPool, taken, freed, cell_freed}
use Rattle.heap_region.specs.Layout.{IsWholeRegion, changed_at, cell_filled, pending_set}
use Rattle.heap_region.specs.Table.{shown_region, first_in, free_class_of, IsRegionTable, IsGood}
use Rattle.heap_region.proofs.ShownRegions.{object_shown, pending_shown, seen, shown_regions_with_changed_object, shown_regions_with_taken_cell, slot_of_object_is_used, freed_shown, used_region_is_slot, with_regions}
use Rattle.heap_region.proofs.Tables.{table_changed, table_with_region_of_same_room, in_use_within, size_in, slot_with_property_is_used, take_ready, good_region_with_taken_cell, good_region_with_freed_cell, good_region_with_changed_object, mapped_some, room_kept, pending_kept, class_kept_by_room, class_without_room, headed_region_has_room, freed_region_has_room}

-- a change that keeps the size of cells
pub size_kept : (f : UsedRegion → UsedRegion) → ((u : UsedRegion) → (f u).cell_size ≡ u.cell_size) → (s : Option UsedRegion) → size_in (option_map f s) ≡ size_in s
size_kept f keeps None = refl
size_kept f keeps (Some u) = ap Some (keeps u)

-- the slot of a region in use
pub slot_used : (slots : List (Option UsedRegion)) (r : ℕ) → IsSome (used_at (map shown_region slots) r) → (used_at (map shown_region slots) r ≡ get_or slots r None) × (r < length slots)
slot_used slots r some = (used_region_is_slot slots r, in_use_within slots r (rw (used_region_is_slot slots r) at some))

-- the slot of an object's region
pub slot_of_object : (slots : List (Option UsedRegion)) (at : ObjRef) → IsSome (object_at (map shown_region slots) at) → (object_at (map shown_region slots) at ≡ slot_object (get_or slots at.region None) at.cell) × IsSome (get_or slots at.region None) × (at.region < length slots)
slot_of_object slots at some =
    let used : IsSome (get_or slots at.region None) = slot_of_object_is_used _ _ (rw (object_shown slots at) at some) in
    (object_shown slots at, used, in_use_within slots at.region used)

-- each region has a free class
pub length_of_classes : (slots : List (Option UsedRegion)) → length (map free_class_of slots) ≡ length slots
length_of_classes slots = length-map slots free_class_of

-- what is read of a place of the table, whatever stands for one that is missing
pub place_read_with_any_default : {X : Type 0} (slots : List (Option X)) (r : ℕ) (s : Option X) → r < length slots → get_or slots r s ≡ get_or slots r None
place_read_with_any_default [] r s lt = absurd (omega arith)
place_read_with_any_default (x ∷ slots) zero s lt = refl
place_read_with_any_default (x ∷ slots) (suc r) s lt = place_read_with_any_default slots r s (omega arith)

-- what a call finds of the region that it changes
pub ruleset used_slots = (slot_used, place_read_with_any_default, length_of_classes)

-- and of one that an object is in
pub ruleset object_slots = (slot_of_object, place_read_with_any_default, length_of_classes)

-- the slot of a region that has come into view by a call, of a region in use
pub changed_slot : (slots : List (Option UsedRegion)) (r : ℕ) (f : UsedRegion → UsedRegion) (found new : Option UsedRegion) → r < length slots → found ≡ get_or slots r found → new ≡ option_map f found → new ≡ option_map f (get_or slots r None)
changed_slot slots r f found new lt read is = is ∙ ap (option_map f) (read ∙ place_read_with_any_default slots r found lt)

module _ (slots : List (Option UsedRegion)) (free_classes pool : List ℕ) (capacity start : ℕ) (table : IsRegionTable slots free_classes pool capacity start) (s : RegionPool) (view : seen slots pool start ≡ s) where
  -- an object is changed in its place
  pub object_changed : (at : ObjRef) (f : Object → Object) → IsSome (object_at s.regions at) → (found new : Option UsedRegion) → found ≡ get_or slots at.region found → new ≡ option_map (λ u. changed_at u at.cell f) found → IfSome new (λ u. IsWholeRegion u) → IsRegionTable (set slots at.region new) free_classes pool capacity start × (seen (set slots at.region new) pool start ≡ record s { regions = with_object at f s.regions })
  object_changed at f there found new read is whole =
      let old : Option UsedRegion = get_or slots at.region None in
      let slot : (object_at (map shown_region slots) at ≡ slot_object old at.cell) × IsSome old × (at.region < length slots) = slot_of_object slots at (rw (← view) at there) in
      let now : new ≡ option_map (λ u. changed_at u at.cell f) old = changed_slot slots at.region (λ u. changed_at u at.cell f) found new slot.2 read is in
      let kept = room_kept old at.cell f slot.1 in (
        rw now (table_with_region_of_same_room slots free_classes pool capacity start at.region _ table slot.1 kept.0 (good_region_with_changed_object old at.cell f (table.good at.region) (rw now at whole)) (size_kept (λ u. changed_at u at.cell f) (λ u. refl) old) kept.1),
        rw (← view, now) (ap (with_regions pool start) (sym (shown_regions_with_changed_object slots at f))),
      )

  -- the `pending` bit of a region is written
  pub pending_changed : (r : ℕ) (pending : Bool) → IsSome (used_at s.regions r) → (found new : Option UsedRegion) → found ≡ get_or slots r found → new ≡ option_map (pending_set pending) found → IsRegionTable (set slots r new) free_classes pool capacity start × (seen (set slots r new) pool start ≡ record s { regions = with_pending pending r s.regions })
  pending_changed r pending some found new read is =
      let old : Option UsedRegion = get_or slots r None in
      let slot : (used_at (map shown_region slots) r ≡ old) × (r < length slots) = slot_used slots r (rw (← view) at some) in
      let used : IsSome old = rw (← view, slot.0) at some in
      let now : new ≡ option_map (pending_set pending) old = changed_slot slots r (pending_set pending) found new slot.1 read is in
      let kept = pending_kept old pending used (table.good r) in (
        rw now (table_with_region_of_same_room slots free_classes pool capacity start r _ table used kept.0 kept.1 (size_kept (pending_set pending) (λ u. refl) old) kept.2),
        rw (← view, now) (ap (with_regions pool start) (sym (pending_shown slots r pending))),
      )

  -- the table once a region changed in its place, with its class told anew
  retold : (r : ℕ) (f : UsedRegion → UsedRegion) → ((u : UsedRegion) → (f u).cell_size ≡ u.cell_size) → IsSome (get_or slots r None) → (new : Option UsedRegion) → new ≡ option_map f (get_or slots r None) → IsGood (option_map f (get_or slots r None)) → IsRegionTable (set slots r new) (set free_classes r (free_class_of new)) pool capacity start
  retold r f sizes used new next good =
      let old : Option UsedRegion = get_or slots r None in
      rw next (table_changed slots free_classes pool capacity start table r _ used (mapped_some old f used) good (size_kept f sizes old))

  -- the same with the class as it was, if the region had a free cell and has one
  untold : (r : ℕ) (f : UsedRegion → UsedRegion) → ((u : UsedRegion) → (f u).cell_size ≡ u.cell_size) → IsSome (get_or slots r None) → (new : Option UsedRegion) → new ≡ option_map f (get_or slots r None) → is_none (first_in (get_or slots r None)) ≡ false → is_none (first_in new) ≡ false → IsRegionTable (set slots r new) (set free_classes r (free_class_of new)) pool capacity start → IsRegionTable (set slots r new) free_classes pool capacity start
  untold r f sizes used new next had has t =
      let old : Option UsedRegion = get_or slots r None in
      let size : size_in new ≡ size_in old = ap size_in next ∙ size_kept f sizes old in
      let at : get_or free_classes r 0 ≡ free_class_of old = ap (λ rs. get_or rs r 0) table.told ∙ get_or-map free_class_of slots r None 0 (in_use_within slots r used) in
      let back : set free_classes r (free_class_of new) ≡ free_classes = ap (set free_classes r) (class_kept_by_room old new size had has ∙ sym at) ∙ set-get_or free_classes r 0 in
      subst (λ rs. IsRegionTable (set slots r new) rs pool capacity start) back t

  -- an object is put into the cell that heads its region's free list, which tells whether no cell is free then
  pub object_taken : (at : ObjRef) (o : Object) (n : ℕ) → IsSomeAnd (used_at s.regions at.region) (λ u. (slice_get u.free 0 ≡ Some at.cell) × FitsWords u.cell_size n) → (found new : Option UsedRegion) → found ≡ get_or slots at.region found → new ≡ option_map (λ u. cell_filled u at.cell o) found → IfSome new (λ u. IsWholeRegion u) → (full : Bool) → full ≡ is_none (first_in new)
      → (full ≡ true → IsRegionTable (set slots at.region new) (set free_classes at.region 0) pool capacity start) × (full ≡ false → IsRegionTable (set slots at.region new) free_classes pool capacity start) × (seen (set slots at.region new) pool start ≡ taken at o s)
  object_taken at o n ready found new read is whole full tells =
      let old : Option UsedRegion = get_or slots at.region None in
      let need = rw (← view, used_region_is_slot slots at.region) at ready in
      let used : IsSome old = slot_with_property_is_used _ _ need in
      let next : new ≡ option_map (λ u. cell_filled u at.cell o) old = changed_slot slots at.region (λ u. cell_filled u at.cell o) found new (in_use_within slots at.region used) read is in
      let good : IsGood (option_map (λ u. cell_filled u at.cell o) old) = good_region_with_taken_cell old at.cell n o (table.good at.region) (take_ready old at.cell n need) (rw next at whole) in
      let t : IsRegionTable (set slots at.region new) (set free_classes at.region (free_class_of new)) pool capacity start = retold at.region (λ u. cell_filled u at.cell o) (λ u. refl) used new next good in (
        (λ yes. subst (λ k. IsRegionTable (set slots at.region new) (set free_classes at.region k) pool capacity start) (class_without_room new (sym tells ∙ yes)) t),
        (λ no. untold at.region (λ u. cell_filled u at.cell o) (λ u. refl) used new next (headed_region_has_room old at.cell n need) (sym tells ∙ no) t),
        rw (← view, next) (sym (shown_regions_with_taken_cell slots pool start at o)),
      )

  -- an object leaves its cell, and another stays in the region, which tells whether no cell was free before
  pub object_freed : (at b : ObjRef) → IsSome (object_at s.regions at) → b.region ≡ at.region → b ≢ at → IsSome (object_at s.regions b) → (found new : Option UsedRegion) → found ≡ get_or slots at.region found → new ≡ option_map (λ u. cell_freed u at.cell) found → IfSome new (λ u. IsWholeRegion u) → (full : Bool) → full ≡ is_none (first_in found)
      → ((now : Option UsedRegion) → now ≡ get_or (set slots at.region new) at.region now → IsRegionTable (set slots at.region new) (set free_classes at.region (free_class_of now)) pool capacity start) × (full ≡ false → IsRegionTable (set slots at.region new) free_classes pool capacity start) × (seen (set slots at.region new) pool start ≡ freed at s)
  object_freed at b there beside other stays found new read is whole full tells =
      let old : Option UsedRegion = get_or slots at.region None in
      let slot : (object_at (map shown_region slots) at ≡ slot_object old at.cell) × IsSome old × (at.region < length slots) = slot_of_object slots at (rw (← view) at there) in
      let was : found ≡ old = read ∙ place_read_with_any_default slots at.region found slot.2 in
      let next : new ≡ option_map (λ u. cell_freed u at.cell) old = changed_slot slots at.region (λ u. cell_freed u at.cell) found new slot.2 read is in
      let there_too : IsSome (slot_object (get_or slots b.region None) b.cell) = rw (← view, object_shown slots b) at stays in
      let kept : IsSome (slot_object old b.cell) = subst (λ k. IsSome (slot_object (get_or slots k None) b.cell)) beside there_too in
      let good : IsGood (option_map (λ u. cell_freed u at.cell) old) = good_region_with_freed_cell old at.cell b.cell (λ e. other (λ k. record { region = beside k; cell = e k })) kept (rw next at whole) in
      let t : IsRegionTable (set slots at.region new) (set free_classes at.region (free_class_of new)) pool capacity start = retold at.region (λ u. cell_freed u at.cell) (λ u. refl) slot.1 new next good in (
        (λ now again. subst (λ x. IsRegionTable (set slots at.region new) (set free_classes at.region (free_class_of x)) pool capacity start) (sym (again ∙ get_or-set_same slots at.region new now slot.2)) t),
        (λ no. untold at.region (λ u. cell_freed u at.cell) (λ u. refl) slot.1 new next (ap (λ x. is_none (first_in x)) (sym was) ∙ (sym tells ∙ no)) (ap (λ x. is_none (first_in x)) next ∙ freed_region_has_room old at.cell slot.1) t),
        rw (← view, next) (sym (freed_shown slots pool start at)),
      )
