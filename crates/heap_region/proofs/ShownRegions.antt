-- What is found in the regions that a table shows, and how a change of the table changes them.
use Rattle.std.proofs.Common.{◌≡◌, ℕ, zero, suc, ◌<◌, Bool, List, length, [], ◌∷◌, map, Option, Some, None, IsSome, IfSome, option_map, get_or, set, refl, sym, ap, subst, ◌∙◌, rules}
use Rattle.std.specs.Prelude.{nat_lt, slice_get, option_and_then, drop, if◌then◌else◌}
use Rattle.std.proofs.lemmas.List.{map-set}
use Rattle.heap_class.specs.declared.ObjRef.{ObjRef}
use Rattle.heap_region.specs.Regions.{Object, UsedRegion, Region, used_part, used_at, object_at, updated, in_used, with_region, with_object, cell_object, slot_object}
use Rattle.heap_region.specs.Changes.{with_pending}
use Rattle.heap_region.specs.Pool.{RegionPool, taken, freed, released, restored, cell_freed}
use Rattle.heap_region.specs.Layout.{words_of, changed_at, cell_filled, pending_set}
use Rattle.heap_region.specs.Live.{cells_of}
use Rattle.heap_region.specs.Table.{shown_region}

-- an item of a list, by either word
pub joined_option_is_get_or : {X : Type 0} (xs : List (Option X)) (i : ℕ) → option_and_then (λ (x : Option X). x) (slice_get xs i) ≡ get_or xs i None
joined_option_is_get_or [] i = refl
joined_option_is_get_or (x ∷ xs) zero = refl
joined_option_is_get_or (x ∷ xs) (suc i) = joined_option_is_get_or xs i

pub shown_region_at_slot : (slots : List (Option UsedRegion)) (r : ℕ) → slice_get (map shown_region slots) r ≡ option_map shown_region (slice_get slots r)
shown_region_at_slot [] r = refl
shown_region_at_slot (s ∷ slots) zero = refl
shown_region_at_slot (s ∷ slots) (suc r) = shown_region_at_slot slots r

used_part_of_shown_region : (s : Option UsedRegion) → used_part (shown_region s) ≡ s
used_part_of_shown_region None = refl
used_part_of_shown_region (Some u) = refl

-- a region in use
pub used_region_is_slot : (slots : List (Option UsedRegion)) (r : ℕ) → used_at (map shown_region slots) r ≡ get_or slots r None
unfolding used_at
used_region_is_slot [] r = refl
used_region_is_slot (s ∷ slots) zero = used_part_of_shown_region s
used_region_is_slot (s ∷ slots) (suc r) = used_region_is_slot slots r

pub slot_of_object_is_used : (s : Option UsedRegion) (cell : ℕ) → IsSome (slot_object s cell) → IsSome s
slot_of_object_is_used None cell some = some
slot_of_object_is_used (Some r) cell some = search rules

-- an object of a region that is in use or not
pub object_of_used : (regions : List Region) (at : ObjRef) → object_at regions at ≡ slot_object (used_at regions at.region) at.cell
unfolding object_at
object_of_used regions at = go (used_at regions at.region)
  where
    go : (s : Option UsedRegion) → option_and_then (λ (u : UsedRegion). option_and_then (λ (o : Option Object). o) (slice_get u.cells at.cell)) s ≡ slot_object s at.cell
    go None = refl
    go (Some u) = joined_option_is_get_or u.cells at.cell

pub object_shown : (slots : List (Option UsedRegion)) (at : ObjRef) → object_at (map shown_region slots) at ≡ slot_object (get_or slots at.region None) at.cell
object_shown slots at = object_of_used (map shown_region slots) at ∙ ap (λ s. slot_object s at.cell) (used_region_is_slot slots at.region)

-- an object of a region that is known
pub object_here : (regions : List Region) (at : ObjRef) (u : UsedRegion) → used_at regions at.region ≡ Some u → object_at regions at ≡ cell_object u at.cell
object_here regions at u used = object_of_used regions at ∙ ap (λ s. slot_object s at.cell) used

-- a region with an object is in use
pub used_by_object : (regions : List Region) (at : ObjRef) → IsSome (object_at regions at) → IsSome (used_at regions at.region)
used_by_object regions at some = slot_of_object_is_used (used_at regions at.region) at.cell (subst IsSome (object_of_used regions at) some)

-- a region that is changed
change_of_shown_region : (f : UsedRegion → UsedRegion) (s : Option UsedRegion) → in_used f (shown_region s) ≡ shown_region (option_map f s)
unfolding in_used
change_of_shown_region f None = refl
change_of_shown_region f (Some u) = refl

pub shown_regions_with_one_changed : (slots : List (Option UsedRegion)) (r : ℕ) (f : UsedRegion → UsedRegion) → with_region r f (map shown_region slots) ≡ map shown_region (set slots r (option_map f (get_or slots r None)))
unfolding with_region updated
shown_regions_with_one_changed [] r f = refl
shown_regions_with_one_changed (s ∷ slots) zero f = ap (λ x. x ∷ map shown_region slots) (change_of_shown_region f s)
shown_regions_with_one_changed (s ∷ slots) (suc r) f = ap (λ xs. shown_region s ∷ xs) (shown_regions_with_one_changed slots r f)

-- a cell that is changed
pub updated_cells : (cell : ℕ) (f : Object → Object) (cells : List (Option Object)) → updated cell (option_map f) cells ≡ set cells cell (option_map f (get_or cells cell None))
unfolding updated
updated_cells cell f [] = refl
updated_cells zero f (x ∷ cells) = refl
updated_cells (suc cell) f (x ∷ cells) = ap (λ xs. x ∷ xs) (updated_cells cell f cells)

-- no region in use, no object
pub unused_region_has_no_object : (regions : List Region) (at : ObjRef) → used_at regions at.region ≡ None → object_at regions at ≡ None
unused_region_has_no_object regions at unused = object_of_used regions at ∙ ap (λ s. slot_object s at.cell) unused

-- the cells of a region that is known
pub cells_here : (regions : List Region) (r : ℕ) (u : UsedRegion) → used_at regions r ≡ Some u → cells_of (used_at regions r) ≡ u.cells
cells_here regions r u used = ap cells_of used

-- ---- an object that is known to be there

pub length_of_known_words : (o : Option Object) (n : ℕ) → n ≡ length (words_of o) → IfSome o (λ o. n ≡ length o.words)
length_of_known_words None n e = tt
length_of_known_words (Some o) n e = e

pub slot_known : (o : Option Object) (slot : ℕ) → IsSome o → IfSome o (λ o. slot < length o.words) → slot < length (words_of o)
slot_known None slot some lt = absurd (cc)
slot_known (Some o) slot some lt = lt

pub word_known : (o : Option Object) (slot w : ℕ) → w ≡ get_or (words_of o) slot 0 → IfSome o (λ o. w ≡ get_or o.words slot 0)
word_known None slot w e = tt
word_known (Some o) slot w e = e

-- what a call finds of an object and of its region
pub ruleset object_lookups = (used_by_object, object_here, length_of_known_words, slot_known, word_known)

-- ---- a change of one region

-- the regions with this pool and this area
abbrev pub with_regions : List ℕ → ℕ → List Region → RegionPool
with_regions pool start regions = record { regions = regions; pool = pool; area_start = start }

-- the regions that these slots show, with their pool and their area
abbrev pub seen : List (Option UsedRegion) → List ℕ → ℕ → RegionPool
seen slots pool start = with_regions pool start (map shown_region slots)

pub shown_regions_with_taken_cell : (slots : List (Option UsedRegion)) (pool : List ℕ) (start : ℕ) (at : ObjRef) (o : Object) → taken at o (seen slots pool start) ≡ seen (set slots at.region (option_map (λ u. cell_filled u at.cell o) (get_or slots at.region None))) pool start
unfolding taken
shown_regions_with_taken_cell slots pool start at o = ap (with_regions pool start) (shown_regions_with_one_changed slots at.region (λ u. cell_filled u at.cell o))

pub freed_shown : (slots : List (Option UsedRegion)) (pool : List ℕ) (start : ℕ) (at : ObjRef) → freed at (seen slots pool start) ≡ seen (set slots at.region (option_map (λ u. cell_freed u at.cell) (get_or slots at.region None))) pool start
unfolding freed
freed_shown slots pool start at = ap (with_regions pool start) (shown_regions_with_one_changed slots at.region (λ u. cell_freed u at.cell))

pub released_shown : (slots : List (Option UsedRegion)) (pool : List ℕ) (start r : ℕ) → released r (seen slots pool start) ≡ seen (set slots r None) (if nat_lt r start then r ∷ pool else pool) start
unfolding released
released_shown slots pool start r = ap (with_regions (if nat_lt r start then r ∷ pool else pool) start) (sym (map-set shown_region slots r None))

pub restored_shown : (slots : List (Option UsedRegion)) (pool : List ℕ) (start r : ℕ) (u : UsedRegion) → restored r u (seen slots pool start) ≡ seen (set slots r (Some u)) (if nat_lt r start then drop 1 pool else pool) start
unfolding restored
restored_shown slots pool start r u = ap (with_regions (if nat_lt r start then drop 1 pool else pool) start) (sym (map-set shown_region slots r (Some u)))

pub shown_regions_with_changed_object : (slots : List (Option UsedRegion)) (at : ObjRef) (f : Object → Object) → with_object at f (map shown_region slots) ≡ map shown_region (set slots at.region (option_map (λ u. changed_at u at.cell f) (get_or slots at.region None)))
unfolding with_object
shown_regions_with_changed_object slots at f =
    shown_regions_with_one_changed slots at.region (λ u. record u { cells = updated at.cell (option_map f) u.cells })
    ∙ ap (λ s. map shown_region (set slots at.region s)) (go (get_or slots at.region None))
  where
    go : (s : Option UsedRegion) → option_map {T = UsedRegion} (λ u. record u { cells = updated at.cell (option_map f) u.cells }) s ≡ option_map (λ u. changed_at u at.cell f) s
    go None = refl
    go (Some u) = ap (λ cs. Some (record u { cells = cs })) (updated_cells at.cell f u.cells)

pub pending_shown : (slots : List (Option UsedRegion)) (r : ℕ) (pending : Bool) → with_pending pending r (map shown_region slots) ≡ map shown_region (set slots r (option_map (pending_set pending) (get_or slots r None)))
unfolding with_pending
pending_shown slots r pending = shown_regions_with_one_changed slots r (pending_set pending)
