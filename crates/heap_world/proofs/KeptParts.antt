-- What the fields of a heap hold stays as it must.
use Rattle.std.proofs.Common.{◌≡◌, ℕ, ◌*◌, ◌≤◌, Bool, true, false, length, sym, subst, ◌∙◌, arith}
use Rattle.heap_class.specs.declared.ObjRef.{ObjRef}
use Rattle.heap_region.specs.Regions.{Object, with_region, with_word}
use Rattle.heap_region.specs.Pool.{RegionPool, taken, restored, freed, released, allocated, unallocated}
use Rattle.heap_region.proofs.UpdatedLists.{length_updated}
use Rattle.heap_region.proofs.References.{length_set}
use Rattle.heap_world.specs.State.{HeapState, with_pool}
use Rattle.heap_world.specs.Legal.{IsLegal}
use Rattle.heap_mark.specs.Marker.{cells_each}
use Rattle.heap_world.specs.HeapParts.{IsSoundHeap}
use Rattle.heap_world.proofs.WordWrites.{word_write_keeps_region_count}

-- ---- as many regions

pub taking_keeps_region_count : (at : ObjRef) (o : Object) (s : RegionPool) → length (taken at o s).regions ≡ length s.regions
unfolding taken with_region
taking_keeps_region_count at o s = length_updated at.region _ s.regions

pub length_allocated : (at : ObjRef) (fresh : Bool) (o : Object) (s : RegionPool) → length (allocated at fresh o s).regions ≡ length s.regions
unfolding allocated restored
length_allocated at true o s = taking_keeps_region_count at o _ ∙ length_set s.regions at.region _
length_allocated at false o s = taking_keeps_region_count at o s

pub length_unallocated : (at : ObjRef) (fresh : Bool) (s : RegionPool) → length (unallocated at fresh s).regions ≡ length s.regions
unfolding unallocated released freed with_region
length_unallocated at true s = length_set s.regions at.region _
length_unallocated at false s = length_updated at.region _ s.regions

same_room : (v w : HeapState) (room : ℕ) → IsSoundHeap w room → length v.regions ≡ length w.regions → cells_each * length v.regions ≤ room
same_room v w room h e = omega (arith, h.ids, e)

-- a legal state of as many regions may be held
pub legal_state_of_room_is_sound : (v w : HeapState) (room : ℕ) → IsSoundHeap w room → IsLegal v → length v.regions ≡ length w.regions → IsSoundHeap v room
legal_state_of_room_is_sound v w room h l e = record { legal = l; ids = same_room v w room h e }

-- ---- a word is written

-- ---- what was done is undone

pub word_held : (w v : HeapState) (slot word room : ℕ) (at : ObjRef) (s : RegionPool) → IsSoundHeap w room → w ≡ v → s ≡ record { regions = with_word at slot word w.regions; pool = w.pool; area_start = w.area_start } → IsLegal (record v { regions = with_word at slot word v.regions }) → IsSoundHeap (with_pool s w) room
word_held w v slot word room at s h e f l = subst (λ (t : RegionPool). IsSoundHeap (with_pool t w) room) (sym f)
    (legal_state_of_room_is_sound (record w { regions = with_word at slot word w.regions }) w room h
    (subst (λ (u : HeapState). IsLegal (record u { regions = with_word at slot word u.regions })) (sym e) l) (word_write_keeps_region_count w.regions at slot word))
