-- A new object is undone.
use Rattle.std.proofs.Common.{Bool, None, Option, Some, false, refl, ℕ, ◌*◌, ◌+◌, ◌∙◌, ◌≡◌}
use Rattle.std.proofs.lemmas.List.{set-get_or, set-set}
use Rattle.std.specs.Option.{option_map_or}
use Rattle.std.specs.Prelude.{is_none}
use Rattle.heap_class.proofs.Lists.{got_is_in}
use Rattle.heap_class.specs.declared.ObjKind.{ObjKind}
use Rattle.heap_class.specs.declared.ObjRef.{ObjRef}
use Rattle.heap_region.proofs.Good.{pool_is_empty}
use Rattle.heap_region.proofs.Places.{HeadIsEmpty, PoolIsEmpty, allocated_back}
use Rattle.heap_region.specs.Pool.{RegionPool, allocated, new_place, unallocated}
use Rattle.heap_region.specs.Regions.{Object, id_of}
use Rattle.heap_world.specs.Events.{after_new, is_full, new_object}
use Rattle.heap_world.specs.Legal.{IsLegal}
use Rattle.heap_world.specs.State.{HeapState, pool_of, register, with_pool, with_register}
use Rattle.heap_step.specs.Apply.{new_record, reg_record}
use Rattle.heap_step.specs.Records.{undone}
use Rattle.heap_step.specs.declared.Undo.{Undo}

-- the cell at the head of a free list of a legal heap is empty
pub free_list_head_is_empty : (w : HeapState) → IsLegal w → (at : ObjRef) → HeadIsEmpty (pool_of w) at
free_list_head_is_empty w legal at = λ u used head. ((legal.regions.tables at.region u used).free.each at.cell).0 (got_is_in u.free 0 at.cell head)

-- the region that a new object of a legal heap gets is empty
pub pool_empty : (w : HeapState) → IsLegal w → (at : ObjRef) → PoolIsEmpty (pool_of w) at
pool_empty w legal at = pool_is_empty (pool_of w) at legal.regions

-- of a legal heap, the allocation of a new object is undone
pool_back : (w : HeapState) → IsLegal w → (n : ℕ) (at : ObjRef) (fresh : Bool) (o : Object) → new_place n (pool_of w) ≡ Some (at, fresh) → unallocated at fresh (allocated at fresh o (pool_of w)) ≡ pool_of w
pool_back w legal n at fresh o place = allocated_back at fresh o (pool_of w) n place (free_list_head_is_empty w legal at) (pool_empty w legal at)

-- whatever its kind and its number of slots
pub created_back : (w : HeapState) (m r n : ℕ) (kind : ObjKind) → IsLegal w → is_full n w ≡ false → undone (new_record m r n w) (after_new m r kind n w) ≡ w
unfolding undone new_record reg_record after_new is_full
created_back w m r n kind legal room = go (new_place n (pool_of w)) (pool_back w legal n) room
  where
    go : (p : Option (ObjRef × Bool)) → ((at : ObjRef) (fresh : Bool) (o : Object) → p ≡ Some (at, fresh) → unallocated at fresh (allocated at fresh o (pool_of w)) ≡ pool_of w) → is_none p ≡ false
        → undone (option_map_or (λ (p : ObjRef × Bool). Undo.New p.0 p.1 m r (register w m r)) p (reg_record m r w)) (option_map_or (λ (p : ObjRef × Bool). let s : RegionPool = allocated p.0 p.1 (new_object kind n w) (pool_of w) in with_register m r (id_of s.regions p.0) (with_pool s w)) p w) ≡ w
    go None back h = cc
    go (Some p) back h =
        let e : unallocated p.0 p.1 (allocated p.0 p.1 (new_object kind n w) (pool_of w)) ≡ pool_of w = back p.0 p.1 (new_object kind n w) refl in
        λ i. record w { regions = (e i).regions; pool = (e i).pool; area_start = (e i).area_start; registers = (set-set w.registers (8 * m + r) (id_of (allocated p.0 p.1 (new_object kind n w) (pool_of w)).regions p.0) (register w m r) ∙ set-get_or w.registers (8 * m + r) 0) i }
