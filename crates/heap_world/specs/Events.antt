-- For each event, its refusal, and the state after it if it is accepted.
use Rattle.std.specs.Prelude.{◌≡◌, ◌<◌, ℕ, Bool, true, false, not, ◌-◌, ◌&&◌, ◌==◌, nat_lt, nat_le, List, [], ◌∷◌, ◌++◌, length, take, replicate, Option, Some, is_none, Result, IfOk, OnOk, OnErr, IsTrue, if◌then◌else◌}
use Rattle.std.specs.Option.{option_map_or}
use Rattle.heap_class.specs.declared.Kind.{Kind}
use Rattle.heap_class.specs.declared.Refusal.{Refusal}
use Rattle.heap_class.specs.declared.Refusal.TheVariants.{NoClass, BadRegister, NullRegister, BadSlot, WrongKind, OutOfRange, TooLarge, HeapFull}
use Rattle.heap_class.specs.declared.ObjKind.{ObjKind}
use Rattle.heap_class.specs.declared.ObjRef.{ObjRef}
use Rattle.heap_class.specs.Kinds.{is_reference, value_limit}
use Rattle.heap_class.specs.Limits.{large_array_limit}
use Rattle.heap_class.specs.Refusals.{first_refusal, IsAnswered}
use Rattle.heap_class.specs.Classes.{Class, class_refusal, is_instance_class, is_array_class, slots_of}
use Rattle.heap_region.specs.Regions.{Object, with_word, id_of}
use Rattle.heap_region.specs.Pool.{is_fresh, new_place, allocated}
use Rattle.heap_mark.specs.MarkSteps.{is_marking, logged, snapped, marked, drained_once, finished}
use Rattle.heap_sweep.specs.Sweep.{swept}
use Rattle.heap_world.specs.declared.Created.{Created}
use Rattle.heap_world.specs.State.{HeapState, pool_of, with_pool, marking_of, with_marking, is_register, register, with_register, place_of, slot_kind, word_of}

-- the state after a class is defined
unfoldable pub after_class : Class → HeapState → HeapState
after_class c w = record w { classes = w.classes ++ c ∷ [] }

-- a call that defines this class, unless it is refused, had this result
pub record IsNewClass (c : Class) (before after : HeapState) (result : Result ℕ Refusal)
    : Type 0 where
  pub answered : IsAnswered (class_refusal before.limits.classes before.classes c) true result
  pub defined : OnOk result (after ≡ after_class c before)
  pub number : IfOk result (λ k. k ≡ length before.classes)
  pub unchanged : OnErr result (after ≡ before)

-- ---- a new object in a register

-- a new object: its slots are 0, it is live, and it is marked exactly if a cycle runs
unfoldable pub new_object : ObjKind → ℕ → HeapState → Object
new_object kind n w =
    record { kind = kind; words = replicate n 0; live = true; mark = is_marking w.phase }

-- the state after a new object of n slots is put in register r of mutator m; unchanged if the heap is full
unfoldable pub after_new : ℕ → ℕ → ObjKind → ℕ → HeapState → HeapState
after_new m r kind n w =
    option_map_or
    (λ p. let s = allocated p.0 p.1 (new_object kind n w) (pool_of w) in
    with_register m r (id_of s.regions p.0) (with_pool s w)) (new_place n (pool_of w)) w

-- whether there is no place for an object of n slots
unfoldable pub is_full : ℕ → HeapState → Bool
is_full n w = is_none (new_place n (pool_of w))

-- a call that makes an object of n slots in register r of mutator m, unless there is this refusal, had this result
pub record IsNewObject (m r : ℕ) (kind : ObjKind) (n : ℕ) (refusal : Option Refusal)
    (before after : HeapState) (result : Result Created Refusal) : Type 0 where
  pub answered : IsAnswered refusal (is_fresh n (pool_of before)) result
  pub made : OnOk result (after ≡ after_new m r kind n before)
  pub placed : IfOk result (λ c. new_place n (pool_of before) ≡ Some (c.at, c.fresh))
  pub held : IfOk result (λ c. (c.id ≡ register after m r) × (c.old ≡ register before m r))
  pub in_register : OnOk result (IsTrue (is_register before m r))
  pub unchanged : OnErr result (after ≡ before)

-- the refusal of a new instance, or None if it is accepted
unfoldable pub new_refusal : ℕ → ℕ → ℕ → HeapState → Option Refusal
new_refusal m r class w = first_refusal
    ((not (is_register w m r), BadRegister)
    ∷ (nat_le (length w.classes) class, NoClass)
    ∷ (not (is_instance_class w.classes class), WrongKind)
    ∷ (is_full (length (slots_of w.classes class)) w, HeapFull)
    ∷ [])

-- the refusal of a new object array, or None if it is accepted
unfoldable pub new_array_refusal : ℕ → ℕ → ℕ → ℕ → HeapState → Option Refusal
new_array_refusal m r class len w = first_refusal
    ((not (is_register w m r), BadRegister)
    ∷ (nat_le (length w.classes) class, NoClass)
    ∷ (not (is_array_class w.classes class), WrongKind)
    ∷ (nat_lt w.limits.elements len, TooLarge)
    ∷ (is_full len w, HeapFull)
    ∷ [])

-- the refusal of a new array of values, or None if it is accepted
unfoldable pub new_prim_refusal : ℕ → ℕ → Kind → ℕ → HeapState → Option Refusal
new_prim_refusal m r kind len w = first_refusal
    ((not (is_register w m r), BadRegister)
    ∷ (is_reference kind, WrongKind)
    ∷ (nat_lt w.limits.elements len, TooLarge)
    ∷ (is_full len w, HeapFull)
    ∷ [])

-- ---- slots of the object that an id names

-- whether the object x has no such slot
unfoldable pub lacks_slot : HeapState → ℕ → ℕ → Bool
lacks_slot w x slot = is_none (slot_kind w x slot)

-- whether the object x has such a slot, of kind Object
unfoldable pub is_reference_slot : HeapState → ℕ → ℕ → Bool
is_reference_slot w x slot = option_map_or is_reference (slot_kind w x slot) false

-- a slot of the object that a register names: its place and its word
pub record IsSlotAt (w : HeapState) (m target slot : ℕ) (at : ObjRef) (word : ℕ) : Type 0 where
  pub placed : at ≡ place_of w (register w m target)
  pub held : word ≡ word_of w (register w m target) slot
  pub within : slot < large_array_limit

-- the refusal of a load, or None if it is accepted
unfoldable pub load_refusal : ℕ → ℕ → ℕ → ℕ → HeapState → Option Refusal
load_refusal m to from slot w = first_refusal
    ((not (is_register w m to && is_register w m from), BadRegister)
    ∷ (register w m from == 0, NullRegister)
    ∷ (lacks_slot w (register w m from) slot, BadSlot)
    ∷ [])

-- the state after a load: a reference goes to the register, and a value changes nothing
unfoldable pub after_load : ℕ → ℕ → ℕ → ℕ → HeapState → HeapState
after_load m to from slot w =
    let x = register w m from in
    if is_reference_slot w x slot then with_register m to (word_of w x slot) w else w

-- the refusal of a store, or None if it is accepted
unfoldable pub store_refusal : ℕ → ℕ → ℕ → ℕ → HeapState → Option Refusal
store_refusal m target slot source w = first_refusal
    ((not (is_register w m target && is_register w m source), BadRegister)
    ∷ (register w m target == 0, NullRegister)
    ∷ (lacks_slot w (register w m target) slot, BadSlot)
    ∷ (not (is_reference_slot w (register w m target) slot), WrongKind)
    ∷ [])

-- whether a write to the slot of the object x logs the old word: a cycle runs, and the word isn't null
unfoldable pub is_logged : HeapState → ℕ → ℕ → Bool
is_logged w x slot = is_marking w.phase && not (word_of w x slot == 0)

-- the list without its last item
unfoldable pub without_last : List ℕ → List ℕ
without_last xs = take (length xs - 1) xs

-- the state with this word in a slot of the object x
unfoldable pub with_slot : ℕ → ℕ → ℕ → HeapState → HeapState
with_slot x slot word w = record w { regions = with_word (place_of w x) slot word w.regions }

-- the state after a store: the barrier logs the old word, and the slot has the word of the register
unfoldable pub after_store : ℕ → ℕ → ℕ → ℕ → HeapState → HeapState
after_store m target slot source w =
    let x = register w m target in
    with_slot x slot (register w m source)
    (with_marking (logged (word_of w x slot) (marking_of w)) w)

-- the refusal of a put, or None if it is accepted
unfoldable pub put_refusal : ℕ → ℕ → ℕ → ℕ → HeapState → Option Refusal
put_refusal m target slot value w = first_refusal
    ((not (is_register w m target), BadRegister)
    ∷ (register w m target == 0, NullRegister)
    ∷ (lacks_slot w (register w m target) slot, BadSlot)
    ∷ (is_reference_slot w (register w m target) slot, WrongKind)
    ∷ (
      option_map_or (λ k. nat_le (value_limit k) value) (slot_kind w (register w m target) slot)
          false,
      OutOfRange,
    )
    ∷ [])

-- the state after a put: the slot has the value
unfoldable pub after_put : ℕ → ℕ → ℕ → ℕ → HeapState → HeapState
after_put m target slot value w = with_slot (register w m target) slot value w

-- ---- registers

-- the refusal of a move, or None if it is accepted
unfoldable pub move_refusal : ℕ → ℕ → ℕ → ℕ → HeapState → Option Refusal
move_refusal m to from_m from w =
    first_refusal ((not (is_register w m to && is_register w from_m from), BadRegister) ∷ [])

-- the state after a move: the register has the word of the other
unfoldable pub after_move : ℕ → ℕ → ℕ → ℕ → HeapState → HeapState
after_move m to from_m from w = with_register m to (register w from_m from) w

-- the refusal of a clear, or None if it is accepted
unfoldable pub clear_refusal : ℕ → ℕ → HeapState → Option Refusal
clear_refusal m r w = first_refusal ((not (is_register w m r), BadRegister) ∷ [])

-- ---- the marker and the sweeper

-- the state after a snap, with the registers as roots
unfoldable pub after_snap : HeapState → HeapState
after_snap w = with_marking (snapped w.registers (marking_of w)) w

-- the state after a mark
unfoldable pub after_mark : HeapState → HeapState
after_mark w = with_marking (marked w.classes (marking_of w)) w

-- the state after a drain
unfoldable pub after_drain : HeapState → HeapState
after_drain w = with_marking (drained_once (marking_of w)) w

-- the state after a finish
unfoldable pub after_finish : HeapState → HeapState
after_finish w = with_marking (finished (marking_of w)) w

-- the state after a sweep of this region
unfoldable pub after_sweep : ℕ → HeapState → HeapState
after_sweep region w = with_pool (swept region (pool_of w)) w
