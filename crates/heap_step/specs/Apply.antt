-- The effect of an event: one table, with a block for each event.
use Rattle.std.specs.Prelude.{ℕ, ◌+◌, ◌-◌, Bool, true, false, ◌==◌, length, slice_index, unwrap_or, Option, Some, None, Result, Ok, Err, if◌then◌else◌}
use Rattle.std.specs.Option.{option_map_or}
use Rattle.heap_class.specs.declared.Refusal.{Refusal}
use Rattle.heap_class.specs.declared.ObjKind.{ObjKind}
use Rattle.heap_class.specs.declared.ObjKind.TheVariants.{Instance, Array, Prim}
use Rattle.heap_class.specs.Classes.{class_refusal, instance_class, array_class, slots_of}
use Rattle.heap_region.specs.Regions.{used_at}
use Rattle.heap_region.specs.Pool.{is_fresh, new_place, fresh_region}
use Rattle.heap_mark.specs.MarkSteps.{snap_refusal, mark_refusal, drain_refusal, finish_refusal, dead_count}
use Rattle.heap_sweep.specs.Sweep.{sweep_refusal, dead_at, is_emptied, copies_dead}
use Rattle.heap_world.specs.State.{HeapState, pool_of, marking_of, register, with_register, place_of, word_of}
use Rattle.heap_world.specs.Events.{after_class, after_new, new_refusal, new_array_refusal, new_prim_refusal, is_reference_slot, load_refusal, after_load, is_logged, store_refusal, after_store, put_refusal, after_put, move_refusal, after_move, clear_refusal, after_snap, after_mark, after_drain, after_finish, after_sweep}
use Rattle.heap_step.specs.declared.Event.{Event}
use Rattle.heap_step.specs.declared.Answer.{Answer}
use Rattle.heap_step.specs.declared.Answer.TheVariants.{Object, Null, Value, Done, Pushed, Condemned, Swept}
use Rattle.heap_step.specs.declared.Undo.{Undo}

-- what an event does to the heap
pub record EventModel : Type 0 where
  -- the refusal, or None if the event is accepted
  pub refusal : HeapState → Option Refusal
  -- the state after the accepted event
  pub after : HeapState → HeapState
  -- the answer of the accepted event, from the states before and after it
  pub answer : HeapState → HeapState → Answer
  -- the record that the accepted event leaves
  pub left : HeapState → Undo
  -- whether the event may take memory
  pub may_grow : HeapState → Bool

-- a reference as an answer
unfoldable pub object_or_null : ℕ → Answer
object_or_null x = if x == 0 then Null else Object x

-- the record of a register, with its old word
unfoldable pub reg_record : ℕ → ℕ → HeapState → Undo
reg_record m r w = Undo.Reg m r (register w m r)

-- the record of a new object of n slots, with its place and its register's old word
unfoldable pub new_record : ℕ → ℕ → ℕ → HeapState → Undo
new_record m r n w =
    option_map_or (λ p. Undo.New p.0 p.1 m r (register w m r)) (new_place n (pool_of w))
    (reg_record m r w)

-- the record of a sweep: the region if it is emptied, else its dead objects
unfoldable pub sweep_record : ℕ → HeapState → Undo
sweep_record region w =
    if is_emptied region (pool_of w)
    then Undo.Reclaim region (unwrap_or (used_at w.regions region) (fresh_region 4))
    else Undo.Sweep region (dead_at region (pool_of w))

-- the effect of an event that makes an object of n slots in register r of mutator m, or the refusal if there is one
abbrev pub creation : ℕ → ℕ → ObjKind → (HeapState → ℕ) → (HeapState → Option Refusal) → EventModel
creation m r kind len refusal = record {
  refusal = refusal;
  after = λ w. after_new m r kind (len w) w;
  answer = λ w v. Object (register v m r);
  left = λ w. new_record m r (len w) w;
  may_grow = λ w. is_fresh (len w) (pool_of w);
}

-- what each event does
abbrev pub model_of : Event → EventModel
model_of (Event.Class name sup fields) = record {
  refusal = λ w. class_refusal w.limits.classes w.classes (instance_class name sup fields);
  after = λ w. after_class (instance_class name sup fields) w;
  answer = λ w v. Answer.Class (length w.classes);
  left = λ w. Undo.Class;
  may_grow = λ w. true;
}
model_of (Event.ArrayClass name) = record {
  refusal = λ w. class_refusal w.limits.classes w.classes (array_class name);
  after = λ w. after_class (array_class name) w;
  answer = λ w v. Answer.Class (length w.classes);
  left = λ w. Undo.Class;
  may_grow = λ w. true;
}
model_of (Event.New m r class) =
    creation m r (Instance class) (λ w. length (slots_of w.classes class)) (new_refusal m r class)
model_of (Event.NewArray m r class len) =
    creation m r (Array class) (λ w. len) (new_array_refusal m r class len)
model_of (Event.NewPrim m r kind len) =
    creation m r (Prim kind) (λ w. len) (new_prim_refusal m r kind len)
model_of (Event.Load m to from slot) = record {
  refusal = λ w. load_refusal m to from slot w;
  after = λ w. after_load m to from slot w;
  answer = λ w v.
      let x = register w m from in
      if is_reference_slot w x slot then object_or_null (word_of w x slot)
      else Value (word_of w x slot);
  left = λ w. reg_record m to w;
  may_grow = λ w. false;
}
model_of (Event.Store m target slot source) = record {
  refusal = λ w. store_refusal m target slot source w;
  after = λ w. after_store m target slot source w;
  answer = λ w v. Done;
  left = λ w.
      let x = register w m target in
      Undo.Store (place_of w x) slot (word_of w x slot) (is_logged w x slot);
  may_grow = λ w. is_logged w (register w m target) slot;
}
model_of (Event.Put m target slot value) = record {
  refusal = λ w. put_refusal m target slot value w;
  after = λ w. after_put m target slot value w;
  answer = λ w v. Done;
  left = λ w. let x = register w m target in Undo.Put (place_of w x) slot (word_of w x slot);
  may_grow = λ w. false;
}
model_of (Event.Move m to from_m from) = record {
  refusal = λ w. move_refusal m to from_m from w;
  after = λ w. after_move m to from_m from w;
  answer = λ w v. Done;
  left = λ w. reg_record m to w;
  may_grow = λ w. false;
}
model_of (Event.Clear m r) = record {
  refusal = λ w. clear_refusal m r w;
  after = λ w. with_register m r 0 w;
  answer = λ w v. Done;
  left = λ w. reg_record m r w;
  may_grow = λ w. false;
}
model_of Event.Snap = record {
  refusal = λ w. snap_refusal (marking_of w);
  after = λ w. after_snap w;
  answer = λ w v. Pushed (length v.gray);
  left = λ w. Undo.Snap;
  may_grow = λ w. false;
}
model_of Event.Mark = record {
  refusal = λ w. mark_refusal (marking_of w);
  after = λ w. after_mark w;
  answer = λ w v. Pushed (length v.gray + 1 - length w.gray);
  left = λ w. Undo.Mark (slice_index w.gray 0) (length (after_mark w).gray + 1 - length w.gray);
  may_grow = λ w. false;
}
model_of Event.Drain = record {
  refusal = λ w. drain_refusal (marking_of w);
  after = λ w. after_drain w;
  answer = λ w v. Pushed (length v.gray - length w.gray);
  left = λ w. Undo.Drain (length (after_drain w).gray - length w.gray);
  may_grow = λ w. false;
}
model_of Event.Finish = record {
  refusal = λ w. finish_refusal (marking_of w);
  after = λ w. after_finish w;
  answer = λ w v. Condemned (dead_count v.regions);
  left = λ w. Undo.Finish w.log;
  may_grow = λ w. false;
}
model_of (Event.Sweep region) = record {
  refusal = λ w. sweep_refusal region (pool_of w);
  after = λ w. after_sweep region w;
  answer = λ w v. Swept (is_emptied region (pool_of w)) (length (dead_at region (pool_of w)));
  left = λ w. sweep_record region w;
  may_grow = λ w. copies_dead region (pool_of w);
}

-- the refusal of an event, or None if it is accepted
unfoldable pub refusal_of : Event → HeapState → Option Refusal
refusal_of e = (model_of e).refusal

-- the state after an accepted event
unfoldable pub state_after : Event → HeapState → HeapState
state_after e = (model_of e).after

-- the answer of an accepted event, from the states before and after it
unfoldable pub answer_of : Event → HeapState → HeapState → Answer
answer_of e = (model_of e).answer

-- the refusal if there is one, else the new state and the answer
unfoldable pub applied_unless : Option Refusal → Event → HeapState
    → Result (HeapState × Answer) Refusal
applied_unless None e w = let v = state_after e w in Ok (v, answer_of e w v)
applied_unless (Some r) e w = Err r

-- the new state and the answer of an event, or its refusal
unfoldable pub applied : Event → HeapState → Result (HeapState × Answer) Refusal
applied e w = applied_unless (refusal_of e w) e w

-- whether the event may take memory in this state
unfoldable pub event_may_grow : Event → HeapState → Bool
event_may_grow e = (model_of e).may_grow
