-- What a record tells of dead objects, and of the cycle that its step ended.
use Rattle.std.proofs.Common.{◌≡◌, ◌⊎◌, ℕ, zero, suc, add-one, ◌+◌, ◌-◌, ◌≤◌, Bool, true, false, not, ◌&&◌, ◌||◌, cond, List, [], ◌∷◌, ◌++◌, drop, length, map, get_or, set, replicate, Option, Some, None, refl, sym, ap, ap₂, ◌∙◌, subst, inl, inr, arith}
use Rattle.std.specs.Prelude.{◌==◌, count_by, option_map, reverse, slice_get, slice_set}
use Rattle.std.specs.Option.{option_map_or}
use Rattle.std.proofs.lemmas.Bool.{and_parts, cases_Bool, cases_eq, eq-eqb, eqb-true, false≢true}
use Rattle.std.proofs.lemmas.List.{append-nil, reverse-append}
use Rattle.std.proofs.lemmas.List.Sums.{sum_by-cons}
use Rattle.std.proofs.lemmas.Option.{none-some}
use Rattle.heap_class.specs.Classes.{slots_of}
use Rattle.heap_class.specs.declared.ObjKind.{ObjKind}
use Rattle.heap_class.specs.declared.ObjKind.TheVariants.{Array, Instance, Prim}
use Rattle.heap_class.specs.declared.ObjRef.{ObjRef}
use Rattle.heap_region.specs.Live.{cells_of, is_dead, is_live}
use Rattle.heap_region.specs.Pool.{RegionPool, allocated, fresh_region, new_place, released, restored, taken}
use Rattle.heap_region.specs.Regions.{Empty, Object, Region, UsedRegion, cell_count, cell_object, cell_size_for, id_of, object_at, used_at, with_region}
use Rattle.heap_region.proofs.FoundObjects.{restored_there}
use Rattle.heap_region.proofs.Good.{pool_is_empty}
use Rattle.heap_region.proofs.Lookups.{used_region_after_its_change}
use Rattle.heap_region.proofs.Places.{IsNextFree, IsNextFresh, new_place_is}
use Rattle.heap_world.specs.Events.{after_finish, after_new, after_sweep, new_object}
use Rattle.heap_world.specs.Legal.{IsLegal}
use Rattle.heap_world.specs.MarkSteps.{finished, undrained, unfinished, unmarked, unshaded, unsnapped}
use Rattle.heap_world.specs.Phase.TheVariants.{Idle, Marking}
use Rattle.heap_world.specs.State.{HeapState, pool_of, with_pool, with_register}
use Rattle.heap_world.specs.Sweep.{is_emptied, live_part, swept, swept_region}
use Rattle.heap_world.proofs.SweptCells.{dead_in as dead_pairs_in, dead_length}
use Rattle.heap_step.specs.Apply.{new_record, reg_record, state_after, sweep_record}
use Rattle.heap_step.specs.Laws.{IsStep}
use Rattle.heap_step.specs.Records.{undo_record, undone}
use Rattle.heap_step.specs.declared.Event.{Event}
use Rattle.heap_step.specs.declared.Undo.{Undo}
use Rattle.heap_step.specs.declared.Undo.TheVariants.{Finish, New, Reclaim, Snap, Sweep}
use Rattle.heap_step.proofs.EventLaws.{undo_restores}
use Rattle.heap_step.proofs.Places.{new_object_stands_at_place}
use Rattle.heap_step.proofs.Steps.{finish_before, finish_is, sweep_before}
use Rattle.heap_pins.specs.Walk.{TellsBefore, cell_state, states_before}
use Rattle.heap_trail.specs.Trail.{Trail, state_ago}
use Rattle.heap_trail.proofs.RetainedRecords.{HasRecord}
use Rattle.heap_questions.specs.Changes.{made_by}
use Rattle.heap_questions.specs.Cycles.{AreLastCycles, EndsCycle, IsCycleAgo, IsUntilNext, before_cycles, cycle_by, dead_before, left_before}
use Rattle.heap_questions.specs.RegionCounts.{dead_objects}
use Rattle.heap_questions.specs.declared.past.cycles.EndedCycle.{EndedCycle}
use Rattle.heap_questions.proofs.DeadObjects.{all_condemned, dead_alike, dead_in, gone_and_left, in_cells, no_dead, none_dead, one_differs, place, region_alike, same_count}
use Rattle.heap_questions.proofs.Sizes.{same_regions}
use Rattle.heap_questions.proofs.ToldObjects.{one_before, reclaimed_none, sweep_was, step_tells_before}
use Rattle.heap_questions.proofs.Walk.{now_is}
use Rattle.heap_questions.proofs.Writes.{new_state, old_state, reclaim_state, same_place, sweep_state}

-- ---- by the states of cells

dead_by_state : (x : Option Object) → is_dead x ≡ (cell_state x == 2)
dead_by_state None = refl
dead_by_state (Some o) = go o.live
  where
    go : (b : Bool) → not b ≡ (cond b 1 2 == 2)
    go true = refl
    go false = refl

same_state : (x y : Option Object) → cell_state x ≡ cell_state y → is_dead x ≡ is_dead y
same_state x y e = dead_by_state x ∙ ap (λ n. n == 2) e ∙ sym (dead_by_state y)

-- the state of each cell after a step
abbrev after_states : HeapState → ObjRef → ℕ
after_states w b = cell_state (object_at w.regions b)

-- the record tells that the state of a cell is as it was
untouched_cell_is_dead_as_before : (left : Undo) (before after : HeapState) (at : ObjRef) → TellsBefore left before after → states_before left (after_states after) at ≡ cell_state (object_at after.regions at) → is_dead (object_at before.regions at) ≡ is_dead (object_at after.regions at)
untouched_cell_is_dead_as_before left before after at t e = same_state (object_at before.regions at) (object_at after.regions at) (t.states at ∙ e)

-- ---- a finish

none_was_dead : (log : List ℕ) (before after : HeapState) (at : ObjRef) → TellsBefore (Finish log) before after → is_dead (object_at before.regions at) ≡ false
unfolding states_before
none_was_dead log before after at t = dead_by_state (object_at before.regions at) ∙ ap (λ n. n == 2) (t.states at) ∙ go (after_states after at == 0)
  where
    go : (b : Bool) → (cond b 0 1 == 2) ≡ false
    go true = refl
    go false = refl

live_by_state : (x : Option Object) → cell_state x ≡ 1 → is_live x ≡ true
live_by_state None e = absurd (omega (arith, e))
live_by_state (Some o) e = elim (cases_Bool o.live) [
  | inl t ↦ t
  | inr f ↦ absurd (two (sym (ap (λ b. cond b 1 2) f) ∙ e))
]
  where
    two : ◌≡◌ {A = ℕ} 2 1 → ⊥
    two e = absurd (omega (arith, e))

dead_was_live : (log : List ℕ) (before after : HeapState) (at : ObjRef) → TellsBefore (Finish log) before after → is_dead (object_at after.regions at) ≡ true → is_live (object_at before.regions at) ≡ true
unfolding states_before
dead_was_live log before after at t d = live_by_state (object_at before.regions at) (t.states at ∙ go (object_at after.regions at) d)
  where
    go : (x : Option Object) → is_dead x ≡ true → ◌≡◌ {A = ℕ} (cond (cell_state x == 0) 0 1) 1
    go None e = absurd (false≢true e)
    go (Some o) e = elim (cases_Bool o.live) [
      | inl t ↦ absurd (false≢true (sym (ap not t) ∙ e))
      | inr f ↦ ap (λ b. cond (cond b 1 2 == 0) 0 1) f
    ]

-- ---- a new object

-- the place that a record names as that of a new object, and whether it is in a fresh region
abbrev pub new_at : Undo → Option (ObjRef × Bool)
new_at (New at fresh m r old) = Some (at, fresh)
new_at left = None

made_at : (p : Option (ObjRef × Bool)) (k s old : ℕ) (at : ObjRef) (fresh : Bool) → new_at (option_map_or (λ (p : ObjRef × Bool). Undo.New p.0 p.1 k s old) p (Undo.Reg k s old)) ≡ Some (at, fresh) → p ≡ Some (at, fresh)
made_at None k s old at fresh e = e
made_at (Some p) k s old at fresh e = e

-- an event made an object with a number of slots at the place
abbrev pub IsMadeAt : Event → HeapState → ObjRef → Bool → Type 0
IsMadeAt e w at fresh = (m : ℕ) × (r : ℕ) × (n : ℕ) × (kind : ObjKind) × (state_after e w ≡ after_new m r kind n w) × (new_place n (pool_of w) ≡ Some (at, fresh))

pub by_record : (e : Event) (w : HeapState) (at : ObjRef) (fresh : Bool) → new_at (undo_record e w) ≡ Some (at, fresh) → IsMadeAt e w at fresh
unfolding undo_record state_after new_record reg_record sweep_record
by_record (Event.New m r class) w at fresh h = (m, r, length (slots_of w.classes class), Instance class, refl, made_at (new_place (length (slots_of w.classes class)) (pool_of w)) m r _ at fresh h)
by_record (Event.NewArray m r class len) w at fresh h = (m, r, len, Array class, refl, made_at (new_place len (pool_of w)) m r _ at fresh h)
by_record (Event.NewPrim m r kind len) w at fresh h = (m, r, len, Prim kind, refl, made_at (new_place len (pool_of w)) m r _ at fresh h)
by_record (Event.Sweep region) w at fresh h = absurd (none-some (at, fresh) (sym (go (is_emptied region (pool_of w)) _ _) ∙ h))
  where
    go : (b : Bool) (u : UsedRegion) (dead : List (ℕ × Object)) → new_at (cond b (Undo.Reclaim region u) (Undo.Sweep region dead)) ≡ None
    go true u dead = refl
    go false u dead = refl
by_record e w at fresh h = absurd (none-some (at, fresh) h)

blank_cell_is_not_dead : (n c : ℕ) → is_dead (get_or (replicate n None) c None) ≡ false
blank_cell_is_not_dead zero c = refl
blank_cell_is_not_dead (suc n) zero = refl
blank_cell_is_not_dead (suc n) (suc c) = blank_cell_is_not_dead n c

-- one live object in bare cells
live_in_bare : (n i c : ℕ) (o : Object) → o.live ≡ true → is_dead (get_or (set (replicate n None) i (Some o)) c None) ≡ false
live_in_bare zero i c o l = refl
live_in_bare (suc n) zero zero o l = ap not l
live_in_bare (suc n) zero (suc c) o l = blank_cell_is_not_dead n c
live_in_bare (suc n) (suc i) zero o l = refl
live_in_bare (suc n) (suc i) (suc c) o l = live_in_bare n i c o l

fresh_alive : (s : RegionPool) (at : ObjRef) (o : Object) (c : ℕ) → slice_get s.regions at.region ≡ Some Empty → o.live ≡ true → is_dead (object_at (allocated at true o s).regions (place at.region c)) ≡ false
unfolding allocated taken fresh_region
fresh_alive s at o c empty live =
    let u : UsedRegion = fresh_region (cell_size_for (length o.words)) in
    let change : UsedRegion → UsedRegion = λ u. record u { cells = slice_set u.cells at.cell (Some o); free = drop 1 u.free } in
    let used : used_at (with_region at.region change (restored at.region u s).regions) at.region ≡ Some (change u) =
    used_region_after_its_change at.region change (restored at.region u s).regions ∙ ap (option_map change) (restored_there at.region u s Empty empty) in
    ap is_dead (in_cells (with_region at.region change (restored at.region u s).regions) at.region c ∙ ap (λ (x : Option UsedRegion). get_or (cells_of x) c None) used)
    ∙ live_in_bare (cell_count (cell_size_for (length o.words))) at.cell c o live

made_alive : (w : HeapState) (m r n : ℕ) (kind : ObjKind) (at b : ObjRef) (fresh : Bool) → IsLegal w → new_place n (pool_of w) ≡ Some (at, fresh) → ((at.region == b.region) && (fresh || (at.cell == b.cell))) ≡ true → is_dead (object_at (after_new m r kind n w).regions b) ≡ false
unfolding after_new new_object
made_alive w m r n kind at b false legal e h =
    let p = and_parts (at.region == b.region) (at.cell == b.cell) h in
    let same : at ≡ b = same_place at b (eqb-true at.region b.region p.0) (eqb-true at.cell b.cell p.1) in
    ap (λ (q : ObjRef). is_dead (object_at (after_new m r kind n w).regions q)) (sym same) ∙ ap is_dead (new_object_stands_at_place w m r n kind at false legal e)
made_alive w m r n kind at b true legal e h =
    let p = and_parts (at.region == b.region) true h in
    let o : Object = new_object kind n w in
    let made : RegionPool → HeapState = λ s. with_register m r (id_of s.regions at) (with_pool s w) in
    let after : (after_new m r kind n w).regions ≡ (allocated at true o (pool_of w)).regions =
    ap (λ (p : Option (ObjRef × Bool)). (option_map_or (λ (p : ObjRef × Bool). let s : RegionPool = allocated p.0 p.1 o (pool_of w) in with_register m r (id_of s.regions p.0) (with_pool s w)) p w).regions) e in
    let here : b ≡ place at.region b.cell = same_place b (place at.region b.cell) (sym (eqb-true at.region b.region p.0)) refl in
    ap (λ (rs : List Region). is_dead (object_at rs b)) after
    ∙ ap (λ (q : ObjRef). is_dead (object_at (allocated at true o (pool_of w)).regions q)) here
    ∙ fresh_alive (pool_of w) at o b.cell (empty (new_place_is n (pool_of w) at true e)) refl
  where
    empty : ((true ≡ false) × IsNextFree n w.regions at) ⊎ ((true ≡ true) × IsNextFresh n (pool_of w) at) → slice_get w.regions at.region ≡ Some Empty
    empty (inl e) = absurd (false≢true (sym e.0))
    empty (inr e) = pool_is_empty (pool_of w) at legal.regions n e.1.0

new_alike : (e : Event) (before after : HeapState) (a : ObjRef) (fresh : Bool) (m r old : ℕ) (at : ObjRef) → IsStep e before after (New a fresh m r old) → is_dead (object_at before.regions at) ≡ is_dead (object_at after.regions at)
new_alike e before after a fresh m r old at s =
    let t = step_tells_before e before after (New a fresh m r old) s in
    elim (cases_Bool (made_by (New a fresh m r old) at)) [
      | inl y ↦
          let c = by_record e before a fresh (ap new_at (sym s.recorded)) in
          let dead = made_alive before c.0 c.1 c.2 c.3 a at fresh s.legal c.5 y in
          dead_by_state (object_at before.regions at)
          ∙ ap (λ n. n == 2) (t.states at ∙ new_state a at fresh m r old (after_states after) y)
          ∙ sym (ap (λ (w : HeapState). is_dead (object_at w.regions at)) (s.gave ∙ c.4) ∙ dead)
      | inr y ↦ untouched_cell_is_dead_as_before (New a fresh m r old) before after at t (old_state a at fresh m r old (after_states after) y)
    ]

-- ---- sweeps

live_kept : (x : Option Object) → is_dead (live_part x) ≡ false
live_kept None = refl
live_kept (Some o) = elim (cases_Bool o.live) [
  | inl t ↦ ap (λ b. is_dead (cond b (Some o) None)) t ∙ ap not t
  | inr f ↦ ap (λ b. is_dead (cond b (Some o) None)) f
]

none_dead_kept : (cells : List (Option Object)) → count_by is_dead (map live_part cells) ≡ 0
none_dead_kept [] = refl
none_dead_kept (x ∷ xs) =
    let first : ◌≡◌ {A = ℕ} (cond (is_dead (live_part x)) 1 0) 0 = ap (λ b. cond b 1 0) (live_kept x) in
    let all = sum_by-cons (λ (y : Option Object). cond (is_dead y) 1 0) (live_part x) (map live_part xs) in
    omega (arith, first, none_dead_kept xs, all)

none_after_sweep : (w : HeapState) (region : ℕ) → is_emptied region (pool_of w) ≡ false → dead_in (after_sweep region w).regions region ≡ 0
unfolding after_sweep swept swept_region
none_after_sweep w region e =
    let regions = with_region region swept_region w.regions in
    let same : (after_sweep region w).regions ≡ regions = ap (λ (b : Bool). (cond b (released region (pool_of w)) (record (pool_of w) { regions = regions })).regions) e in
    ap (λ (rs : List Region). dead_in rs region) same
    ∙ ap (λ (x : Option UsedRegion). count_by is_dead (cells_of x)) (used_region_after_its_change region swept_region w.regions)
    ∙ go (used_at w.regions region)
  where
    go : (x : Option UsedRegion) → count_by is_dead (cells_of (option_map swept_region x)) ≡ 0
    go None = refl
    go (Some u) = none_dead_kept u.cells

-- the objects that a sweep took out are the dead ones of its region
sweep_counts : (e : Event) (before after : HeapState) (region : ℕ) (dead : List (ℕ × Object)) → IsStep e before after (Sweep region dead) → dead_objects before.regions ≡ dead_objects after.regions + length dead
sweep_counts e before after region dead s =
    let t = step_tells_before e before after (Sweep region dead) s in
    let b = sweep_before e before after (Sweep region dead) s region dead refl in
    let same = one_before e before b.0 after region dead s b.1 b.2 b.3 b.4 b.5 in
    let taken : length dead ≡ dead_in before.regions region =
    ap length b.4 ∙ ap length (dead_pairs_in region (pool_of b.0)) ∙ dead_length 0 (cells_of (used_at b.0.regions region)) ∙ ap (λ (w : HeapState). dead_in w.regions region) same in
    let none : dead_in after.regions region ≡ 0 = ap (λ (w : HeapState). dead_in w.regions region) b.5 ∙ none_after_sweep b.0 region b.3 in
    let all = one_differs before.regions after.regions region (same_regions (Sweep region dead) e before after s)
    (λ q n. region_alike before after q (λ c. untouched_cell_is_dead_as_before (Sweep region dead) before after (place q c) t (sweep_state region dead (place q c) (after_states after) n))) none in
    omega (arith, all, taken)

-- a region that was taken out whole
reclaim_counts : (e : Event) (before after : HeapState) (region : ℕ) (storage : UsedRegion) → IsStep e before after (Reclaim region storage) → dead_objects before.regions ≡ dead_objects after.regions + count_by is_dead storage.cells
unfolding states_before
reclaim_counts e before after region storage s =
    let t = step_tells_before e before after (Reclaim region storage) s in
    let was : dead_in before.regions region ≡ count_by is_dead storage.cells =
    same_count (cells_of (used_at before.regions region)) storage.cells (λ c. ap is_dead (sym (in_cells before.regions region c)) ∙ same_state (object_at before.regions (place region c)) (cell_object storage c) (t.states (place region c) ∙ ap (λ b. cond b (cell_state (cell_object storage c)) (after_states after (place region c))) (eq-eqb region region refl))) in
    let none : dead_in after.regions region ≡ 0 = none_dead after region (λ c. gone (place region c) refl (object_at after.regions (place region c)) refl) in
    let all = one_differs before.regions after.regions region (same_regions (Reclaim region storage) e before after s)
    (λ q n. region_alike before after q (λ c. untouched_cell_is_dead_as_before (Reclaim region storage) before after (place q c) t (reclaim_state region storage (place q c) (after_states after) n))) none in
    omega (arith, all, was)
  where
    gone : (at : ObjRef) → at.region ≡ region → (x : Option Object) → object_at after.regions at ≡ x → is_dead (object_at after.regions at) ≡ false
    gone at r None h = ap is_dead h
    gone at r (Some o) h = absurd (reclaimed_none e before after region storage at o s r h)

-- ---- every record

-- the number of dead objects before a step
pub dead_step : (left : Undo) (e : Event) (before after : HeapState) → IsStep e before after left → dead_objects before.regions ≡ dead_before left (dead_objects after.regions)
unfolding states_before
dead_step (Finish log) e before after s = no_dead before.regions (λ r. none_dead before r (λ c. none_was_dead log before after (place r c) (step_tells_before e before after (Finish log) s)))
dead_step (Sweep region dead) e before after s = sweep_counts e before after region dead s
dead_step (Reclaim region storage) e before after s = reclaim_counts e before after region storage s
dead_step (New a fresh m r old) e before after s = dead_alike before after (same_regions (New a fresh m r old) e before after s) (λ at. new_alike e before after a fresh m r old at s)
dead_step left e before after s = dead_alike before after (same_regions left e before after s) (λ at. untouched_cell_is_dead_as_before left before after at (step_tells_before e before after left s) refl)

-- whether a record is that of a finish
abbrev pub is_finish : Undo → Bool
is_finish (Finish log) = true
is_finish left = false

-- what is dead after a step was dead before it, unless the step ended a cycle
pub dead_stays : (left : Undo) (e : Event) (before after : HeapState) (at : ObjRef) → IsStep e before after left → is_finish left ≡ false → is_dead (object_at after.regions at) ≡ true → is_dead (object_at before.regions at) ≡ true
unfolding states_before
dead_stays (Finish log) e before after at s n d = absurd (false≢true (sym n))
dead_stays (Sweep region dead) e before after at s n d =
    elim (cases_eq at.region region) [
      | inl r ↦ go (object_at after.regions at) refl r d
      | inr r ↦ untouched_cell_is_dead_as_before (Sweep region dead) before after at (step_tells_before e before after (Sweep region dead) s) (sweep_state region dead at (after_states after) r) ∙ d
    ]
  where
    go : (x : Option Object) → object_at after.regions at ≡ x → at.region ≡ region → is_dead (object_at after.regions at) ≡ true → is_dead (object_at before.regions at) ≡ true
    go None h r d = absurd (false≢true (sym (ap is_dead h) ∙ d))
    go (Some o) h r d = ap is_dead (sweep_was e before after region dead at o s r h ∙ sym h) ∙ d
dead_stays (Reclaim region storage) e before after at s n d =
    elim (cases_eq at.region region) [
      | inl r ↦ go (object_at after.regions at) refl r d
      | inr r ↦ untouched_cell_is_dead_as_before (Reclaim region storage) before after at (step_tells_before e before after (Reclaim region storage) s) (reclaim_state region storage at (after_states after) r) ∙ d
    ]
  where
    go : (x : Option Object) → object_at after.regions at ≡ x → at.region ≡ region → is_dead (object_at after.regions at) ≡ true → is_dead (object_at before.regions at) ≡ true
    go None h r d = absurd (false≢true (sym (ap is_dead h) ∙ d))
    go (Some o) h r d = absurd (reclaimed_none e before after region storage at o s r h)
dead_stays (New a fresh m r old) e before after at s n d = new_alike e before after a fresh m r old at s ∙ d
dead_stays left e before after at s n d = untouched_cell_is_dead_as_before left before after at (step_tells_before e before after left s) refl ∙ d

-- ---- the phase

idle_is_not_marking : {A : Type 0} → Idle ≡ Marking → A
idle_is_not_marking e = absurd (no e)
  where
    no : Idle ≡ Marking → ⊥
    no e = cc

pub finish_ends : (e : Event) (before after : HeapState) (log : List ℕ) → IsStep e before after (Finish log) → (before.phase ≡ Marking) × (after.phase ≡ Idle)
unfolding unfinished after_finish finished
finish_ends e before after log s = (
  sym (ap (λ (w : HeapState). w.phase) (finish_is e before after (Finish log) s log refl)),
  ap (λ (w : HeapState). w.phase) (finish_before e before after (Finish log) s log refl).3,
)

cycle_runs_on : (left : Undo) (v : HeapState) → is_finish left ≡ false → (undone left v).phase ≡ Marking → v.phase ≡ Marking
unfolding undone unsnapped unmarked undrained unshaded
cycle_runs_on (Finish log) v n e = absurd (false≢true (sym n))
cycle_runs_on Snap v n e = idle_is_not_marking e
cycle_runs_on left v n e = e

pub others_end_none : (left : Undo) (e : Event) (before after : HeapState) → IsStep e before after left → is_finish left ≡ false → before.phase ≡ Marking → after.phase ≡ Idle → ⊥
others_end_none left e before after s n running idle =
    let back : undone left after ≡ before = ap₂ undone s.recorded s.gave ∙ undo_restores e before s.legal s.accepted in
    idle_is_not_marking (sym idle ∙ cycle_runs_on left after n (ap (λ (w : HeapState). w.phase) back ∙ running))

-- ---- step by step

-- what is so after a look at the last n steps: the dead objects before them, how many of them are left in the end, and the cycles
pub record AreCyclesTo (t : Trail) (n dead left : ℕ) (cycles : List EndedCycle) : Type 0 where
  pub last : ℕ
  pub until : IsUntilNext t n last
  pub dead_is : dead ≡ dead_objects (state_ago n t).regions
  pub left_is : left ≡ dead_objects (state_ago last t).regions
  pub stays : (at : ObjRef) → is_dead (object_at (state_ago last t).regions at) ≡ true → is_dead (object_at (state_ago n t).regions at) ≡ true
  pub same : length (state_ago n t).regions ≡ length (state_ago last t).regions
  pub told : AreLastCycles t n (reverse cycles)

pub no_cycles : (t : Trail) (dead : ℕ) (cycles : List EndedCycle) → dead ≡ dead_objects t.current.regions → cycles ≡ [] → AreCyclesTo t 0 dead dead cycles
no_cycles t dead cycles d e =
    let now : dead ≡ dead_objects (state_ago 0 t).regions = d ∙ ap (λ (w : HeapState). dead_objects w.regions) (sym (now_is t)) in
    record {
      last = 0;
      until = record { within = omega arith; none = λ k a b. absurd (omega (arith, b)); next = inl refl };
      dead_is = now;
      left_is = now;
      stays = λ at h. h;
      same = refl;
      told = ap reverse e;
    }

-- those that are left are among the dead
pub left_few : (t : Trail) (n dead left : ℕ) (cycles : List EndedCycle) → AreCyclesTo t n dead left cycles → left ≤ dead
left_few t n dead left cycles a =
    let all = gone_and_left (state_ago a.last t) (state_ago n t) a.same a.stays in
    omega (arith, all, a.dead_is, a.left_is)

reverse_more : (cycles : List EndedCycle) (first : Option EndedCycle) → reverse (cycles ++ before_cycles first []) ≡ before_cycles first (reverse cycles)
reverse_more cycles None = ap reverse (append-nil cycles)
reverse_more cycles (Some c) = reverse-append cycles (c ∷ [])

one_more : (t : Trail) (n : ℕ) (cycles more : List EndedCycle) (first : Option EndedCycle) → AreLastCycles t n (reverse cycles) → IsCycleAgo t n first → more ≡ cycles ++ before_cycles first [] → AreLastCycles t (n + 1) (reverse more)
one_more t n cycles more first told a e = subst (λ m. AreLastCycles t m (reverse more)) (sym (add-one n)) (first, reverse cycles, a, told, ap reverse e ∙ reverse_more cycles first)

finish_adds_cycle : (t : Trail) (n dead left : ℕ) (log : List ℕ) (cycles more : List EndedCycle) → AreCyclesTo t n dead left cycles → HasRecord t n (Finish log) → more ≡ cycles ++ before_cycles (cycle_by (Finish log) (t.place - n) dead left) [] → AreCyclesTo t (n + 1) 0 0 more
finish_adds_cycle t n dead left log cycles more a r e =
    let s = r.1 in
    let before = state_ago (n + 1) t in
    let after = state_ago n t in
    let tells = step_tells_before r.0 before after (Finish log) s in
    let none : 0 ≡ dead_objects before.regions = sym (dead_step (Finish log) r.0 before after s) in
    let ends : EndsCycle t n = finish_ends r.0 before after log s in
    let all = gone_and_left (state_ago a.last t) after a.same a.stays in
    record {
      last = n + 1;
      until = record { within = omega arith; none = λ k l m. absurd (omega (arith, l, m)); next = inr (subst (EndsCycle t) (let z : n ≡ n + 1 - 1 = omega arith in z) ends) };
      dead_is = none;
      left_is = none;
      stays = λ at h. h;
      same = refl;
      told = one_more t n cycles more (cycle_by (Finish log) (t.place - n) dead left) a.told
          (record {
            ends = ends;
            place = refl;
            condemned = a.dead_is ∙ sym (all_condemned before after (λ at. dead_was_live log before after at tells));
            last = a.last;
            until = a.until;
            swept = omega (arith, all, a.dead_is, a.left_is);
          })
          e;
    }

went_on : (t : Trail) (n dead left : ℕ) (u : Undo) (cycles more : List EndedCycle) → AreCyclesTo t n dead left cycles → HasRecord t n u → is_finish u ≡ false → more ≡ cycles ++ [] → AreCyclesTo t (n + 1) (dead_before u dead) left more
went_on t n dead left u cycles more a r other e =
    let s = r.1 in
    let before = state_ago (n + 1) t in
    let after = state_ago n t in
    let no : ¬ EndsCycle t n = λ p. others_end_none u r.0 before after s other p.0 p.1 in
    record {
      last = a.last;
      until = record {
        within = omega (arith, a.until.within);
        none = λ k l m. elim (cases_eq k n) [
          | inl q ↦ subst (λ j. ¬ EndsCycle t j) (sym q) no
          | inr q ↦ a.until.none k l (omega (arith, m, q))
        ];
        next = a.until.next;
      };
      dead_is = ap (dead_before u) a.dead_is ∙ sym (dead_step u r.0 before after s);
      left_is = a.left_is;
      stays = λ at h. dead_stays u r.0 before after at s other (a.stays at h);
      same = same_regions u r.0 before after s ∙ a.same;
      told = one_more t n cycles more None a.told no e;
    }

pub one_step_more : (t : Trail) (n dead left : ℕ) (u : Undo) (cycles more : List EndedCycle) → AreCyclesTo t n dead left cycles → HasRecord t n u → more ≡ cycles ++ before_cycles (cycle_by u (t.place - n) dead left) [] → AreCyclesTo t (n + 1) (dead_before u dead) (left_before u left) more
one_step_more t n dead left (Finish log) cycles more a r e = finish_adds_cycle t n dead left log cycles more a r e
one_step_more t n dead left u cycles more a r e = went_on t n dead left u cycles more a r refl e
