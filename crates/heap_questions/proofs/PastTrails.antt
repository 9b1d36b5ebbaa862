-- The trail up to a retained state, and where objects stood there.
use Rattle.std.proofs.Common.{◌≡◌, ℕ, zero, suc, ◌+◌, ◌-◌, ◌*◌, ◌/◌, ◌%◌, ◌<◌, ◌≤◌, Bool, true, false, cond, List, [], ◌∷◌, drop, length, get_or, Option, Some, None, IsSome, refl, sym, ap, ◌∙◌, subst, inl, inr, arith}
use Rattle.std.specs.Prelude.{slice_get, is_some, not, ◌==◌, ◌&&◌, ◌||◌}
use Rattle.std.specs.List.{list_any}
use Rattle.std.specs.Option.{option_map_or}
use Rattle.std.proofs.lemmas.Bool.{cases_Bool, cases_eq, eq-eqb, ne_eqb, false≢true}
use Rattle.std.proofs.lemmas.Option.{same_Some, slice_get_within}
use Rattle.heap_class.specs.declared.ObjRef.{ObjRef}
use Rattle.heap_region.specs.Limits.{region_words}
use Rattle.heap_region.specs.Pool.{RegionPool}
use Rattle.heap_region.specs.RegionCopies.{region_frozen}
use Rattle.heap_region.specs.Regions.{Object, Region, UsedRegion, cell_object, id_of, object_at, object_base, object_of, ref_of, used_at}
use Rattle.heap_region.proofs.Allocation.{ref_of_id_from_region}
use Rattle.heap_region.proofs.ChangedLookups.{object_at_ref, place_of_object_of_id}
use Rattle.heap_region.proofs.FoundObjects.{ref_region, region_around}
use Rattle.heap_region.proofs.Ids.{cell_begins_within_region, ref_is}
use Rattle.heap_region.proofs.Laws.{cell_of_object_of_region}
use Rattle.heap_world.specs.Legal.{IsLegal}
use Rattle.heap_world.specs.State.{HeapState, pool_of}
use Rattle.heap_step.specs.declared.Event.{Event}
use Rattle.heap_step.specs.declared.Undo.{Undo}
use Rattle.heap_step.specs.declared.Undo.TheVariants.{New, Finish, Sweep, Reclaim}
use Rattle.heap_step.specs.Laws.{IsStep}
use Rattle.heap_step.proofs.Steps.{reclaim_inhabited}
use Rattle.heap_pins.specs.KeptCopies.{touched}
use Rattle.heap_pins.specs.Walk.{cell_state, dead_state, states_before, walked_copy}
use Rattle.heap_pins.proofs.CoveringCopies.{same_copy_covers}
use Rattle.heap_trail.specs.declared.Action.TheVariants.{Rewind}
use Rattle.heap_trail.specs.Laws.{IsTrail}
use Rattle.heap_trail.specs.Machine.{Machine, Granted, acted_under, machine_after}
use Rattle.heap_trail.specs.Trail.{Trail, retained, rewound, state_ago}
use Rattle.heap_trail.proofs.KeptTrails.{trails_stay}
use Rattle.heap_trail.proofs.RetainedRecords.{HasRecord, has_record}
use Rattle.heap_trail.proofs.Rewinds.{retained_after_rewind}
use Rattle.heap_trail.proofs.RewoundMachines.{rewind_done}
use Rattle.heap_questions.specs.Changes.{made_by}
use Rattle.heap_questions.specs.PastTrails.{HasCellSize, IsCellOf, IsPast, id_with, size_before, sized_cell, stood_before, storage_cell_size}
use Rattle.heap_questions.proofs.ImagePaths.{id_back}
use Rattle.heap_questions.proofs.NewestSteps.{left_there}
use Rattle.heap_questions.proofs.PastIds.{region_stays_sized}
use Rattle.heap_questions.proofs.Sizes.{cells_some, reclaimed_size, table_of, used_of, whole_size}
use Rattle.heap_questions.proofs.ToldObjects.{some_state, step_tells_before}
use Rattle.heap_questions.proofs.Writes.{new_state, old_state}

-- ---- the trail after a rewind

-- a rewind leaves a trail of legal states
pub past_trail : (m : Machine) (n : ℕ) → n ≤ retained m.trail → IsTrail m.keep m.trail → IsTrail m.keep (rewound n m.trail)
unfolding machine_after acted_under
past_trail m n few s =
    let after = trails_stay m ((Rewind n, Granted) ∷ []) s in
    let done = rewind_done m n few in
    subst (λ (r : Machine). IsTrail r.keep r.trail) (λ i. (done i).0) after

pub is_past : (m : Machine) (n : ℕ) → n ≤ retained m.trail → IsTrail m.keep m.trail → IsPast (rewound n m.trail)
is_past m n few s = (m.keep, past_trail m n few s)

same_default : (xs : List HeapState) (n : ℕ) (d e : HeapState) → n < length xs → get_or xs n d ≡ get_or xs n e
same_default [] n d e l = absurd (omega (arith, l))
same_default (x ∷ xs) zero d e l = refl
same_default (x ∷ xs) (suc n) d e l = same_default xs n d e (omega (arith, l))

element_after_drop : (a n : ℕ) (w d e : HeapState) (xs : List HeapState) → a + n ≤ length xs → get_or (get_or (w ∷ xs) a d ∷ drop a xs) n e ≡ get_or (w ∷ xs) (a + n) d
element_after_drop zero n w d e xs l = same_default (w ∷ xs) n e d (omega (arith, l)) ∙ ap (λ k. get_or (w ∷ xs) k d) (let z : n ≡ 0 + n = omega arith in z)
element_after_drop (suc a) n w d e [] l = absurd (omega (arith, l))
element_after_drop (suc a) n w d e (x ∷ xs) l = element_after_drop a n x d e xs (omega (arith, l)) ∙ ap (λ k. get_or (w ∷ x ∷ xs) k d) (let z : suc (a + n) ≡ suc a + n = omega arith in z)

-- a state before the one that a rewind leads to
pub state_past : (t : Trail) (a n : ℕ) → a + n ≤ retained t → state_ago n (rewound a t) ≡ state_ago (a + n) t
unfolding state_ago rewound
state_past t a n l = element_after_drop a n t.current t.current (get_or (t.current ∷ t.past) a t.current) t.past l

pub current_past : (t : Trail) (a : ℕ) → (rewound a t).current ≡ state_ago a t
unfolding rewound
current_past t a = refl

pub place_past : (t : Trail) (a : ℕ) → (rewound a t).place ≡ t.place - a
unfolding rewound
place_past t a = refl

pub record_past : (t : Trail) (a n : ℕ) (left : Undo) → slice_get t.records (a + n) ≡ Some left → slice_get (rewound a t).records n ≡ Some left
unfolding rewound
record_past t a n left there = left_there a n t.records left there

pub has_past : (t : Trail) (n : ℕ) (left : Undo) → IsPast t → slice_get t.records n ≡ Some left → HasRecord t n left
has_past t n left p there = has_record p.0 t n left p.1 there

pub within_past : (t u : Trail) (a n : ℕ) → rewound a t ≡ u → n < retained u → a + n < retained t
within_past t u a n e l = omega (arith, l, ap retained e, retained_after_rewind a t)

-- the record of a step to a state before the one that a rewind leads to
pub has_record_past : (m : Machine) (a n : ℕ) (left : Undo) → a ≤ retained m.trail → IsTrail m.keep m.trail → slice_get m.trail.records (a + n) ≡ Some left → HasRecord (rewound a m.trail) n left
has_record_past m a n left few s there = has_past (rewound a m.trail) n left (is_past m a few s) (record_past m.trail a n left there)

-- ---- whether an object stood at a place

some_by_state : (x : Option Object) → is_some x ≡ not (cell_state x == 0)
some_by_state None = refl
some_by_state (Some o) = ap not (sym (ne_eqb (cell_state (Some o)) 0 (some_state o)))

or_true : (b : Bool) → (b || true) ≡ true
or_true true = refl
or_true false = refl

dead_stood : (dead : List (ℕ × Object)) (c old : ℕ) → not (dead_state dead c old == 0) ≡ (list_any (λ (d : ℕ × Object). d.0 == c) dead || not (old == 0))
unfolding dead_state
dead_stood [] c old = refl
dead_stood (d ∷ dead) c old = go (d.0 == c) (dead_stood dead c)
  where
    rest : Bool
    rest = list_any (λ (d : ℕ × Object). d.0 == c) dead

    go : (b : Bool) → ((n : ℕ) → not (dead_state dead c n == 0) ≡ (rest || not (n == 0))) → not (dead_state dead c (cond b (cell_state (Some d.1)) old) == 0) ≡ ((b || rest) || not (old == 0))
    go true h = h (cell_state (Some d.1)) ∙ ap (λ b. rest || not b) (ne_eqb (cell_state (Some d.1)) 0 (some_state d.1)) ∙ or_true rest
    go false h = h old

finish_stood : (n : ℕ) → not (cond (n == 0) 0 1 == 0) ≡ not (n == 0)
finish_stood n = elim (cases_Bool (n == 0)) [
  | inl t ↦ ap (λ (b : Bool). not (cond b 0 1 == 0)) t ∙ sym (ap not t)
  | inr f ↦ ap (λ (b : Bool). not (cond b 0 1 == 0)) f ∙ sym (ap not f)
]

by_states : (left : Undo) (f : ObjRef → ℕ) (at : ObjRef) → not (states_before left f at == 0) ≡ stood_before left at (not (f at == 0))
unfolding states_before
by_states (New a fresh m r old) f at = elim (cases_Bool (made_by (New a fresh m r old) at)) [
  | inl y ↦ ap (λ n. not (n == 0)) (new_state a at fresh m r old f y) ∙ sym (ap (λ b. not b && not (f at == 0)) y)
  | inr y ↦ ap (λ n. not (n == 0)) (old_state a at fresh m r old f y) ∙ sym (ap (λ b. not b && not (f at == 0)) y)
]
by_states (Finish log) f at = finish_stood (f at)
by_states (Sweep region dead) f at = go (at.region == region)
  where
    go : (b : Bool) → not (cond b (dead_state dead at.cell (f at)) (f at) == 0) ≡ cond b (list_any (λ (d : ℕ × Object). d.0 == at.cell) dead || not (f at == 0)) (not (f at == 0))
    go true = dead_stood dead at.cell (f at)
    go false = refl
by_states (Reclaim region storage) f at = go (at.region == region)
  where
    go : (b : Bool) → not (cond b (cell_state (cell_object storage at.cell)) (f at) == 0) ≡ cond b (is_some (cell_object storage at.cell)) (not (f at == 0))
    go true = sym (some_by_state (cell_object storage at.cell))
    go false = refl
by_states left f at = refl

pub stood_step : (left : Undo) (e : Event) (before after : HeapState) (at : ObjRef) → IsStep e before after left → is_some (object_at before.regions at) ≡ stood_before left at (is_some (object_at after.regions at))
stood_step left e before after at s =
    let t = step_tells_before e before after left s in
    some_by_state (object_at before.regions at)
    ∙ ap (λ n. not (n == 0)) (t.states at)
    ∙ by_states left (λ b. cell_state (object_at after.regions b)) at
    ∙ ap (stood_before left at) (sym (some_by_state (object_at after.regions at)))

-- the regions that are read are those of the current state
pub stands_by : (s : RegionPool) (w : HeapState) (t : Trail) (at : ObjRef) (b : Bool) → s ≡ pool_of w → w ≡ t.current → b ≡ is_some (object_at s.regions at) → b ≡ is_some (object_at (state_ago 0 t).regions at)
unfolding state_ago
stands_by s w t at b is now e = e ∙ ap (λ (p : RegionPool). is_some (object_at p.regions at)) is ∙ ap (λ (v : HeapState). is_some (object_at v.regions at)) now

-- ---- the size of a region's cells

abbrev reclaims_region : Undo → Bool
reclaims_region (Reclaim region storage) = true
reclaims_region left = false

abbrev region_in : Undo → ℕ
region_in (Reclaim region storage) = region
region_in left = 0

same_region : (a b : ℕ) (x y : UsedRegion) → Reclaim a x ≡ Reclaim b y → a ≡ b
same_region a b x y z = ap region_in z

kept_size : (left : Undo) (e : Event) (before after : HeapState) (r n : ℕ) (u : UsedRegion) → IsStep e before after left → ((storage : UsedRegion) → left ≡ Reclaim r storage → ⊥) → HasCellSize after r n → used_at before.regions r ≡ Some u → n ≡ u.cell_size
kept_size left e before after r n u s never h used =
    let v = region_stays_sized left before after r u (step_tells_before e before after left s) never used in
    h v.0 v.1 ∙ v.2

reclaimed_cells : (region : ℕ) (storage : UsedRegion) (e : Event) (before after : HeapState) (r : ℕ) (u : UsedRegion) → IsStep e before after (Reclaim region storage) → region ≡ r → used_at before.regions r ≡ Some u → storage_cell_size storage ≡ u.cell_size
unfolding touched walked_copy region_frozen
reclaimed_cells region storage e before after r u s q used =
    let t = step_tells_before e before after (Reclaim region storage) s in
    let c = t.touched_region r (region_frozen after.regions r) (ap Some q) (same_copy_covers _ _ refl) in
    reclaimed_size (used_at before.regions r) storage u c used ∙ whole_size u (table_of before r u s.legal used)

pub size_step : (left : Undo) (e : Event) (before after : HeapState) (r n : ℕ) → IsStep e before after left → HasCellSize after r n → HasCellSize before r (size_before left r n)
size_step (Reclaim region storage) e before after r n s h u used = elim (cases_eq region r) [
  | inl q ↦ ap (λ (b : Bool). cond b (storage_cell_size storage) n) (eq-eqb region r q) ∙ reclaimed_cells region storage e before after r u s q used
  | inr q ↦ ap (λ (b : Bool). cond b (storage_cell_size storage) n) (ne_eqb region r q)
      ∙ kept_size (Reclaim region storage) e before after r n u s (λ k z. q (same_region region r storage k z)) h used
]
size_step left e before after r n s h u used = kept_size left e before after r n u s (λ k z. false≢true (ap reclaims_region z)) h used

pub reclaim_cells : (left : Undo) (e : Event) (before after : HeapState) → IsStep e before after left → (r : ℕ) (u : UsedRegion) → left ≡ Reclaim r u → 0 < length u.cells
reclaim_cells left e before after s r u h = let i = reclaim_inhabited e before after left s r u h in cells_some u i.0 i.1 i.2

pub size_begins : (w : HeapState) (t : Trail) (r n : ℕ) → w ≡ t.current → HasCellSize w r n → HasCellSize (state_ago 0 t) r n
unfolding state_ago
size_begins w t r n now h = subst (λ (v : HeapState). HasCellSize v r n) now h

-- ---- the cell that an id names

id_by_size : (w : HeapState) (at : ObjRef) (size : ℕ) → HasCellSize w at.region size → IsSome (object_at w.regions at) → id_of w.regions at ≡ id_with size at
unfolding id_of
id_by_size w at size h there =
    let u = used_of w.regions at there in
    ap (λ (x : Option UsedRegion). object_base + 8 * (region_words * at.region + at.cell * option_map_or (λ (u : UsedRegion). u.cell_size) x 0)) u.1
    ∙ ap (λ s. object_base + 8 * (region_words * at.region + at.cell * s)) (sym (h u.0 u.1))

some_size : (w : HeapState) (at : ObjRef) (size : ℕ) → IsLegal w → HasCellSize w at.region size → IsSome (object_at w.regions at) → 1 ≤ size
some_size w at size legal h there =
    let o = some_there (object_at w.regions at) there in
    let u = used_of w.regions at there in
    let l = slice_get_within u.0.cells at.cell (Some o.0) (cell_of_object_of_region w.regions at u.0 o.0 u.1 o.1) in
    let c = (cell_begins_within_region at.cell u.0.cell_size (omega (arith, l, (table_of w at.region u.0 legal u.1).cells))).1 in
    omega (arith, c, h u.0 u.1)
  where
    some_there : (x : Option Object) → IsSome x → (o : Object) × (x ≡ Some o)
    some_there None h = absurd (false≢true h)
    some_there (Some o) h = (o, refl)

named_some : (regions : List Region) (x : ℕ) (at : ObjRef) → ref_of regions x ≡ Some at → IsSome (object_at regions at) → IsSome (object_of regions x)
named_some regions x at r there = subst (λ (o : Option Object). IsSome o) (sym (object_at_ref regions x at r)) there

-- the region that has an id's word
pub region_named : (regions : List Region) (x : ℕ) (at : ObjRef) → ref_of regions x ≡ Some at → at.region ≡ (x - object_base) / 8 / 1024
region_named regions x at r = ref_region regions x at r

-- the cell of an id that names an object
pub cell_found : (w : HeapState) (x size : ℕ) (at : ObjRef) (cell : Option ObjRef) → IsLegal w → HasCellSize w at.region size → IsCellOf size at.region x cell → ref_of w.regions x ≡ Some at → IsSome (object_at w.regions at) → cell ≡ Some at
cell_found w x size at cell legal h c r there = go cell c
  where
    u : (u : UsedRegion) × (used_at w.regions at.region ≡ Some u)
    u = used_of w.regions at there

    id : id_with size at ≡ x
    id = sym (id_by_size w at size h there) ∙ ref_is w.regions x at r

    place : at ≡ sized_cell size at.region x
    place =
        let around : at.region ≡ region_around x = ref_region w.regions x at r in
        let p = ref_of_id_from_region w.regions x u.0 (named_some w.regions x at r there) (subst (λ k. used_at w.regions k ≡ Some u.0) around u.1) in
        same_Some at _ (sym r ∙ p)
        ∙ (λ i. let b : ObjRef = record { region = sym around i; cell = (x - object_base) / 8 % 1024 / sym (h u.0 u.1) i } in b)

    go : (y : Option ObjRef) → IsCellOf size at.region x y → y ≡ Some at
    go None n = absurd (n (some_size w at size legal h there) (ap (id_with size) (sym place) ∙ id))
    go (Some b) p = ap Some (p.0 ∙ sym place)

pub cell_named : (w : HeapState) (x size region : ℕ) (at : ObjRef) (cell : Option ObjRef) → IsLegal w → HasCellSize w region size → IsCellOf size region x cell → cell ≡ Some at → IsSome (object_at w.regions at) → ref_of w.regions x ≡ Some at
cell_named w x size region at cell legal h c e there =
    let p : IsCellOf size region x (Some at) = subst (IsCellOf size region x) e c in
    let r : region ≡ at.region = ap (λ (b : ObjRef). b.region) (sym p.0) in
    let o = some_there (object_at w.regions at) there in
    let id : id_of w.regions at ≡ x = id_by_size w at size (subst (λ k. HasCellSize w k size) r h) there ∙ p.1 in
    subst (λ k. ref_of w.regions k ≡ Some at) id (id_back w at o.0 legal o.1)
  where
    some_there : (x : Option Object) → IsSome x → (o : Object) × (x ≡ Some o)
    some_there None h = absurd (false≢true h)
    some_there (Some o) h = (o, refl)

-- what is found by the cell
pub found_there : (regions : List Region) (x : ℕ) (at : ObjRef) → ref_of regions x ≡ Some at → is_some (object_at regions at) ≡ true → (ref_of regions x ≡ Some at) × IsSome (object_at regions at)
found_there regions x at r there = (r, there)

pub found_none : (regions : List Region) (x : ℕ) (cell : Option ObjRef) → ((at : ObjRef) → ref_of regions x ≡ Some at → IsSome (object_at regions at) → cell ≡ Some at) → ((at : ObjRef) → cell ≡ Some at → is_some (object_at regions at) ≡ false) → object_of regions x ≡ None
found_none regions x cell finds none = go (object_of regions x) refl
  where
    go : (o : Option Object) → object_of regions x ≡ o → o ≡ None
    go None e = refl
    go (Some o) e =
        let p = place_of_object_of_id regions x o e in
        let there : IsSome (object_at regions p.0) = subst (λ (y : Option Object). IsSome y) (sym p.2) refl in
        absurd (false≢true (sym (none p.0 (finds p.0 p.1 there)) ∙ there))
