-- Which retained states have an object that is wanted.
use Rattle.std.proofs.Common.{◌≡◌, ◌≢◌, ◌⊎◌, ℕ, zero, suc, ◌+◌, ◌-◌, ◌<◌, ◌≤◌, ◌==◌, Bool, true, false, cond, List, ◌∷◌, length, drop, get_or, replicate, set, Option, Some, None, IsSome, refl, sym, ap, ap₂, ◌∙◌, subst, inl, inr, arith}
use Rattle.std.specs.Prelude.{option_map, slice_get, slice_set}
use Rattle.std.specs.Option.{option_map_or}
use Rattle.std.proofs.lemmas.Bool.{and_parts, cases_Bool, cases_eq, eqb-true, false≢true, true≢false}
use Rattle.std.proofs.lemmas.List.Elements.{All-contains}
use Rattle.std.proofs.lemmas.Option.{none-some, same_Some, slice_get-get_or, slice_get_within, get_or_from_slice_get}
use Rattle.heap_class.specs.declared.ObjKind.{ObjKind}
use Rattle.heap_class.specs.declared.ObjRef.{ObjRef}
use Rattle.heap_class.proofs.Refusals.{no_refusal_test_holds}
use Rattle.heap_region.specs.Live.{cells_of}
use Rattle.heap_region.specs.Pool.{RegionPool, allocated, fresh_region, new_place, restored, taken}
use Rattle.heap_region.specs.Regions.{Empty, Object, Region, UsedRegion, cell_count, cell_size_for, id_of, live_objects, object_at, objects_in, used_at, with_region, with_word}
use Rattle.heap_region.proofs.ChangedLookups.{place_of_object_of_id}
use Rattle.heap_region.proofs.FoundObjects.{restored_there}
use Rattle.heap_region.proofs.Good.{pool_is_empty}
use Rattle.heap_region.proofs.Lookups.{object_elsewhere, used_region_after_its_change}
use Rattle.heap_region.proofs.Places.{IsNextFree, IsNextFresh, new_place_is}
use Rattle.heap_world.specs.Events.{after_new, new_object, put_refusal, store_refusal}
use Rattle.heap_world.specs.Legal.{IsLegal, IsLive}
use Rattle.heap_world.specs.State.{HeapState, is_register, place_of, pool_of, register, with_pool, with_register}
use Rattle.heap_world.proofs.Registers.{both_registers, register_member}
use Rattle.heap_world.proofs.WordWrites.{not_false_is_true}
use Rattle.heap_world.proofs.WriteEvents.{place_of_id_by_ref}
use Rattle.heap_world.specs.Sweep.{is_emptied}
use Rattle.heap_step.specs.declared.Event.{Event}
use Rattle.heap_step.specs.declared.Undo.{Undo}
use Rattle.heap_step.specs.declared.Undo.TheVariants.{Put, Store, New, Finish, Sweep, Reclaim}
use Rattle.heap_step.specs.Apply.{new_record, reg_record, refusal_of, sweep_record}
use Rattle.heap_step.specs.Laws.{IsStep}
use Rattle.heap_step.specs.Records.{undo_record}
use Rattle.heap_step.proofs.Places.{new_object_stands_at_place}
use Rattle.heap_step.proofs.Steps.{put_undone_is_before, store_is}
use Rattle.hprof_text.specs.Image.{DumpedObject, Image}
use Rattle.heap_pins.specs.Images.{image_of, dumped_objects}
use Rattle.heap_pins.specs.KeptCopies.{touched}
use Rattle.heap_pins.specs.Pin.{PinContents, pin_image}
use Rattle.heap_pins.specs.Shows.{IsPinOf}
use Rattle.heap_pins.specs.View.{ShowsSome}
use Rattle.heap_pins.specs.Walk.{TellsBefore, cell_state, states_before}
use Rattle.heap_pins.proofs.LiveCounts.{Stands, live_stand}
use Rattle.heap_pins.proofs.RecordCases.{sweep_touches_its_region}
use Rattle.heap_pins.proofs.RecordWalks.{walked_pin_holds_its_state}
use Rattle.heap_pins.proofs.ShownImages.{image_is, object_seen_as_dump_shows, shown}
use Rattle.heap_trail.specs.Trail.{Trail, state_ago}
use Rattle.heap_trail.proofs.RetainedRecords.{HasRecord}
use Rattle.heap_questions.specs.declared.wanted.Wanted.{Wanted}
use Rattle.heap_questions.specs.Changes.{made_by}
use Rattle.heap_questions.specs.FirstPlaces.{HasWanted, HoldsAgo, IsFirstPlace, SeesWritten, place_if, writes_wanted}
use Rattle.heap_questions.specs.Newest.{written_at}
use Rattle.heap_questions.specs.PastTrails.{IsPinAgo, IsShownBeside}
use Rattle.heap_questions.specs.SlotWrites.{seen_object}
use Rattle.heap_questions.specs.Wanted.{is_wanted}
use Rattle.heap_questions.proofs.DeadObjects.{in_cells, place}
use Rattle.heap_questions.proofs.EndedCycles.{by_record, new_at}
use Rattle.heap_questions.proofs.HeldValues.{mapped_item_has_its_source, mapped_item_is_contained}
use Rattle.heap_questions.proofs.ImagePaths.{IsLiveOne, filter_live, live_listed}
use Rattle.heap_questions.proofs.ToldObjects.{covered_alike, reclaimed_none, sweep_was, step_tells_before}
use Rattle.heap_questions.proofs.WrittenSlots.{seen_beside, seen_or, shown_beside}
use Rattle.heap_questions.proofs.Writes.{old_state, reclaim_state, same_place, sweep_state}

-- ---- live objects, and those of an image

-- a live object at this place is wanted
abbrev StandsWanted : Wanted → HeapState → ObjRef → Type 0
StandsWanted wanted w at = (o : Object) × (object_at w.regions at ≡ Some o) × (o.live ≡ true) × (is_wanted wanted o.kind o.words ≡ true)

stands_if_shown : (wanted : Wanted) (w : HeapState) → HasWanted wanted (image_of w) → (at : ObjRef) × StandsWanted wanted w at
unfolding image_of dumped_objects live_objects
stands_if_shown wanted w h =
    let p = mapped_item_has_its_source (shown w.regions) (live_objects w.regions) h.0 h.1 in
    let there = All-contains (Stands w.regions) (live_objects w.regions) p.0 (live_stand w.regions) p.1 in
    let live = All-contains IsLiveOne (live_objects w.regions) p.0 (filter_live (objects_in w.regions)) p.1 in
    (p.0.0, (p.0.1, there, live, ap (λ (d : DumpedObject). is_wanted wanted d.kind d.words) p.2 ∙ h.2))

shown_if_stands : (wanted : Wanted) (w : HeapState) (at : ObjRef) → StandsWanted wanted w at → HasWanted wanted (image_of w)
unfolding image_of dumped_objects
shown_if_stands wanted w at h =
    (shown w.regions (at, h.0), mapped_item_is_contained (shown w.regions) (live_objects w.regions) (at, h.0) (live_listed w at h.0 h.1 h.2), h.3)

-- ---- an object that a step didn't write

-- a live object stands at the place, with the kind and the words of another
abbrev Was : HeapState → ObjRef → Object → Type 0
Was w at o = (p : Object) × (object_at w.regions at ≡ Some p) × (p.live ≡ true) × (p.kind ≡ o.kind) × (p.words ≡ o.words)

state_of_live : (x : Option Object) (o : Object) → x ≡ Some o → o.live ≡ true → cell_state x ≡ 1
state_of_live x o e l = ap cell_state e ∙ ap (λ b. cond b 1 2) l

pub live_of_state : (x : Option Object) → cell_state x ≡ 1 → (p : Object) × (x ≡ Some p) × (p.live ≡ true)
live_of_state None e = absurd (omega (arith, e))
live_of_state (Some p) e = elim (cases_Bool p.live) [
  | inl t ↦ (p, refl, t)
  | inr f ↦ absurd (two (sym (ap (λ b. cond b 1 2) f) ∙ e))
]
  where
    two : ◌≡◌ {A = ℕ} 2 1 → ⊥
    two e = absurd (omega (arith, e))

-- the states of cells after a step
abbrev pub states_after : HeapState → ObjRef → ℕ
states_after w b = cell_state (object_at w.regions b)

untouched_was : (left : Undo) (before after : HeapState) (at : ObjRef) (o : Object) → TellsBefore left before after → touched left ≢ Some at.region → states_before left (states_after after) at ≡ 1 → object_at after.regions at ≡ Some o → Was before at o
untouched_was left before after at o t n c h =
    let p = live_of_state (object_at before.regions at) (t.states at ∙ c) in
    let q = covered_alike before.regions after.regions at p.0 (t.others at.region n) p.1 in
    let same : q.0 ≡ o = same_Some q.0 o (sym q.1 ∙ h) in
    (p.0, p.1, p.2, sym q.2 ∙ ap (λ (z : Object). z.kind) same, sym q.3 ∙ ap (λ (z : Object). z.words) same)

elsewhere_was : (before after : HeapState) (a at : ObjRef) (s old : ℕ) (o : Object) → before.regions ≡ with_word a s old after.regions → a ≢ at → object_at after.regions at ≡ Some o → o.live ≡ true → Was before at o
unfolding with_word
elsewhere_was before after a at s old o e n h l =
    let f : Object → Object = λ o. record o { words = slice_set o.words s old } in
    (o, ap (λ (rs : List Region). object_at rs at) e ∙ object_elsewhere a at f after.regions n ∙ h, l, refl, refl)

-- a fresh region has one object
blank_cell_is_none : (n c : ℕ) → ◌≡◌ {A = Option Object} (get_or (replicate n None) c None) None
blank_cell_is_none zero c = refl
blank_cell_is_none (suc n) zero = refl
blank_cell_is_none (suc n) (suc c) = blank_cell_is_none n c

bare_but_one : (n i c : ℕ) (o : Object) → c ≢ i → get_or (set (replicate n None) i (Some o)) c None ≡ None
bare_but_one zero i c o d = refl
bare_but_one (suc n) zero zero o d = absurd (d refl)
bare_but_one (suc n) zero (suc c) o d = blank_cell_is_none n c
bare_but_one (suc n) (suc i) zero o d = refl
bare_but_one (suc n) (suc i) (suc c) o d = bare_but_one n i c o (λ e. d (ap suc e))

fresh_but_one : (s : RegionPool) (at : ObjRef) (o : Object) (c : ℕ) → slice_get s.regions at.region ≡ Some Empty → c ≢ at.cell → object_at (allocated at true o s).regions (place at.region c) ≡ None
unfolding allocated taken fresh_region
fresh_but_one s at o c empty d =
    let u : UsedRegion = fresh_region (cell_size_for (length o.words)) in
    let change : UsedRegion → UsedRegion = λ u. record u { cells = slice_set u.cells at.cell (Some o); free = drop 1 u.free } in
    let used : used_at (with_region at.region change (restored at.region u s).regions) at.region ≡ Some (change u) =
    used_region_after_its_change at.region change (restored at.region u s).regions ∙ ap (option_map change) (restored_there at.region u s Empty empty) in
    in_cells (with_region at.region change (restored at.region u s).regions) at.region c
    ∙ ap (λ (x : Option UsedRegion). get_or (cells_of x) c None) used
    ∙ bare_but_one (cell_count (cell_size_for (length o.words))) at.cell c o d

made_but_one : (w : HeapState) (m r n : ℕ) (kind : ObjKind) (at b : ObjRef) → IsLegal w → new_place n (pool_of w) ≡ Some (at, true) → b.region ≡ at.region → b.cell ≢ at.cell → object_at (after_new m r kind n w).regions b ≡ None
unfolding after_new
made_but_one w m r n kind at b legal e same d =
    let o : Object = new_object kind n w in
    let after : (after_new m r kind n w).regions ≡ (allocated at true o (pool_of w)).regions =
    ap (λ (p : Option (ObjRef × Bool)). (option_map_or (λ (p : ObjRef × Bool). let s : RegionPool = allocated p.0 p.1 o (pool_of w) in with_register m r (id_of s.regions p.0) (with_pool s w)) p w).regions) e in
    ap (λ (rs : List Region). object_at rs b) after
    ∙ ap (λ (q : ObjRef). object_at (allocated at true o (pool_of w)).regions q) (same_place b (place at.region b.cell) same refl)
    ∙ fresh_but_one (pool_of w) at o b.cell (empty (new_place_is n (pool_of w) at true e)) d
  where
    empty : ((true ≡ false) × IsNextFree n w.regions at) ⊎ ((true ≡ true) × IsNextFresh n (pool_of w) at) → slice_get w.regions at.region ≡ Some Empty
    empty (inl e) = absurd (false≢true (sym e.0))
    empty (inr e) = pool_is_empty (pool_of w) at legal.regions n e.1.0

-- a step that makes an object makes no other one
pub one_made : (e : Event) (before after : HeapState) (a : ObjRef) (fresh : Bool) (m r old : ℕ) (at : ObjRef) (o : Object) → IsStep e before after (New a fresh m r old) → made_by (New a fresh m r old) at ≡ true → a ≢ at → object_at after.regions at ≡ Some o → ⊥
one_made e before after a false m r old at o s y n h =
    let p = and_parts (a.region == at.region) (a.cell == at.cell) y in
    n (same_place a at (eqb-true a.region at.region p.0) (eqb-true a.cell at.cell p.1))
one_made e before after a true m r old at o s y n h =
    let region : a.region ≡ at.region = eqb-true a.region at.region (and_parts (a.region == at.region) true y).0 in
    let c = by_record e before a true (ap new_at (sym s.recorded)) in
    let none = made_but_one before c.0 c.1 c.2 c.3 a at s.legal c.5 (sym region) (λ d. n (same_place a at region (sym d))) in
    none-some o (sym (ap (λ (w : HeapState). object_at w.regions at) (s.gave ∙ c.4) ∙ none) ∙ h)

was_there : (e : Event) (before after : HeapState) (left : Undo) (at : ObjRef) (o : Object) → IsStep e before after left → written_at left ≢ Some at → object_at after.regions at ≡ Some o → o.live ≡ true → Was before at o
unfolding touched states_before
was_there e before after (Put a s old) at o st n h l = elsewhere_was before after a at s old o (sym (ap (λ (w : HeapState). w.regions) (put_undone_is_before e before after (Put a s old) st a s old refl))) (λ q. n (ap Some q)) h l
was_there e before after (Store a s old logged) at o st n h l = elsewhere_was before after a at s old o (sym (ap (λ (w : HeapState). w.regions) (store_is e before after (Store a s old logged) st a s old logged refl))) (λ q. n (ap Some q)) h l
was_there e before after (New a fresh m r old) at o st n h l = elim (cases_Bool (made_by (New a fresh m r old) at)) [
  | inl y ↦ absurd (one_made e before after a fresh m r old at o st y (λ q. n (ap Some q)) h)
  | inr y ↦ untouched_was (New a fresh m r old) before after at o (step_tells_before e before after (New a fresh m r old) st) (λ q. none-some at.region q) (old_state a at fresh m r old (states_after after) y ∙ state_of_live _ o h l) h
]
was_there e before after (Finish log) at o st n h l =
    untouched_was (Finish log) before after at o (step_tells_before e before after (Finish log) st) (λ q. none-some at.region q) (ap (λ (k : ℕ). cond (k == 0) 0 1) (state_of_live _ o h l)) h
was_there e before after (Sweep region dead) at o st n h l = elim (cases_eq at.region region) [
  | inl r ↦ (o, sweep_was e before after region dead at o st r h, l, refl, refl)
  | inr r ↦ untouched_was (Sweep region dead) before after at o (step_tells_before e before after (Sweep region dead) st) (λ q. r (sym (sweep_touches_its_region region dead at.region q))) (sweep_state region dead at (states_after after) r ∙ state_of_live _ o h l) h
]
was_there e before after (Reclaim region storage) at o st n h l = elim (cases_eq at.region region) [
  | inl r ↦ absurd (reclaimed_none e before after region storage at o st r h)
  | inr r ↦ untouched_was (Reclaim region storage) before after at o (step_tells_before e before after (Reclaim region storage) st) (λ q. r (sym (same_Some region at.region q))) (reclaim_state region storage at (states_after after) r ∙ state_of_live _ o h l) h
]
was_there e before after left at o st n h l = untouched_was left before after at o (step_tells_before e before after left st) (λ q. none-some at.region q) (state_of_live _ o h l) h

-- ---- an object that a step wrote or created

-- the place of the object that a step with this record wrote, if it did
abbrev put_at : Undo → Option ObjRef
put_at (Put at slot old) = Some at
put_at (Store at slot old logged) = Some at
put_at left = None

live_place : (w : HeapState) (x : ℕ) (at : ObjRef) → IsLive w x → place_of w x ≡ at → cell_state (object_at w.regions at) ≡ 1
live_place w x at l e =
    let p = place_of_object_of_id w.regions x l.0 l.1 in
    subst (λ (b : ObjRef). cell_state (object_at w.regions b) ≡ 1) (sym (place_of_id_by_ref w x p.0 p.1) ∙ e) (state_of_live _ l.0 p.2 l.2)

-- an object of which a register holds the id is live
live_register : (w : HeapState) (m r : ℕ) (at : ObjRef) → IsLegal w → is_register w m r ≡ true → (register w m r == 0) ≡ false → place_of w (register w m r) ≡ at → cell_state (object_at w.regions at) ≡ 1
live_register w m r at legal there some e =
    live_place w (register w m r) at (legal.registers_live (register w m r) (register_member w m r there) (λ z. true≢false (sym (ap (λ (x : ℕ). x == 0) z) ∙ some))) e

-- a step that makes an object, if there is room, writes none
none_put : (p : Option (ObjRef × Bool)) (m r old : ℕ) → put_at (option_map_or (λ (p : ObjRef × Bool). Undo.New p.0 p.1 m r old) p (Undo.Reg m r old)) ≡ None
none_put None m r old = refl
none_put (Some p) m r old = refl

live_before_write : (e : Event) (w : HeapState) (at : ObjRef) → IsLegal w → refusal_of e w ≡ None → put_at (undo_record e w) ≡ Some at → cell_state (object_at w.regions at) ≡ 1
unfolding undo_record refusal_of new_record reg_record sweep_record put_refusal store_refusal
live_before_write (Event.Put m target slot value) w at legal ok h =
    let ts = no_refusal_test_holds _ ok in
    live_register w m target at legal (not_false_is_true _ ts.0) ts.1.0 (same_Some _ at h)
live_before_write (Event.Store m target slot source) w at legal ok h =
    let ts = no_refusal_test_holds _ ok in
    live_register w m target at legal (both_registers _ _ ts.0).0 ts.1.0 (same_Some _ at h)
live_before_write (Event.New m r class) w at legal ok h = absurd (none-some at (sym (none_put _ m r _) ∙ h))
live_before_write (Event.NewArray m r class len) w at legal ok h = absurd (none-some at (sym (none_put _ m r _) ∙ h))
live_before_write (Event.NewPrim m r kind len) w at legal ok h = absurd (none-some at (sym (none_put _ m r _) ∙ h))
live_before_write (Event.Sweep region) w at legal ok h = absurd (none-some at (sym (go (is_emptied region (pool_of w)) _ _) ∙ h))
  where
    go : (b : Bool) (u : UsedRegion) (dead : List (ℕ × Object)) → put_at (cond b (Undo.Reclaim region u) (Undo.Sweep region dead)) ≡ None
    go true u dead = refl
    go false u dead = refl
live_before_write e w at legal ok h = absurd (none-some at h)

pub written_live : (e : Event) (before after : HeapState) (left : Undo) (at : ObjRef) → IsStep e before after left → written_at left ≡ Some at → (o : Object) × (object_at after.regions at ≡ Some o) × (o.live ≡ true)
unfolding states_before new_object
written_live e before after (Put a s old) at st h =
    let was = live_before_write e before at st.legal st.accepted (ap put_at (sym st.recorded) ∙ h) in
    live_of_state (object_at after.regions at) (sym ((step_tells_before e before after (Put a s old) st).states at) ∙ was)
written_live e before after (Store a s old logged) at st h =
    let was = live_before_write e before at st.legal st.accepted (ap put_at (sym st.recorded) ∙ h) in
    live_of_state (object_at after.regions at) (sym ((step_tells_before e before after (Store a s old logged) st).states at) ∙ was)
written_live e before after (New a fresh m r old) at st h =
    let c = by_record e before a fresh (ap new_at (sym st.recorded)) in
    let here = new_object_stands_at_place before c.0 c.1 c.2 c.3 a fresh st.legal c.5 in
    (new_object c.3 c.2 before, ap (object_at after.regions) (sym (same_Some a at h)) ∙ ap (λ (w : HeapState). object_at w.regions a) (st.gave ∙ c.4) ∙ here, refl)
written_live e before after left at st h = absurd (none-some at h)

-- ---- what a pin shows of it

pub seen_as : (u w : HeapState) (p : PinContents) (at : ObjRef) (o : Object) → IsShownBeside w p u → object_at u.regions at ≡ Some o → seen_object p w at ≡ shown u.regions (at, o)
seen_as u w p at o h here = ap seen_or (object_seen_as_dump_shows p u w at o h.1 here)

pub sees_written_or_made : (t : Trail) (n : ℕ) (left : Undo) (w : HeapState) (p : PinContents) → IsShownBeside w p (state_ago n t) → HasRecord t n left → SeesWritten p w left
sees_written_or_made t n left w p h r at e =
    let o = written_live r.0 (state_ago (n + 1) t) (state_ago n t) left at r.1 e in
    (seen_beside (state_ago n t) w p at o.0 h o.1, subst (λ (d : Option DumpedObject). IsSome d) (sym (object_seen_as_dump_shows p (state_ago n t) w at o.0 h.1 o.1)) refl)

-- it is wanted, so the state has one
pub wanted_here : (t : Trail) (n : ℕ) (left : Undo) (w : HeapState) (p : PinContents) (wanted : Wanted) → IsShownBeside w p (state_ago n t) → HasRecord t n left → writes_wanted p w left wanted ≡ true → HoldsAgo (HasWanted wanted) t n
wanted_here t n left w p wanted h r = go (written_at left) refl
  where
    go : (x : Option ObjRef) → written_at left ≡ x → option_map_or (λ at. let o = seen_object p w at in is_wanted wanted o.kind o.words) x false ≡ true → HoldsAgo (HasWanted wanted) t n
    go None e b = absurd (false≢true b)
    go (Some at) e b =
        let o = written_live r.0 (state_ago (n + 1) t) (state_ago n t) left at r.1 e in
        shown_if_stands wanted (state_ago n t) at (o.0, o.1, o.2, sym (ap (λ (d : DumpedObject). is_wanted wanted d.kind d.words) (seen_as (state_ago n t) w p at o.0 h o.1)) ∙ b)

-- it isn't, so one that the state has was there before
pub wanted_before : (t : Trail) (n : ℕ) (left : Undo) (w : HeapState) (p : PinContents) (wanted : Wanted) → IsShownBeside w p (state_ago n t) → HasRecord t n left → writes_wanted p w left wanted ≡ false → HoldsAgo (HasWanted wanted) t n → HoldsAgo (HasWanted wanted) t (n + 1)
wanted_before t n left w p wanted h r b has =
    let s = stands_if_shown wanted (state_ago n t) has in
    let o = s.1 in
    let was = was_there r.0 (state_ago (n + 1) t) (state_ago n t) left s.0 o.0 r.1 (other s.0 o) o.1 o.2 in
    shown_if_stands wanted (state_ago (n + 1) t) s.0 (was.0, was.1, was.2, ap₂ (λ k ws. is_wanted wanted k ws) was.3 was.4 ∙ o.3)
  where
    other : (at : ObjRef) → StandsWanted wanted (state_ago n t) at → written_at left ≢ Some at
    other at o e =
        let is : writes_wanted p w left wanted ≡ true = ap (λ (x : Option ObjRef). option_map_or (λ at. let o = seen_object p w at in is_wanted wanted o.kind o.words) x false) e
        ∙ ap (λ (d : DumpedObject). is_wanted wanted d.kind d.words) (seen_as (state_ago n t) w p at o.0 h o.1) ∙ o.3 in
        true≢false (sym is ∙ b)

-- ---- one state after another

-- if it doesn't hold of the oldest state so far, the first place of the newer ones is told
abbrev pub IsFirstUnless : (Image → Type 0) → Trail → ℕ → Option ℕ → Type 0
IsFirstUnless P t n first = ¬ HoldsAgo P t n → IsFirstPlace P t n first

pub none_yet : (P : Image → Type 0) (t : Trail) (first : Option ℕ) → first ≡ None → IsFirstUnless P t 0 first
none_yet P t first e never = subst (IsFirstPlace P t 0) (sym e) (λ n l h. never (subst (HoldsAgo P t) (let z : n ≡ 0 = omega (arith, l) in z) h))

pub one_older : (P : Image → Type 0) (t : Trail) (n : ℕ) (first : Option ℕ) → IsFirstPlace P t n first → ¬ HoldsAgo P t (n + 1) → IsFirstPlace P t (n + 1) first
one_older P t n None f never = λ k l. elim (cases_eq k (n + 1)) [
  | inl e ↦ subst (λ j. ¬ HoldsAgo P t j) (sym e) never
  | inr d ↦ f k (omega (arith, l, d))
]
one_older P t n (Some x) f never =
    let within : f.0 ≤ n + 1 = omega (arith, f.1) in (
      f.0,
      within,
      f.2,
      f.3,
      λ k a l. elim (cases_eq k (n + 1)) [
        | inl e ↦ subst (λ j. ¬ HoldsAgo P t j) (sym e) never
        | inr d ↦ f.4 k a (omega (arith, l, d))
      ],
    )

pub first_more : (P : Image → Type 0) (t : Trail) (n place : ℕ) (b : Bool) (first : Option ℕ) → place ≡ t.place - n → (b ≡ true → HoldsAgo P t n) → (b ≡ false → HoldsAgo P t n → HoldsAgo P t (n + 1)) → IsFirstUnless P t n first → IsFirstUnless P t (n + 1) (place_if b place first)
first_more P t n place true first e here before f never =
    (n, let z : n ≤ n + 1 = omega arith in z, e, here refl, λ k a l. subst (λ j. ¬ HoldsAgo P t j) (let z : n + 1 ≡ k = omega (arith, a, l) in z) never)
first_more P t n place false first e here before f never = one_older P t n first (f (λ h. never (before refl h))) never

pub first_of_all : (P : Image → Type 0) (t : Trail) (n place : ℕ) (b : Bool) (first : Option ℕ) → place ≡ t.place - n → (b ≡ true → HoldsAgo P t n) → (HoldsAgo P t n → b ≡ true) → IsFirstUnless P t n first → IsFirstPlace P t n (place_if b place first)
first_of_all P t n place true first e here told f = (n, let z : n ≤ n = omega arith in z, e, here refl, λ k a l. absurd (omega (arith, a, l)))
first_of_all P t n place false first e here told f = f (λ h. false≢true (told h))

-- ---- the view of a pin that was walked back

pin_of : (t : Trail) (n : ℕ) (p : PinContents) → IsPinAgo p t n → IsPinOf p (state_ago n t)
pin_of t n p h = (walked_pin_holds_its_state p (state_ago n t) n (t.current ∷ t.past) h).pin

pub shows_some : (t : Trail) (n : ℕ) (w : HeapState) (p : PinContents) → w ≡ t.current → IsPinAgo p t n → ShowsSome p w
shows_some t n w p now h = (state_ago n t, pin_of t n p h, (shown_beside t n w p now h).1)

pub image_ago : (t : Trail) (n : ℕ) (w : HeapState) (p : PinContents) → w ≡ t.current → IsPinAgo p t n → pin_image p w ≡ image_of (state_ago n t)
image_ago t n w p now h = image_is p (state_ago n t) w (pin_of t n p h) (shown_beside t n w p now h).1

-- ---- a walk over a view

-- none of the first i objects is wanted
abbrev pub AreUnwanted : Wanted → Image → ℕ → Type 0
AreUnwanted wanted image i = (k : ℕ) (o : DumpedObject) → k < i → slice_get image.objects k ≡ Some o → is_wanted wanted o.kind o.words ≡ false

pub unwanted_more : (wanted : Wanted) (image : Image) (i : ℕ) (o : DumpedObject) → AreUnwanted wanted image i → slice_get image.objects i ≡ Some o → is_wanted wanted o.kind o.words ≡ false → AreUnwanted wanted image (i + 1)
unwanted_more wanted image i o others h n k p lt g = elim (cases_eq k i) [
  | inl q ↦
      let same : Some p ≡ Some o = sym g ∙ ap (slice_get image.objects) q ∙ h in
      ap (λ (d : DumpedObject). is_wanted wanted d.kind d.words) (same_Some p o same) ∙ n
  | inr q ↦ others k p (omega (arith, lt, q)) g
]

pub is_shown : (wanted : Wanted) (image : Image) (i : ℕ) (o : DumpedObject) → slice_get image.objects i ≡ Some o → is_wanted wanted o.kind o.words ≡ true → HasWanted wanted image
is_shown wanted image i o h y = (o, (i, slice_get_within image.objects i o h, get_or_from_slice_get image.objects i o o h), y)

pub none_shown : (wanted : Wanted) (image : Image) (i : ℕ) → AreUnwanted wanted image i → i ≡ length image.objects → ¬ HasWanted wanted image
none_shown wanted image i none all h =
    let c = h.1 in
    let there : slice_get image.objects c.0 ≡ Some h.0 = slice_get-get_or image.objects c.0 h.0 c.1 ∙ ap Some c.2 in
    false≢true (sym (none c.0 h.0 (omega (arith, c.1, all)) there) ∙ h.2)
