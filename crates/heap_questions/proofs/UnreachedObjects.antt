-- What no register reaches isn't reached after an event either.
use Rattle.std.proofs.Common.{◌≡◌, ◌≢◌, ◌⊎◌, ℕ, zero, suc, ◌+◌, ◌*◌, ◌<◌, Bool, true, false, List, [], ◌∷◌, ◌++◌, length, drop, set, replicate, Option, Some, None, IsSome, Contains, refl, sym, ap, subst, ◌∙◌, inl, inr, arith}
use Rattle.std.specs.Prelude.{slice_get, slice_index, option_map, option_and_then, if◌then◌else◌}
use Rattle.std.specs.Option.{option_map_or}
use Rattle.std.proofs.lemmas.Bool.{false≢true}
use Rattle.std.proofs.lemmas.List.{length-replicate}
use Rattle.std.proofs.lemmas.Option.{same_Some, slice_get_within}
use Rattle.heap_region.proofs.PriorObjects.{places_equal_or_different}
use Rattle.heap_class.specs.declared.ObjKind.{ObjKind}
use Rattle.heap_class.specs.declared.ObjKind.TheVariants.{Array, Instance, Prim}
use Rattle.heap_class.specs.declared.ObjRef.{ObjRef}
use Rattle.heap_class.specs.Classes.{Class, array_class, instance_class, slots_of}
use Rattle.heap_class.proofs.Refusals.{no_refusal_test_holds}
use Rattle.heap_region.specs.Regions.{Object, Region, UsedRegion, cell_count, id_of, object_at, object_of, ref_of, references_of, slot_kinds, used_at, with_object, with_word}
use Rattle.heap_region.specs.Pool.{RegionPool, allocated, new_place, taken}
use Rattle.heap_region.proofs.AllocatedRegions.{IsNewCell, new_cell}
use Rattle.heap_region.proofs.ChangedLookups.{place_of_object_of_id, same_or_not}
use Rattle.heap_region.proofs.FoundObjects.{ref_taken, object_in_other_than_taken_cell, object_in_taken_cell}
use Rattle.heap_region.proofs.Ids.{ref_back, object_of_id_after_other_change, object_of_id_after_its_change, null_names_none}
use Rattle.heap_region.proofs.Lookups.{used_region_after_its_change}
use Rattle.heap_region.proofs.References.{member_stands_at_reference_slot, reference_was, references_by_slots, references_in}
use Rattle.heap_world.specs.Phase.{Phase}
use Rattle.heap_world.specs.Phase.TheVariants.{Marking}
use Rattle.heap_world.specs.MarkSteps.{children_of, drained_once, each_region, finished, finished_region, marked, snapped}
use Rattle.heap_world.proofs.Shades.{children_same, shades_all}
use Rattle.heap_world.specs.Events.{after_class, after_drain, after_finish, after_load, after_mark, after_move, after_new, after_snap, after_sweep, is_reference_slot, load_refusal, move_refusal, new_object}
use Rattle.heap_world.specs.Legal.{HasKind, IsLegal, IsLive}
use Rattle.heap_world.specs.Reach.{IsObject, Names, Reaches}
use Rattle.heap_world.specs.State.{HeapState, pool_of, register, with_pool, with_register, word_of}
use Rattle.heap_world.proofs.Clauses.{legal_heap_has_clauses}
use Rattle.heap_world.proofs.Finish.{object_named_after_finish, settled, references_settled}
use Rattle.heap_world.proofs.Marks.{begun, shaded_heap}
use Rattle.heap_world.proofs.Registers.{member_of_set_list, naming_id_names_an_object, names_of, register_member, second_register, slot_names}
use Rattle.heap_world.proofs.Shelter.{reach_induction}
use Rattle.heap_world.proofs.Sweep.{sweep_leaves_live}
use Rattle.heap_world.proofs.WordWrites.{IsReferenceSlot, with_object_word, written}
use Rattle.heap_world.proofs.WriteEvents.{WriteForm, place_of_id_by_ref, form_after_put, store_form}
use Rattle.heap_step.specs.declared.Event.{Event}
use Rattle.heap_step.specs.declared.Event.TheVariants.{ArrayClass, Clear, Drain, Finish, Load, Mark, Move, New, NewArray, NewPrim, Put, Snap, Store, Sweep}
use Rattle.heap_step.specs.Apply.{refusal_of, state_after}
use Rattle.heap_step.proofs.CreationUndo.{free_list_head_is_empty, pool_empty}
use Rattle.heap_questions.specs.Losses.{StaysUnreached}
use Rattle.heap_questions.proofs.ImagePaths.{reaches_next}
use Rattle.heap_world.proofs.ClassEvents.{slot_kinds_with_one_class_more}

-- ---- from one state to another

-- each object that a slot names in v is named by the slot's object in w too, or by a register of w
abbrev NamesLess : HeapState → HeapState → Type 0
NamesLess w v = (x y : ℕ) → Names v x y → Names w x y ⊎ Contains w.registers y

-- each object of w that a register of v names was reached in w
abbrev HoldsReached : HeapState → HeapState → Type 0
HoldsReached w v = (x : ℕ) → Contains v.registers x → IsObject w x → Reaches w x

-- each object of w that registers reach in v was reached in w
abbrev ReachesLess : HeapState → HeapState → Type 0
ReachesLess w v = (x : ℕ) → IsObject w x → Reaches v x → Reaches w x

reaches_register : (w : HeapState) (x : ℕ) → Contains w.registers x → IsObject w x → Reaches w x
reaches_register w x c there = (x, [], c, there, refl)

namer_there : (w : HeapState) (x y : ℕ) → Names w x y → IsObject w x
namer_there w x y n = let o = naming_id_names_an_object w x y n in subst IsSome (sym o.1) refl

reached_before : (w v : HeapState) → HoldsReached w v → NamesLess w v → ReachesLess w v
reached_before w v roots names x there r = reach_induction v (λ x. IsObject w x → Reaches w x)
    (λ x c o. roots x c)
    (λ x y q n o there. elim (names x y n) [
      | inl m ↦ reaches_next w x y (q (namer_there w x y m)) m there
      | inr c ↦ reaches_register w y c there
    ])
    x r there

not_object : (w : HeapState) (x : ℕ) → object_of w.regions x ≡ None → IsObject w x → ⊥
not_object w x e o = false≢true (subst IsSome e o)

null_is_none : (w : HeapState) (x : ℕ) → x ≡ 0 → IsObject w x → ⊥
null_is_none w x e o = not_object w x (ap (object_of w.regions) e ∙ null_names_none w.regions) o

same_names : (w v : HeapState) → ((x : ℕ) → children_of v.classes v.regions x ≡ children_of w.classes w.regions x) → NamesLess w v
same_names w v e x y n = inl (subst (λ l. Contains l y) (e x) n)

-- ---- a class

references_more : (cs : List Class) (c : Class) (o : Object) → HasKind cs o.kind (length o.words) → references_of (cs ++ c ∷ []) o ≡ references_of cs o
unfolding slot_kinds
references_more cs c o h =
    references_by_slots (cs ++ c ∷ []) o
    ∙ ap (λ ks. references_in ks o.words) (slot_kinds_with_one_class_more cs c o.kind (length o.words) h)
    ∙ sym (references_by_slots cs o)

class_less : (w : HeapState) (c : Class) → IsLegal w → ReachesLess w (after_class c w)
unfolding after_class
class_less w c legal = reached_before w v (λ x d there. reaches_register w x d there) names
  where
    v : HeapState
    v = record w { classes = w.classes ++ c ∷ [] }

    names : NamesLess w v
    names x y n =
        let b = naming_id_names_an_object v x y n in
        let p = place_of_object_of_id w.regions x b.0 b.1 in
        inl (names_of w x y b.0 b.1 (subst (λ l. Contains l y) (references_more w.classes c b.0 (legal.objects p.0 b.0 p.2).kind) b.2))

-- ---- registers

-- a register may hold what was reached
write_less : (w : HeapState) (m r a : ℕ) → (IsObject w a → Reaches w a) → ReachesLess w (with_register m r a w)
write_less w m r a h = reached_before w (with_register m r a w)
    (λ x c there. elim (member_of_set_list w.registers (8 * m + r) a x c) [
      | inl e ↦ subst (Reaches w) (sym e) (h (subst (IsObject w) e there))
      | inr d ↦ reaches_register w x d there
    ])
    (λ x y n. inl n)

move_less : (w : HeapState) (m to from_m from : ℕ) → move_refusal m to from_m from w ≡ None → ReachesLess w (after_move m to from_m from w)
unfolding move_refusal after_move
move_less w m to from_m from accepted = write_less w m to (register w from_m from)
    (λ there. reaches_register w (register w from_m from) (register_member w from_m from (second_register _ _ (no_refusal_test_holds _ accepted).0)) there)

clear_less : (w : HeapState) (m r : ℕ) → ReachesLess w (with_register m r 0 w)
clear_less w m r = write_less w m r 0 (λ there. absurd (null_is_none w 0 refl there))

load_less : (w : HeapState) (m to from slot : ℕ) → load_refusal m to from slot w ≡ None → ReachesLess w (after_load m to from slot w)
unfolding load_refusal after_load
load_less w m to from slot accepted = go (register_member w m from (second_register _ _ (no_refusal_test_holds _ accepted).0)) (is_reference_slot w (register w m from) slot) refl
  where
    go : Contains w.registers (register w m from) → (b : Bool) → is_reference_slot w (register w m from) slot ≡ b → ReachesLess w (if b then with_register m to (word_of w (register w m from) slot) w else w)
    go held true e = write_less w m to (word_of w (register w m from) slot)
        (λ there. elim (slot_names w (register w m from) slot e) [
          | inl z ↦ absurd (null_is_none w (word_of w (register w m from) slot) z there)
          | inr n ↦ reaches_next w (register w m from) (word_of w (register w m from) slot) (reaches_register w (register w m from) held (namer_there w (register w m from) (word_of w (register w m from) slot) n)) n there
        ])
    go held false e = λ x there r. r

-- ---- the marker

shaded_less : (w : HeapState) (g : List ℕ) (d : ℕ) (p : Phase) (xs : List ℕ) → ReachesLess w (shaded_heap w g d p xs)
shaded_less w g d p xs = reached_before w (shaded_heap w g d p xs)
    (λ x c there. reaches_register w x c there)
    (same_names w (shaded_heap w g d p xs) (children_same w.classes xs (begun w g d p) _ (shades_all xs (begun w g d p))))

snap_less : (w : HeapState) → ReachesLess w (after_snap w)
unfolding after_snap snapped
snap_less w = shaded_less w w.gray w.drained Marking w.registers

mark_less : (w : HeapState) → ReachesLess w (after_mark w)
unfolding after_mark marked
mark_less w = shaded_less w (drop 1 w.gray) w.drained w.phase (children_of w.classes w.regions (slice_index w.gray 0))

drain_less : (w : HeapState) → ReachesLess w (after_drain w)
unfolding after_drain drained_once
drain_less w = shaded_less w w.gray (w.drained + 1) w.phase (slice_index w.log w.drained ∷ [])

settled_children : (classes : List Class) (w : HeapState) (x : ℕ) → children_of classes (each_region finished_region w.regions) x ≡ children_of classes w.regions x
unfolding children_of
settled_children classes w x = ap (λ (p : Option Object). option_map_or (references_of classes) p []) (object_named_after_finish w.regions x) ∙ go (object_of w.regions x)
  where
    go : (p : Option Object) → option_map_or (references_of classes) (option_map settled p) [] ≡ option_map_or (references_of classes) p []
    go None = refl
    go (Some o) = references_settled classes o

finish_less : (w : HeapState) → ReachesLess w (after_finish w)
unfolding after_finish finished
finish_less w = reached_before w (after_finish w) (λ x c there. reaches_register w x c there) (same_names w (after_finish w) (settled_children w.classes w))

-- ---- a written word

written_names : (w : HeapState) (at : ObjRef) (x : ℕ) (o : Object) (slot word : ℕ) (log : List ℕ) → ref_of w.regions x ≡ Some at → object_of w.regions x ≡ Some o → (IsReferenceSlot w.classes o slot → Contains w.registers word) → NamesLess w (written w at slot word log)
unfolding with_word
written_names w at x o slot word log p e may y z n = go (same_or_not y x)
  where
    f : Object → Object
    f = with_object_word slot word

    a : (b : Object) × (object_of (with_object at f w.regions) y ≡ Some b) × Contains (references_of w.classes b) z
    a = naming_id_names_an_object (written w at slot word log) y z n

    go : (y ≡ x) ⊎ (y ≢ x) → Names w y z ⊎ Contains w.registers z
    go (inl q) =
        let here : object_of (with_object at f w.regions) y ≡ Some (f o) = object_of_id_after_its_change w.regions y at f (ap (ref_of w.regions) q ∙ p) ∙ ap (λ k. option_map f (object_of w.regions k)) q ∙ ap (option_map f) e in
        let same : a.0 ≡ f o = same_Some a.0 (f o) (sym a.1 ∙ here) in
        elim (reference_was w.classes o slot word z (subst (λ (b : Object). Contains (references_of w.classes b) z) same a.2)) [
          | inl was ↦ inl (names_of w y z o (ap (object_of w.regions) q ∙ e) was)
          | inr new ↦ inr (subst (Contains w.registers) (sym new.0) (may new.1))
        ]
    go (inr m) = inl (names_of w y z a.0 (sym (object_of_id_after_other_change w.regions x y at f p (λ q. m (sym q))) ∙ a.1) a.2)

form_less : (w v : HeapState) (x slot word : ℕ) → WriteForm w x slot word v → ReachesLess w v
form_less w v x slot word f =
    let p = place_of_object_of_id w.regions x f.0 f.2 in
    subst (ReachesLess w) (sym f.4) (subst (λ at. ReachesLess w (written w at slot word f.1)) (sym (place_of_id_by_ref w x p.0 p.1))
    (reached_before w (written w p.0 slot word f.1) (λ y c there. reaches_register w y c there) (written_names w p.0 x f.0 slot word f.1 p.1 f.2 f.3.reference)))

-- ---- a new object

record IsNew (w : HeapState) (at : ObjRef) (o : Object) (regions : RegionPool) : Type 0 where
  named : (x : ℕ) → (object_of regions.regions x ≡ object_of w.regions x) ⊎ (object_of regions.regions x ≡ Some o)
  was_none : object_of w.regions (id_of regions.regions at) ≡ None

is_new : (w : HeapState) → IsLegal w → (at : ObjRef) (fresh : Bool) (o : Object) → new_place (length o.words) (pool_of w) ≡ Some (at, fresh) → IsNew w at o (allocated at fresh o (pool_of w))
unfolding object_of object_at taken
is_new w legal at fresh o place = subst (IsNew w at o) (sym c.is_taken) (record { named = λ x. go x (ref_of before x) refl; was_none = none })
  where
    c : IsNewCell at fresh o (pool_of w)
    c = new_cell at fresh o (pool_of w) place (free_list_head_is_empty w legal at) (pool_empty w legal at)

    before : List Region
    before = c.before.regions

    after : List Region
    after = (taken at o c.before).regions

    bare : object_at before at ≡ None
    bare = ap (option_and_then (λ (u : UsedRegion). option_and_then (λ (o : Option Object). o) (slice_get u.cells at.cell))) c.used ∙ ap (option_and_then (λ (o : Option Object). o)) c.empty

    go : (x : ℕ) (r : Option ObjRef) → ref_of before x ≡ r → (object_of after x ≡ object_of w.regions x) ⊎ (object_of after x ≡ Some o)
    go x None e = inl (ap (option_and_then (object_at after)) (ref_taken at o c.before x ∙ e) ∙ sym (ap (option_and_then (object_at before)) e) ∙ c.found x)
    go x (Some b) e = elim (places_equal_or_different at b) [
      | inl q ↦ inr (ap (option_and_then (object_at after)) (ref_taken at o c.before x ∙ e) ∙ ap (object_at after) (sym q) ∙ object_in_taken_cell at o c.before c.region None c.used c.empty)
      | inr n ↦ inl (ap (option_and_then (object_at after)) (ref_taken at o c.before x ∙ e) ∙ object_in_other_than_taken_cell at b o c.before n ∙ sym (ap (option_and_then (object_at before)) e) ∙ c.found x)
    ]

    whole : (u : UsedRegion) → (used_at w.regions at.region ≡ Some u) ⊎ (length u.cells ≡ cell_count u.cell_size) → length u.cells ≡ cell_count u.cell_size
    whole u (inl e) = (legal.regions.tables at.region u e).cells
    whole u (inr e) = e

    change : UsedRegion → UsedRegion
    change u = record u { cells = set u.cells at.cell (Some o); free = drop 1 u.free }

    back : ref_of after (id_of after at) ≡ Some at
    back =
        let within : at.cell < cell_count c.region.cell_size = omega (arith, slice_get_within c.region.cells at.cell None c.empty, whole c.region c.cells) in
        ref_back after at (change c.region) (used_region_after_its_change at.region change before ∙ ap (option_map change) c.used) within

    none : object_of w.regions (id_of after at) ≡ None
    none = sym (c.found (id_of after at)) ∙ ap (option_and_then (object_at before)) (sym (ref_taken at o c.before (id_of after at)) ∙ back) ∙ bare

zero_there : (n i : ℕ) → i < n → slice_get {X = ℕ} (replicate n 0) i ≡ Some 0
zero_there zero i h = absurd (omega (arith, h))
zero_there (suc n) zero h = refl
zero_there (suc n) (suc i) h = zero_there n i (omega (arith, h))

-- a new object names nothing
names_none : (w : HeapState) (classes : List Class) (kind : ObjKind) (n y : ℕ) → Contains (references_of classes (new_object kind n w)) y → ⊥
unfolding new_object
names_none w classes kind n y c =
    let o : Object = new_object kind n w in
    let r = member_stands_at_reference_slot (slot_kinds classes o) o.words y (subst (λ l. Contains l y) (references_by_slots classes o) c) in
    let l = slice_get_within (replicate n 0) r.0 y r.4 in
    r.5 (sym (same_Some 0 y (sym (zero_there n r.0 (omega (arith, l, length-replicate {A = ℕ} n 0))) ∙ r.4)))

-- the heap with the object at its place, and its id in the register
abbrev heap_with_made_object : HeapState → ℕ → ℕ → ObjRef → Bool → Object → HeapState
heap_with_made_object w m r at fresh o = let s : RegionPool = allocated at fresh o (pool_of w) in with_register m r (id_of s.regions at) (with_pool s w)

made_less : (w : HeapState) → IsLegal w → (m r n : ℕ) (kind : ObjKind) (at : ObjRef) (fresh : Bool) → new_place n (pool_of w) ≡ Some (at, fresh) → ReachesLess w (heap_with_made_object w m r at fresh (new_object kind n w))
unfolding new_object
made_less w legal m r n kind at fresh place = reached_before w v roots names
  where
    o : Object
    o = new_object kind n w

    s : RegionPool
    s = allocated at fresh o (pool_of w)

    v : HeapState
    v = heap_with_made_object w m r at fresh o

    new : IsNew w at o s
    new = is_new w legal at fresh o (ap (λ k. new_place k (pool_of w)) (length-replicate {A = ℕ} n 0) ∙ place)

    roots : HoldsReached w v
    roots x c there = elim (member_of_set_list w.registers (8 * m + r) (id_of s.regions at) x c) [
      | inl e ↦ absurd (not_object w x (ap (object_of w.regions) e ∙ new.was_none) there)
      | inr d ↦ reaches_register w x d there
    ]

    names : NamesLess w v
    names x y q =
        let b = naming_id_names_an_object v x y q in
        elim (new.named x) [
          | inl e ↦ inl (names_of w x y b.0 (sym e ∙ b.1) b.2)
          | inr e ↦ absurd (names_none w w.classes kind n y (subst (λ (p : Object). Contains (references_of w.classes p) y) (same_Some b.0 o (sym b.1 ∙ e)) b.2))
        ]

new_less : (w : HeapState) → IsLegal w → (m r n : ℕ) (kind : ObjKind) → ReachesLess w (after_new m r kind n w)
unfolding after_new
new_less w legal m r n kind = go (new_place n (pool_of w)) refl
  where
    go : (p : Option (ObjRef × Bool)) → new_place n (pool_of w) ≡ p → ReachesLess w (option_map_or (λ (p : ObjRef × Bool). heap_with_made_object w m r p.0 p.1 (new_object kind n w)) p w)
    go None e = λ x there r. r
    go (Some p) e = made_less w legal m r n kind p.0 p.1 e

-- ---- a sweep

-- what registers reach after a sweep was live and reached before
sweep_less : (w : HeapState) (region : ℕ) → IsLegal w → refusal_of (Sweep region) w ≡ None → ReachesLess w (after_sweep region w)
unfolding refusal_of after_sweep
sweep_less w region legal accepted x there r = (reach_induction (after_sweep region w) (λ x. IsLive w x × Reaches w x) root next x r).1
  where
    v : HeapState
    v = after_sweep region w

    live_there : (x : ℕ) → IsLive w x → IsObject w x
    live_there x l = subst IsSome (sym l.1) refl

    root : (x : ℕ) → Contains w.registers x → IsObject v x → IsLive w x × Reaches w x
    root x c o =
        let l = legal.registers_live x c (λ e. null_is_none v x e o) in
        (l, reaches_register w x c (live_there x l))

    next : (x y : ℕ) → IsLive w x × Reaches w x → Names v x y → IsObject v y → IsLive w y × Reaches w y
    next x y q n o =
        let b = naming_id_names_an_object v x y n in
        let named : Names w x y = names_of w x y b.0 (sym (sweep_leaves_live w region x accepted q.0) ∙ b.1) b.2 in
        let l = legal.slots_live x y q.0 named in
        (l, reaches_next w x y q.1 named (live_there y l))

-- ---- every event

reaches_less : (e : Event) (w : HeapState) → IsLegal w → refusal_of e w ≡ None → ReachesLess w (state_after e w)
unfolding state_after refusal_of
reaches_less (Event.Class name sup fields) w legal accepted = class_less w (instance_class name sup fields) legal
reaches_less (ArrayClass name) w legal accepted = class_less w (array_class name) legal
reaches_less (New m r class) w legal accepted = new_less w legal m r (length (slots_of w.classes class)) (Instance class)
reaches_less (NewArray m r class len) w legal accepted = new_less w legal m r len (Array class)
reaches_less (NewPrim m r kind len) w legal accepted = new_less w legal m r len (Prim kind)
reaches_less (Load m to from slot) w legal accepted = load_less w m to from slot accepted
reaches_less (Store m target slot source) w legal accepted = form_less w _ (register w m target) slot (register w m source) (store_form w m target slot source (legal_heap_has_clauses w legal) accepted)
reaches_less (Put m target slot value) w legal accepted = form_less w _ (register w m target) slot value (form_after_put w m target slot value (legal_heap_has_clauses w legal) accepted)
reaches_less (Move m to from_m from) w legal accepted = move_less w m to from_m from accepted
reaches_less (Clear m r) w legal accepted = clear_less w m r
reaches_less Snap w legal accepted = snap_less w
reaches_less Mark w legal accepted = mark_less w
reaches_less Drain w legal accepted = drain_less w
reaches_less Finish w legal accepted = finish_less w
reaches_less (Sweep region) w legal accepted = sweep_less w region legal accepted

pub stays_unreached : (e : Event) (w : HeapState) → StaysUnreached e w
stays_unreached e w legal accepted x there unreached reached = unreached (reaches_less e w legal accepted x there reached)
