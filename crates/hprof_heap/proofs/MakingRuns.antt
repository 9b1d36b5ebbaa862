-- The events that make objects can run.
use Rattle.std.proofs.Common.{◌≡◌, ◌≢◌, ℕ, zero, suc, ◌+◌, ◌%◌, ◌^◌, ◌<◌, ◌≤◌, Bool, true, false, List, [], ◌∷◌, ◌++◌, length, replicate, refl, sym, ap, subst, ◌∙◌, Option, Some, None, inl, inr, arith}
use Rattle.std.specs.Prelude.{slice_get, flat_map, ◌==◌, ◌||◌, if◌then◌else◌}
use Rattle.std.proofs.lemmas.Bool.{cases_lt, or_parts, eqb-false}
use Rattle.std.proofs.lemmas.List.{length-replicate}
use Rattle.heap_class.specs.declared.Kind.{Kind}
use Rattle.heap_class.specs.declared.ObjKind.{ObjKind}
use Rattle.heap_class.specs.declared.ObjKind.TheVariants.{Instance, Array, Prim}
use Rattle.heap_class.specs.Classes.{Class, is_array_class, is_instance_class, slot_kinds_of}
use Rattle.heap_class.specs.Kinds.{is_reference, value_limit}
use Rattle.heap_step.specs.declared.Event.{Event}
use Rattle.heap_step.specs.declared.Event.TheVariants.{NewArray, Put, Store}
use Rattle.hprof_session.specs.Places.{array_events, array_slot, keep_event, place_events, slot_of, top_events, top_of}
use Rattle.hprof_lines.specs.declared.values.SlotValue.{SlotValue}
use Rattle.hprof_lines.specs.Objects.{shown, value_events}
use Rattle.hprof_heap.specs.ToldObjects.{ObjectTold}
use Rattle.hprof_heap.proofs.Graphs.{Graph, IsCreation, thing_after_creation, older_is_not_new}
use Rattle.hprof_heap.proofs.PlaceNumbers.{few_arrays, few_slots, few_tops}
use Rattle.hprof_heap.proofs.Placed.{ArePlaced, IsArrayOf, IsPlaceArray, IsTop, Role, keeper, place_array_is_there}
use Rattle.hprof_heap.proofs.Filled.{put_value, put_values, with_value, length_with_value}
use Rattle.hprof_heap.proofs.Making.{IsKeeperReady, IsSized, block_is_made, creation_of, creation_step, made_block, made_tail, place_is_ready, top_is_ready}
use Rattle.hprof_heap.proofs.MakingPass.{AreRight, makings, past_block_is_empty, block_below_last}
use Rattle.hprof_heap.proofs.Acceptable.{CanRun, CanStep, HasSlotOf, can_run_both}

pub copies_are_there : (x : Kind) (n i : ℕ) → i < n → slice_get (replicate n x) i ≡ Some x
copies_are_there x zero i l = absurd (omega (arith, l))
copies_are_there x (suc n) zero l = refl
copies_are_there x (suc n) (suc i) l = copies_are_there x n i (omega (arith, l))

-- an array of references has slots for them
pub array_has_slot : (classes : List Class) (class n : ℕ) (g : Graph) (x slot : ℕ) → slot < n → IsArrayOf class n g x → HasSlotOf classes g x slot Kind.Object
unfolding slot_kinds_of
array_has_slot classes class n g x slot l p = (p.0, p.1, ap (λ kind. slice_get (slot_kinds_of classes kind (length p.0.words)) slot) p.2 ∙ copies_are_there Kind.Object (length p.0.words) slot (omega (arith, l, p.3)))

pub can_run_if : (classes : List Class) (most : ℕ) (slots : ℕ → ℕ) (b : Bool) (xs : List Event) (g : Graph) → CanRun classes most slots xs g → CanRun classes most slots (if b then xs else []) g
can_run_if classes most slots true xs g c = c
can_run_if classes most slots false xs g c = tt

-- ---- places

top_can_run : (classes : List Class) (most : ℕ) (slots : ℕ → ℕ) (class n : ℕ) (g : Graph) → is_array_class classes class ≡ true → 1024 ≤ most → n < 2 ^ 22 → CanRun classes most slots (top_events class n) g
top_can_run classes most slots class n g arrays room few =
    can_run_if classes most slots (n % 2 ^ 20 == 0) (NewArray 0 (top_of n) class 1024 ∷ []) g (((let s : top_of n < 4 = few_tops n few in omega (arith, s)), arrays, room), λ h s. tt)

array_can_run : (classes : List Class) (most : ℕ) (slots : ℕ → ℕ) (class n : ℕ) (role : ℕ → Role) (g : Graph) → is_array_class classes class ≡ true → 1024 ≤ most → n < 2 ^ 22 → IsTop class role g n → CanRun classes most slots (array_events class n) g
array_can_run classes most slots class n role g arrays room few top =
    can_run_if classes most slots (n % 1024 == 0) (NewArray 0 4 class 1024 ∷ Store 0 (top_of n) (array_slot n) 4 ∷ []) g ((omega arith, arrays, room), λ h c. (((omega (arith, small)), omega arith, (Kind.Object, there h c, refl)), λ k s. tt))
  where
    small : top_of n < 4
    small = few_tops n few

    there : (h : Graph) → IsCreation 4 (Array class) 1024 g h → HasSlotOf classes h (h.registers (top_of n)) (array_slot n) Kind.Object
    there h c = array_has_slot classes class 1024 h (h.registers (top_of n)) (array_slot n) (few_arrays n)
        (subst (IsArrayOf class 1024 h) (sym (c.registers (top_of n) (λ e. omega (arith, small, e))))
        (top.there.0, thing_after_creation 4 (Array class) 1024 g h (g.registers (top_of n)) c (place_array_is_there class g (g.registers (top_of n)) top.there) ∙ top.there.1, top.there.2, top.there.3))

place_can_run : (classes : List Class) (most : ℕ) (slots : ℕ → ℕ) (class : ℕ) (made : ℕ → Bool) (n : ℕ) (role : ℕ → Role) (g : Graph) → is_array_class classes class ≡ true → 1024 ≤ most → n < 2 ^ 22 → ArePlaced class made n role g
    → CanRun classes most slots (place_events class n) g
place_can_run classes most slots class made n role g arrays room few a =
    can_run_both classes most slots (top_events class n) (array_events class n) g (top_can_run classes most slots class n g arrays room few)
    (λ h r. (let t = top_is_ready slots class made n role g h few a r in array_can_run classes most slots class n t.led.after h arrays room few t.top))

-- ---- an object

-- the slot of a value is of its kind, and a value that is put is in the range of the kind
pub record FitsSlot (classes : List Class) (kind : ObjKind) (n : ℕ) (v : SlotValue) : Type 0 where
  pub slot : slice_get (slot_kinds_of classes kind n) v.slot ≡ Some v.kind
  pub range : is_reference v.kind ≡ false → v.value ≢ 0 → shown v.kind v.value < value_limit v.kind

abbrev pub FitSlots : List Class → ObjKind → ℕ → List SlotValue → Type 0
FitSlots classes kind n [] = Unit {0}
FitSlots classes kind n (v ∷ values) = FitsSlot classes kind n v × FitSlots classes kind n values

-- the kind of an object exists, and an array isn't too long
abbrev pub MayBeMade : List Class → ℕ → ObjKind → ℕ → Type 0
MayBeMade classes most (Instance class) n = is_instance_class classes class ≡ true
MayBeMade classes most (Array class) n = (is_array_class classes class ≡ true) × (n ≤ most)
MayBeMade classes most (Prim kind) n = (is_reference kind ≡ false) × (n ≤ most)

creation_can_step : (classes : List Class) (most : ℕ) (kind : ObjKind) (n : ℕ) (g : Graph) → MayBeMade classes most kind n → CanStep classes most (creation_of kind n) g
creation_can_step classes most (Instance class) n g m = (omega arith, m)
creation_can_step classes most (Array class) n g m = (omega arith, m.0, m.1)
creation_can_step classes most (Prim kind) n g m = (omega arith, m.0, m.1)

value_can_run : (classes : List Class) (most : ℕ) (slots : ℕ → ℕ) (z : ℕ) (kind : ObjKind) (old : List ℕ) (v : SlotValue) (g : Graph) → g.registers 5 ≡ z → g.things z ≡ Some (record { kind = kind; words = old }) → FitsSlot classes kind (length old) v
    → CanRun classes most slots (value_events v) g
unfolding value_events
value_can_run classes most slots z kind old v g e before f = go (is_reference v.kind || v.value == 0) refl
  where
    go : (b : Bool) → (is_reference v.kind || v.value == 0) ≡ b → CanRun classes most slots (if b then [] else Put 0 5 v.slot (shown v.kind v.value) ∷ []) g
    go true t = tt
    go false t =
        let p = or_parts (is_reference v.kind) (v.value == 0) t in
        ((omega arith, (v.kind, (record { kind = kind; words = old }, ap g.things e ∙ before, f.slot), p.0, f.range p.0 (eqb-false v.value 0 p.1))), λ h s. tt)

values_can_run : (classes : List Class) (most : ℕ) (slots : ℕ → ℕ) (z : ℕ) (kind : ObjKind) (values : List SlotValue) (old : List ℕ) (g : Graph) → g.registers 5 ≡ z → g.things z ≡ Some (record { kind = kind; words = old })
    → FitSlots classes kind (length old) values → CanRun classes most slots (flat_map value_events values) g
values_can_run classes most slots z kind [] old g e before f = tt
values_can_run classes most slots z kind (v ∷ values) old g e before f =
    can_run_both classes most slots (value_events v) (flat_map value_events values) g (value_can_run classes most slots z kind old v g e before f.0)
    (λ h r. (let p = put_value slots z kind old v g h e before r in
    values_can_run classes most slots z kind values (with_value old v) h (p.0.registers 5 ∙ e) p.0.filled.here (subst (λ n. FitSlots classes kind n values) (sym (length_with_value old v)) f.1)))

-- what is asked of an object
pub record MayBeTold (classes : List Class) (most : ℕ) (slots : ℕ → ℕ) (t : ObjectTold) : Type 0 where
  pub sized : IsSized slots t.kind t.slots
  pub may : MayBeMade classes most t.kind t.slots
  pub fit : FitSlots classes t.kind t.slots t.values

tail_can_run : (classes : List Class) (most : ℕ) (slots : ℕ → ℕ) (class : ℕ) (made : ℕ → Bool) (n : ℕ) (t : ObjectTold) (role : ℕ → Role) (g f : Graph) → MayBeTold classes most slots t → IsKeeperReady class made n role g f → CanRun classes most slots (made_tail n (Some t)) f
tail_can_run classes most slots class made n t role g f m p = (creation_can_step classes most t.kind t.slots f m.may, λ h s. after h (creation_step slots t.kind t.slots f h m.sized s))
  where
    after : (h : Graph) → IsCreation 5 t.kind t.slots f h → CanRun classes most slots (flat_map value_events t.values ++ keep_event n ∷ []) h
    after h c =
        can_run_both classes most slots (flat_map value_events t.values) (keep_event n ∷ []) h
        (values_can_run classes most slots (h.registers 5) t.kind t.values (replicate t.slots 0) h refl c.here (subst (λ k. FitSlots classes t.kind k t.values) (sym (length-replicate t.slots 0)) m.fit))
        (λ k r. (let q = put_values slots (h.registers 5) t.kind t.values (replicate t.slots 0) h k refl c.here r in
        let four : k.registers 4 ≡ keeper f n = q.0.registers 4 ∙ c.registers 4 (omega arith) ∙ p.current in
        let there = place_array_is_there class f (keeper f n) p.array.there in
        let still : k.things (keeper f n) ≡ f.things (keeper f n) = q.0.filled.others (keeper f n) (older_is_not_new 5 t.kind t.slots f h (keeper f n) c there) ∙ thing_after_creation 5 t.kind t.slots f h (keeper f n) c there in
        ((omega arith, omega arith, (Kind.Object, array_has_slot classes class 1024 k (k.registers 4) (slot_of n) (few_slots n) (subst (IsPlaceArray class k) (sym four) (p.array.there.0, still ∙ p.array.there.1, p.array.there.2, p.array.there.3)), refl)), λ i s. tt)))

block_can_run : (classes : List Class) (most : ℕ) (slots : ℕ → ℕ) (class : ℕ) (made : ℕ → Bool) (n : ℕ) (x : Option ObjectTold) (role : ℕ → Role) (g : Graph) → is_array_class classes class ≡ true → 1024 ≤ most → n < 2 ^ 22
    → ((t : ObjectTold) → x ≡ Some t → MayBeTold classes most slots t) → ArePlaced class made n role g → CanRun classes most slots (made_block class n x) g
block_can_run classes most slots class made n x role g arrays room few may a =
    can_run_both classes most slots (place_events class n) (made_tail n x) g (place_can_run classes most slots class made n role g arrays room few a)
    (λ h r. by_object x may h (place_is_ready slots class made n role g h few a r))
  where
    by_object : (x : Option ObjectTold) → ((t : ObjectTold) → x ≡ Some t → MayBeTold classes most slots t) → (h : Graph) → IsKeeperReady class made n role g h → CanRun classes most slots (made_tail n x) h
    by_object None may h p = tt
    by_object (Some t) may h p = tail_can_run classes most slots class made n t role g h (may t refl) p

-- ---- all objects

abbrev pub MayAllBeTold : List Class → ℕ → (ℕ → ℕ) → List (Option ObjectTold) → Type 0
MayAllBeTold classes most slots [] = Unit {0}
MayAllBeTold classes most slots (x ∷ xs) = ((t : ObjectTold) → x ≡ Some t → MayBeTold classes most slots t) × MayAllBeTold classes most slots xs

past_can_run : (classes : List Class) (most : ℕ) (slots : ℕ → ℕ) (class n : ℕ) (list : List (Option ObjectTold)) (g : Graph) → 2 ^ 22 ≤ n → CanRun classes most slots (makings class n list) g
past_can_run classes most slots class n [] g past = tt
past_can_run classes most slots class n (x ∷ xs) g past = subst (λ es. CanRun classes most slots (es ++ makings class (n + 1) xs) g) (sym (past_block_is_empty class n x past)) (past_can_run classes most slots class (n + 1) xs g (omega (arith, past)))

pub makings_can_run : (classes : List Class) (most : ℕ) (slots : ℕ → ℕ) (class : ℕ) (made : ℕ → Bool) (n : ℕ) (list : List (Option ObjectTold)) (role : ℕ → Role) (g : Graph) → is_array_class classes class ≡ true → 1024 ≤ most
    → AreRight slots made n list → MayAllBeTold classes most slots list → ArePlaced class made n role g → CanRun classes most slots (makings class n list) g
makings_can_run classes most slots class made n [] role g arrays room right may a = tt
makings_can_run classes most slots class made n (x ∷ xs) role g arrays room right may a = elim (cases_lt n (2 ^ 22)) [
  | inr past ↦ past_can_run classes most slots class n (x ∷ xs) g past
  | inl less ↦ subst (λ es. CanRun classes most slots (es ++ makings class (n + 1) xs) g) (sym (block_below_last class n x less))
      (can_run_both classes most slots (made_block class n x) (makings class (n + 1) xs) g (block_can_run classes most slots class made n x role g arrays room less may.0 a)
      (λ h r. (let b = block_is_made slots class made n x role g h less right.0.told right.0.sized a r in
      makings_can_run classes most slots class made (n + 1) xs b.after h arrays room right.1 may.1 b.placed)))
]
