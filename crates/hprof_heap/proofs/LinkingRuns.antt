-- The events that store references can run.
use Rattle.std.proofs.Common.{◌≡◌, ℕ, suc, ◌+◌, ◌<◌, Bool, true, false, List, [], ◌∷◌, ◌++◌, length, refl, sym, ap, subst, ◌∙◌, Option, Some, None, arith}
use Rattle.std.specs.Prelude.{not, flat_map, ◌==◌, if◌then◌else◌}
use Rattle.std.specs.List.{list_any}
use Rattle.std.proofs.lemmas.Bool.{and_parts}
use Rattle.heap_class.specs.declared.Kind.{Kind}
use Rattle.heap_class.specs.declared.ObjKind.{ObjKind}
use Rattle.heap_class.specs.Classes.{Class}
use Rattle.heap_class.specs.Kinds.{is_reference}
use Rattle.heap_step.specs.declared.Event.TheVariants.{Store}
use Rattle.hprof_session.specs.Places.{array_slot, fetch_events, slot_of, top_of}
use Rattle.hprof_lines.specs.declared.values.SlotValue.{SlotValue}
use Rattle.hprof_lines.specs.Objects.{names_object, stored}
use Rattle.hprof_heap.specs.ToldObjects.{ObjectTold}
use Rattle.hprof_heap.proofs.Graphs.{Graph, word_in, IsLoading}
use Rattle.hprof_heap.proofs.PlaceNumbers.{few_arrays, few_slots}
use Rattle.hprof_heap.proofs.Placed.{IsKeeper, IsPlaceArray, IsTop, Object, Role, keeper, kept}
use Rattle.hprof_heap.proofs.Making.{made_thing}
use Rattle.hprof_heap.proofs.Linking.{AreAsMade, AreFound, AreNamed, AreThere, block_is_linked, fetching_fills, first_is_there, for_its_number, found_after_filling, length_made, link_block, link_reference, link_values, linkings, object_is_fetched, others_are_there, plus_one, reference_of, with_reference}
use Rattle.hprof_heap.proofs.RootSteps.{few_of}
use Rattle.hprof_heap.proofs.Acceptable.{CanRun, HasSlotOf, can_run_both}
use Rattle.hprof_heap.proofs.MakingRuns.{FitSlots, FitsSlot, MayAllBeTold, MayBeTold, array_has_slot, can_run_if}

-- ---- fetching

pub fetch_can_run : (classes : List Class) (most : ℕ) (slots : ℕ → ℕ) (class : ℕ) (role : ℕ → Role) (r m : ℕ) (g : Graph) → r < 8 → top_of m < 4 → IsTop class role g m → IsKeeper class role g m → CanRun classes most slots (fetch_events m r) g
fetch_can_run classes most slots class role r m g few small t k =
    ((omega arith, omega (arith, small), (Kind.Object, array_has_slot classes class 1024 g (g.registers (top_of m)) (array_slot m) (few_arrays m) t.there)), λ h s. ((few, omega arith, (Kind.Object, there h s)), λ i q. tt))
  where
    there : (h : Graph) → IsLoading 4 (top_of m) (array_slot m) g h → HasSlotOf classes h (h.registers 4) (slot_of m) Kind.Object
    there h s =
        let four : h.registers 4 ≡ keeper g m = s.loaded class t.there.0 t.there.1 t.there.2 ∙ sym (ap (λ o. word_in o (array_slot m)) t.there.1) in
        array_has_slot classes class 1024 h (h.registers 4) (slot_of m) (few_slots m) (subst (IsPlaceArray class h) (sym four) (k.there.0, s.things (keeper g m) ∙ k.there.1, k.there.2, k.there.3))

-- ---- references

reference_kind : (v : SlotValue) → names_object v ≡ true → is_reference v.kind ≡ true
unfolding names_object
reference_kind v e = (and_parts (is_reference v.kind) (not (v.value == 0)) e).0

stored_can_run : (classes : List Class) (most : ℕ) (slots : ℕ → ℕ) (class : ℕ) (made : ℕ → Bool) (last z : ℕ) (id : ℕ → ℕ) (role : ℕ → Role) (kind : ObjKind) (old : List ℕ) (v : SlotValue) (k : ℕ) (g : Graph)
    → AreFound class made last id role g → k < last → g.registers 5 ≡ z → g.things z ≡ Some (record { kind = kind; words = old }) → FitsSlot classes kind (length old) v → is_reference v.kind ≡ true → CanRun classes most slots (stored v.slot (Some k)) g
stored_can_run classes most slots class made last z id role kind old v k g a l held before f reference =
    can_run_both classes most slots (fetch_events k 6) (Store 0 5 v.slot 6 ∷ []) g (fetch_can_run classes most slots class role 6 k g (omega arith) (few_of class made last id role g k a l) (a.tops k l) (a.keepers k l))
    (λ h r. (let p = object_is_fetched slots class role 6 k g h (a.tops k l) (a.keepers k l) r in
    let five : h.registers 5 ≡ z = p.registers 5 (omega arith) (omega arith) ∙ held in
    ((omega arith, omega arith, (v.kind, (record { kind = kind; words = old }, ap h.things five ∙ p.things z ∙ before, f.slot), reference)), λ i s. tt)))

reference_can_run : (classes : List Class) (most : ℕ) (slots : ℕ → ℕ) (class : ℕ) (made : ℕ → Bool) (last z : ℕ) (name : ℕ → Option ℕ) (id : ℕ → ℕ) (role : ℕ → Role) (kind : ObjKind) (old : List ℕ) (v : SlotValue) (g : Graph)
    → AreNamed name made last → AreFound class made last id role g → g.registers 5 ≡ z → g.things z ≡ Some (record { kind = kind; words = old }) → FitsSlot classes kind (length old) v → CanRun classes most slots (reference_of name v) g
reference_can_run classes most slots class made last z name id role kind old v g named a held before f = go (names_object v) refl
  where
    by_name : (o : Option ℕ) → name v.value ≡ o → is_reference v.kind ≡ true → CanRun classes most slots (stored v.slot o) g
    by_name None e r = tt
    by_name (Some k) e r = stored_can_run classes most slots class made last z id role kind old v k g a (named v.value k e).0 held before f r

    go : (b : Bool) → names_object v ≡ b → CanRun classes most slots (if b then stored v.slot (name v.value) else []) g
    go true e = by_name (name v.value) refl (reference_kind v e)
    go false e = tt

references_can_run : (classes : List Class) (most : ℕ) (slots : ℕ → ℕ) (class : ℕ) (made : ℕ → Bool) (last n z : ℕ) (name : ℕ → Option ℕ) (id : ℕ → ℕ) (role : ℕ → Role) (kind : ObjKind) (values : List SlotValue) (old : List ℕ) (g : Graph)
    → AreNamed name made last → role z ≡ Object n → AreFound class made last id role g → g.registers 5 ≡ z → g.things z ≡ Some (record { kind = kind; words = old }) → FitSlots classes kind (length old) values
    → CanRun classes most slots (flat_map (reference_of name) values) g
references_can_run classes most slots class made last n z name id role kind [] old g named for a held before f = tt
references_can_run classes most slots class made last n z name id role kind (v ∷ values) old g named for a held before f =
    can_run_both classes most slots (reference_of name v) (flat_map (reference_of name) values) g (reference_can_run classes most slots class made last z name id role kind old v g named a held before f.0)
    (λ h r. (let p = link_reference slots class made last z name id role kind old v g h named a held before r in
    references_can_run classes most slots class made last n z name id role kind values (with_reference name id old v) h named for
    (found_after_filling class made last n z id role kind old (with_reference name id old v) g h for a p.0.filled) p.0.held p.0.filled.here (subst (λ m. FitSlots classes kind m values) (sym p.0.filled.len) f.1)))

link_can_run : (classes : List Class) (most : ℕ) (slots : ℕ → ℕ) (class : ℕ) (made : ℕ → Bool) (last n : ℕ) (name : ℕ → Option ℕ) (id : ℕ → ℕ) (role : ℕ → Role) (kind : ObjKind) (values : List SlotValue) (old : List ℕ) (g : Graph)
    → AreNamed name made last → n < last → made n ≡ true → AreFound class made last id role g → g.things (id n) ≡ Some (record { kind = kind; words = old }) → FitSlots classes kind (length old) values
    → CanRun classes most slots (link_values name n values) g
link_can_run classes most slots class made last n name id role kind values old g named l b a before f =
    can_run_if classes most slots (list_any names_object values) (fetch_events n 5 ++ flat_map (reference_of name) values) g
    (can_run_both classes most slots (fetch_events n 5) (flat_map (reference_of name) values) g (fetch_can_run classes most slots class role 5 n g (omega arith) (few_of class made last id role g n a l) (a.tops n l) (a.keepers n l))
    (λ h r. (let p = object_is_fetched slots class role 5 n g h (a.tops n l) (a.keepers n l) r in
    let first = fetching_fills (id n) 5 (kept g n) kind old g h (omega arith) before p in
    let for = for_its_number class made last id role g n a l b in
    references_can_run classes most slots class made last n (id n) name id role kind values old h named for (found_after_filling class made last n (id n) id role kind old old g h for a first) (p.held ∙ a.ids n l) first.here f)))

block_can_be_linked : (classes : List Class) (most : ℕ) (slots : ℕ → ℕ) (class : ℕ) (made : ℕ → Bool) (last n : ℕ) (name : ℕ → Option ℕ) (id : ℕ → ℕ) (x : Option ObjectTold) (role : ℕ → Role) (g : Graph)
    → AreNamed name made last → AreFound class made last id role g → ((t : ObjectTold) → x ≡ Some t → (n < last) × (made n ≡ true) × (g.things (id n) ≡ Some (made_thing t))) → ((t : ObjectTold) → x ≡ Some t → MayBeTold classes most slots t)
    → CanRun classes most slots (link_block name n x) g
block_can_be_linked classes most slots class made last n name id None role g named a there may = tt
block_can_be_linked classes most slots class made last n name id (Some t) role g named a there may =
    let p = there t refl in
    link_can_run classes most slots class made last n name id role t.kind t.values (made_thing t).words g named p.0 p.1 a p.2 (subst (λ m. FitSlots classes t.kind m t.values) (sym (length_made t)) (may t refl).fit)

pub linkings_can_run : (classes : List Class) (most : ℕ) (slots : ℕ → ℕ) (class : ℕ) (made : ℕ → Bool) (last n : ℕ) (name : ℕ → Option ℕ) (id : ℕ → ℕ) (list : List (Option ObjectTold)) (role : ℕ → Role) (g : Graph)
    → AreNamed name made last → AreFound class made last id role g → AreThere made last n list → AreAsMade id n list g → MayAllBeTold classes most slots list → CanRun classes most slots (linkings name n list) g
linkings_can_run classes most slots class made last n name id [] role g named a there contents may = tt
linkings_can_run classes most slots class made last n name id (x ∷ xs) role g named a there contents may =
    let here = first_is_there made last n id x xs g there contents in
    let later = others_are_there made last n x xs there in
    can_run_both classes most slots (link_block name n x) (linkings name (n + 1) xs) g (block_can_be_linked classes most slots class made last n name id x role g named a here may.0)
    (λ h r. (let first = block_is_linked slots class made last n name id x role g h named a here r in
    linkings_can_run classes most slots class made last (n + 1) name id xs role h named first.found later
    (λ i t e. first.spared (n + 1 + i) (later i t e).0 (later i t e).1 (λ d. omega (arith, d)) ∙ ap (λ m. g.things (id m)) (sym (plus_one n i)) ∙ contents (suc i) t e) may.1))
