-- What a dump shows of a legal state is within a dump's limits, and each object is shown as it is.
use Rattle.std.proofs.Common.{◌≡◌, ℕ, zero, suc, ◌+◌, ◌<◌, ◌≤◌, Bool, true, false, not, cond, List, [], ◌∷◌, ◌++◌, length, map, refl, sym, ap, subst, ◌∙◌, Option, Some, None, arith, length-append}
use Rattle.std.proofs.lemmas.List.{length-map}
use Rattle.std.specs.Prelude.{slice_get, nat_le, Contains, All, is_some, IsSome, IfSome}
use Rattle.std.proofs.lemmas.List.Elements.{All-map, All-weaker, All-head, All-tail, All-contains}
use Rattle.heap_class.specs.declared.ObjRef.{ObjRef}
use Rattle.heap_class.specs.declared.ObjKind.{ObjKind}
use Rattle.heap_class.specs.declared.ObjKind.TheVariants.{Instance, Array, Prim}
use Rattle.heap_class.specs.declared.Refusal.{Refusal}
use Rattle.heap_class.specs.Refusals.{first_refusal}
use Rattle.heap_class.specs.Limits.{class_limit, large_array_limit, widest_classes}
use Rattle.heap_class.specs.Classes.{Class, IsClassTable, class_refusal, is_instance_class, is_array_class}
use Rattle.heap_region.specs.Regions.{Object, Region, object_at, id_of, live_objects, live_places}
use Rattle.heap_world.specs.State.{HeapState}
use Rattle.heap_world.specs.Legal.{IsLegal, HasKind}
use Rattle.heap_world.proofs.Words.{few_words}
use Rattle.hprof_text.specs.Image.{DumpedObject, IsDumpable, IsKnown}
use Rattle.heap_pins.specs.Images.{dumped_objects, image_of}
use Rattle.heap_pins.proofs.LiveCounts.{Stands, live_stand, few_live}
use Rattle.heap_class.proofs.Slots.{class_found_is_in_table}

-- ---- limits

second_false : (a b : Bool) (r s : Refusal) (rest : Option Refusal) → cond a (Some r) (cond b (Some s) rest) ≡ None → b ≡ false
second_false true b r s rest h = cc
second_false false true r s rest h = cc
second_false false false r s rest h = refl

room_for_class : (classes : List Class) (c : Class) → class_refusal widest_classes classes c ≡ None → nat_le class_limit (length classes) ≡ false
unfolding class_refusal first_refusal
room_for_class classes c h = second_false _ _ _ _ _ h

few_classes_after : (before cs : List Class) → IsClassTable before cs → length before ≤ class_limit → length before + length cs ≤ class_limit
few_classes_after before [] t few = omega arith
few_classes_after before (c ∷ cs) t few =
    let room : nat_le class_limit (length before) ≡ false = room_for_class before c t.0 in
    let under : length before < class_limit = grind (arith, room) in
    let e : length (before ++ c ∷ []) ≡ length before + 1 = length-append before (c ∷ []) in
    let more : length (before ++ c ∷ []) + length cs ≤ class_limit = few_classes_after (before ++ c ∷ []) cs t.2 (omega (arith, under, e)) in
    omega (arith, more, e)

pub kind_of_slots_is_known : (classes : List Class) (kind : ObjKind) (n : ℕ) → HasKind classes kind n → IsKnown classes kind n
unfolding is_instance_class is_array_class
kind_of_slots_is_known classes (Instance k) n h = (class_found_is_in_table classes k (λ c. not c.is_array) h.0, h.1)
kind_of_slots_is_known classes (Array k) n h = class_found_is_in_table classes k (λ c. c.is_array) h.0
kind_of_slots_is_known classes (Prim kind) n h = tt

-- an object as a dump shows it
abbrev object_as_dump_shows_it : List Region → ObjRef × Object → DumpedObject
object_as_dump_shows_it regions p = record { id = id_of regions p.0; kind = p.1.kind; words = p.1.words }

pub legal_heap_is_dumpable : (w : HeapState) → IsLegal w → IsDumpable (image_of w)
unfolding image_of dumped_objects
legal_heap_is_dumpable w legal = record {
  classes = legal.classes;
  few_classes = omega (arith, few_classes_after [] w.classes legal.classes (omega arith));
  few_registers = omega (arith, legal.sized.mutators.2, legal.sized.mutators.3);
  few_objects = omega (arith, few_live w.regions legal.regions.tables legal.sized.regions.1, length-map (live_objects w.regions) (object_as_dump_shows_it w.regions));
  known = All-map (λ (o : DumpedObject). IsKnown w.classes o.kind (length o.words)) (object_as_dump_shows_it w.regions) (live_objects w.regions)
      (All-weaker (Stands w.regions) (λ p. IsKnown w.classes p.1.kind (length p.1.words)) (λ p there. kind_of_slots_is_known w.classes p.1.kind (length p.1.words) (legal.objects p.0 p.1 there).kind) (live_objects w.regions) (live_stand w.regions));
  small = All-map (λ (o : DumpedObject). length o.words ≤ large_array_limit) (object_as_dump_shows_it w.regions) (live_objects w.regions)
      (All-weaker (Stands w.regions) (λ p. length p.1.words ≤ large_array_limit) (λ p there. few_words w.classes legal.classes p.1.kind (length p.1.words) (legal.objects p.0 p.1 there).kind) (live_objects w.regions) (live_stand w.regions));
}

-- each place has one object
pub each_live_place_has_object : (w : HeapState) → length (live_places w.regions) ≡ length (image_of w).objects
unfolding image_of dumped_objects live_places
each_live_place_has_object w = length-map (live_objects w.regions) (λ p. p.0) ∙ sym (length-map (live_objects w.regions) (object_as_dump_shows_it w.regions))

-- ---- one object

place_has_object_and_dump : (regions : List Region) (ps : List (ObjRef × Object)) (at : ObjRef) (i : ℕ) → All (Stands regions) ps → slice_get (map (λ p. p.0) ps) i ≡ Some at
    → (o : Object) × (object_at regions at ≡ Some o) × (slice_get (map (object_as_dump_shows_it regions) ps) i ≡ Some (object_as_dump_shows_it regions (at, o)))
place_has_object_and_dump regions [] at i all h = cc
place_has_object_and_dump regions (p ∷ ps) at zero all h =
    let e : p.0 ≡ at = cc in
    (p.1, subst (λ (b : ObjRef). object_at regions b ≡ Some p.1) e (All-head (Stands regions) p ps all), ap (λ (b : ObjRef). Some (object_as_dump_shows_it regions (b, p.1))) e)
place_has_object_and_dump regions (p ∷ ps) at (suc i) all h = place_has_object_and_dump regions ps at i (All-tail (Stands regions) p ps all) h

-- what holds of the object at a place holds of what the dump shows
pub dumped_object_at_live_place : (w : HeapState) (at : ObjRef) (Q : Object → Type 0) (R : DumpedObject → Type 0) → ((o : Object) → Q o → R (object_as_dump_shows_it w.regions (at, o))) → IfSome (object_at w.regions at) Q
    → (i : ℕ) → slice_get (live_places w.regions) i ≡ Some at → IfSome (slice_get (image_of w).objects i) R
unfolding image_of dumped_objects live_places
dumped_object_at_live_place w at Q R f q i h =
    let s = place_has_object_and_dump w.regions (live_objects w.regions) at i (live_stand w.regions) h in
    let o : Q s.0 = subst (λ (x : Option Object). IfSome x Q) s.1 q in
    subst (λ (x : Option DumpedObject). IfSome x R) (sym s.2) (f s.0 o)

-- the id
pub dumped_id_at_live_place : (w : HeapState) (at : ObjRef) (i : ℕ) → slice_get (live_places w.regions) i ≡ Some at → IfSome (slice_get (image_of w).objects i) (λ o. id_of w.regions at ≡ o.id)
unfolding image_of dumped_objects live_places
dumped_id_at_live_place w at i h =
    let s = place_has_object_and_dump w.regions (live_objects w.regions) at i (live_stand w.regions) h in
    subst (λ (x : Option DumpedObject). IfSome x (λ o. id_of w.regions at ≡ o.id)) (sym s.2) refl

-- each live place has an object
pub has_object : (regions : List Region) (at : ObjRef) → Contains (live_places regions) at → IsSome (object_at regions at)
unfolding live_places
has_object regions at c = All-contains (λ (b : ObjRef). IsSome (object_at regions b)) (map (λ p. p.0) (live_objects regions)) at
    (All-map (λ (b : ObjRef). IsSome (object_at regions b)) (λ p. p.0) (live_objects regions) (All-weaker (Stands regions) (λ p. IsSome (object_at regions p.0)) there (live_objects regions) (live_stand regions))) c
  where
    there : (p : ObjRef × Object) → Stands regions p → IsSome (object_at regions p.0)
    there p e = ap is_some e
