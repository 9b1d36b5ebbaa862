-- What a slot holds in the state that a pin shows, or in the current one.
use Rattle.std.proofs.Common.{◌≡◌, ℕ, zero, suc, ◌<◌, ◌≤◌, List, [], ◌∷◌, length, get_or, take, length-take, Option, Some, None, IsSome, refl, sym, ap, ◌∙◌, subst, arith}
use Rattle.std.specs.Prelude.{IfSome, option_and_then, option_map, slice_get}
use Rattle.std.proofs.lemmas.Bool.{false≢true}
use Rattle.std.proofs.lemmas.Option.{none-some, same_Some}
use Rattle.heap_class.specs.declared.ObjKind.{ObjKind}
use Rattle.heap_class.specs.declared.ObjRef.{ObjRef}
use Rattle.heap_class.specs.Classes.{Class}
use Rattle.heap_region.specs.Regions.{Object, object_at}
use Rattle.heap_world.specs.Legal.{IsLegal}
use Rattle.heap_world.specs.State.{HeapState}
use Rattle.heap_pins.specs.Pin.{PinContents, object_seen}
use Rattle.heap_pins.specs.Shows.{IsSeen}
use Rattle.heap_pins.proofs.ShownImages.{object_seen_as_dump_shows}
use Rattle.hprof_text.specs.Image.{DumpedObject, IsKnown}
use Rattle.heap_questions.specs.declared.past.seen.SeenSlot.{SeenSlot}
use Rattle.heap_questions.specs.Changes.{slot_word}
use Rattle.heap_questions.specs.Graph.{slot_refers}
use Rattle.heap_questions.specs.PastTrails.{IsShownBeside, seen_slot}
use Rattle.heap_questions.specs.SlotChanges.{refers_at}
use Rattle.heap_questions.proofs.ChangedSlots.{slot_here}
use Rattle.heap_questions.proofs.WrittenSlots.{seen_beside, word_here}

-- ---- an object that stands there

pub object_here : (w : HeapState) (at : ObjRef) → IsSome (object_at w.regions at) → (o : Object) × (object_at w.regions at ≡ Some o)
object_here w at h = go (object_at w.regions at) refl h
  where
    go : (x : Option Object) → object_at w.regions at ≡ x → IsSome x → (o : Object) × (object_at w.regions at ≡ Some o)
    go None e s = absurd (false≢true s)
    go (Some o) e s = (o, e)

past_end : (xs : List ℕ) (s : ℕ) → length xs ≤ s → slice_get xs s ≡ None
past_end [] s l = refl
past_end (x ∷ xs) zero l = absurd (omega (arith, l))
past_end (x ∷ xs) (suc s) l = past_end xs s (omega (arith, l))

-- the object has no such slot
pub none_seen : (w : HeapState) (at : ObjRef) (s n : ℕ) (o : Object) → object_at w.regions at ≡ Some o → n ≡ length o.words → n ≤ s → None ≡ seen_slot w at s
unfolding slot_word
none_seen w at s n o here many l =
    let none : slot_word w at s ≡ None = ap (option_and_then (λ (o : Object). slice_get o.words s)) here ∙ past_end o.words s (omega (arith, many, l)) in
    sym (ap (option_map (λ (word : ℕ). let x : SeenSlot = record { word = word; refers = refers_at w at s } in x)) none)

has_word : (w : HeapState) (at : ObjRef) (s : ℕ) (o : Object) → object_at w.regions at ≡ Some o → s < length o.words → IsSome (slot_word w at s)
has_word w at s o here l = subst (λ (x : Option ℕ). IsSome x) (sym (word_here w at s o here l)) refl

-- what is known of a slot: its kind, and what it holds
pub record IsSlotSeen (w : HeapState) (at : ObjRef) (s : ℕ) (classes : List Class) (kind : ObjKind)
    (n word : ℕ) : Type 0 where
  pub known : IsKnown classes kind n
  pub seen : let x : SeenSlot = record { word = word; refers = slot_refers classes kind s } in Some x ≡ seen_slot w at s

pub slot_seen : (w : HeapState) (at : ObjRef) (s n word : ℕ) (o : Object) (classes : List Class) (kind : ObjKind) → IsLegal w → object_at w.regions at ≡ Some o → kind ≡ o.kind → n ≡ length o.words → s < n → word ≡ get_or o.words s 0 → classes ≡ w.classes
    → IsSlotSeen w at s classes kind n word
slot_seen w at s n word o classes kind legal here same many l e cs =
    let within : s < length o.words = omega (arith, l, many) in
    let h = slot_here w at s n kind legal (has_word w at s o here within)
    (subst (λ (x : Option Object). IfSome x (λ o. kind ≡ o.kind)) (sym here) same)
    (subst (λ (x : Option Object). IfSome x (λ o. n ≡ length o.words)) (sym here) many) in
    let refers : slot_refers classes kind s ≡ refers_at w at s = ap (λ (c : List Class). slot_refers c kind s) cs ∙ h.2 in
    record {
      known = subst (λ (c : List Class). IsKnown c kind n) (sym cs) h.0;
      seen = (λ i. let x : SeenSlot = record { word = e i; refers = refers i } in Some x)
          ∙ sym (ap (option_map (λ (word : ℕ). let x : SeenSlot = record { word = word; refers = refers_at w at s } in x)) (word_here w at s o here within));
    }

-- ---- as a pin shows it

-- of an object that the pin shows, what it tells is that of the state
pub of_shown : (P : DumpedObject → Type 0) (u w : HeapState) (p : PinContents) (at : ObjRef) (o : Object) → IsShownBeside w p u → object_at u.regions at ≡ Some o → IfSome (object_seen p w.regions at) P
    → (d : DumpedObject) × (d.kind ≡ o.kind) × (d.words ≡ o.words) × P d
of_shown P u w p at o h here told =
    let e = object_seen_as_dump_shows p u w at o h.1 here in
    (_, refl, refl, subst (λ (x : Option DumpedObject). IfSome x P) e told)

pub classes_beside : (u w : HeapState) (p : PinContents) → IsShownBeside w p u → take p.classes w.classes ≡ u.classes
classes_beside u w p h = ap (λ n. take n w.classes) h.0.classes ∙ h.1.classes

pub classes_within : (u w : HeapState) (p : PinContents) → IsShownBeside w p u → p.classes ≤ length w.classes
classes_within u w p h =
    let many : length (take (length u.classes) w.classes) ≡ length u.classes = ap length h.1.classes in
    omega (arith, many, h.0.classes, length-take (length u.classes) w.classes)

-- a slot of an object that the pin shows
pub slot_shown : (u w : HeapState) (p : PinContents) (at : ObjRef) (s : ℕ) (words : List ℕ) (kind : ObjKind) (classes : List Class) → IsShownBeside w p u → IsSome (object_at u.regions at)
    → IfSome (object_seen p w.regions at) (λ o. words ≡ o.words) → IfSome (object_seen p w.regions at) (λ o. kind ≡ o.kind) → classes ≡ take p.classes w.classes → s < length words
    → IsSlotSeen u at s classes kind (length words) (get_or words s 0)
slot_shown u w p at s words kind classes shown there ws k cs l =
    let o = object_here u at there in
    let d = of_shown (λ (d : DumpedObject). words ≡ d.words) u w p at o.0 shown o.1 ws in
    let f = of_shown (λ (d : DumpedObject). kind ≡ d.kind) u w p at o.0 shown o.1 k in
    let same : words ≡ o.0.words = d.3 ∙ d.2 in
    slot_seen u at s (length words) (get_or words s 0) o.0 classes kind shown.0.legal o.1 (f.3 ∙ f.1) (ap length same) l (ap (λ (xs : List ℕ). get_or xs s 0) same) (cs ∙ classes_beside u w p shown)

pub kind_shown : (u w : HeapState) (p : PinContents) (at : ObjRef) (kind : ObjKind) → IsShownBeside w p u → IsSome (object_at u.regions at) → IfSome (object_seen p w.regions at) (λ o. kind ≡ o.kind) → IfSome (object_at u.regions at) (λ o. kind ≡ o.kind)
kind_shown u w p at kind shown there k =
    let o = object_here u at there in
    let d = of_shown (λ (d : DumpedObject). kind ≡ d.kind) u w p at o.0 shown o.1 k in
    subst (λ (x : Option Object). IfSome x (λ o. kind ≡ o.kind)) (sym o.1) (d.3 ∙ d.1)

pub none_shown : (u w : HeapState) (p : PinContents) (at : ObjRef) (s : ℕ) (words : List ℕ) → IsShownBeside w p u → IsSome (object_at u.regions at) → IfSome (object_seen p w.regions at) (λ o. words ≡ o.words) → length words ≤ s → None ≡ seen_slot u at s
none_shown u w p at s words shown there ws l =
    let o = object_here u at there in
    let d = of_shown (λ (d : DumpedObject). words ≡ d.words) u w p at o.0 shown o.1 ws in
    none_seen u at s (length words) o.0 o.1 (ap length (d.3 ∙ d.2)) l

pub sees_here : (u w : HeapState) (p : PinContents) (at : ObjRef) → IsShownBeside w p u → IsSome (object_at u.regions at) → IsSeen p w.regions at
sees_here u w p at shown there = let o = object_here u at there in seen_beside u w p at o.0 shown o.1

-- ---- as the current state has it

fact_of : (P : Object → Type 0) (w : HeapState) (at : ObjRef) (o : Object) → object_at w.regions at ≡ Some o → IfSome (object_at w.regions at) P → P o
fact_of P w at o e h = subst (λ (x : Option Object). IfSome x P) e h

pub none_now : (w : HeapState) (at : ObjRef) (s n : ℕ) → IsSome (object_at w.regions at) → IfSome (object_at w.regions at) (λ o. n ≡ length o.words) → n ≤ s → None ≡ seen_slot w at s
none_now w at s n there many l = let o = object_here w at there in none_seen w at s n o.0 o.1 (fact_of (λ o. n ≡ length o.words) w at o.0 o.1 many) l

pub known_now : (w : HeapState) (at : ObjRef) (s n : ℕ) (kind : ObjKind) (classes : List Class) → IsLegal w → IsSome (object_at w.regions at) → IfSome (object_at w.regions at) (λ o. n ≡ length o.words) → IfSome (object_at w.regions at) (λ o. kind ≡ o.kind) → s < n → classes ≡ w.classes
    → IsKnown classes kind n
known_now w at s n kind classes legal there many k l cs =
    let o = object_here w at there in
    (slot_seen w at s n (get_or o.0.words s 0) o.0 classes kind legal o.1 (fact_of (λ o. kind ≡ o.kind) w at o.0 o.1 k) (fact_of (λ o. n ≡ length o.words) w at o.0 o.1 many) l refl cs).known

pub seen_now : (w : HeapState) (at : ObjRef) (s n word : ℕ) (kind : ObjKind) (classes : List Class) → IsLegal w → IsSome (object_at w.regions at) → IfSome (object_at w.regions at) (λ o. n ≡ length o.words) → IfSome (object_at w.regions at) (λ o. kind ≡ o.kind) → IfSome (object_at w.regions at) (λ o. word ≡ get_or o.words s 0) → s < n → classes ≡ w.classes
    → let x : SeenSlot = record { word = word; refers = slot_refers classes kind s } in Some x ≡ seen_slot w at s
seen_now w at s n word kind classes legal there many k e l cs =
    let o = object_here w at there in
    (slot_seen w at s n word o.0 classes kind legal o.1 (fact_of (λ o. kind ≡ o.kind) w at o.0 o.1 k) (fact_of (λ o. n ≡ length o.words) w at o.0 o.1 many) l (fact_of (λ o. word ≡ get_or o.words s 0) w at o.0 o.1 e) cs).seen

-- ---- what is seen, and what is there

pub seen_word : (w : HeapState) (at : ObjRef) (s : ℕ) (x : SeenSlot) → Some x ≡ seen_slot w at s → (slot_word w at s ≡ Some x.word) × (x.refers ≡ refers_at w at s)
seen_word w at s x = go (slot_word w at s) refl
  where
    go : (y : Option ℕ) → slot_word w at s ≡ y → Some x ≡ option_map (λ (word : ℕ). let z : SeenSlot = record { word = word; refers = refers_at w at s } in z) y → (slot_word w at s ≡ Some x.word) × (x.refers ≡ refers_at w at s)
    go None e h = absurd (none-some x (sym h))
    go (Some word) e h =
        let z : SeenSlot = record { word = word; refers = refers_at w at s } in
        let same : x ≡ z = same_Some x z h in
        (e ∙ ap Some (sym (ap (λ (v : SeenSlot). v.word) same)), ap (λ (v : SeenSlot). v.refers) same)

pub unseen_word : (w : HeapState) (at : ObjRef) (s : ℕ) → None ≡ seen_slot w at s → slot_word w at s ≡ None
unseen_word w at s = go (slot_word w at s) refl
  where
    go : (y : Option ℕ) → slot_word w at s ≡ y → None ≡ option_map (λ (word : ℕ). let z : SeenSlot = record { word = word; refers = refers_at w at s } in z) y → slot_word w at s ≡ None
    go None e h = e
    go (Some word) e h = absurd (none-some _ h)
