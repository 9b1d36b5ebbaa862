-- The events that define a class.
use Rattle.std.proofs.Common.{◌≡◌, ◌≢◌, ℕ, ◌<◌, true, List, [], ◌∷◌, ◌++◌, length, zip, refl, sym, ap, subst, ◌∙◌, Some, None, All, Contains, false, Option, Result, Ok, Err}
use Rattle.heap_class.specs.declared.Kind.{Kind}
use Rattle.heap_class.specs.declared.ObjKind.{ObjKind}
use Rattle.heap_class.specs.declared.ObjKind.TheVariants.{Instance, Array, Prim}
use Rattle.heap_class.specs.Kinds.{value_limit}
use Rattle.heap_class.specs.Classes.{Class, IsClassTable, IsDefined, class_refusal, slot_kinds_of, instance_class, array_class}
use Rattle.heap_class.proofs.Definitions.{not_refused_at_widest_limits}
use Rattle.heap_class.proofs.Slots.{slots_stay_with_one_class_more, instance_class_is_in_table, instance_more, array_more, classes_more}
use Rattle.heap_region.specs.Regions.{Object, object_of, slot_kinds, references_of}
use Rattle.heap_region.proofs.ChangedLookups.{place_of_object_of_id}
use Rattle.heap_region.proofs.References.{references_in, references_by_slots}
use Rattle.heap_region.specs.Legal.{EachObject}
use Rattle.heap_mark.specs.declared.Phase.TheVariants.{Idle, Marking}
use Rattle.heap_world.specs.State.{HeapState}
use Rattle.heap_world.specs.Reach.{Names}
use Rattle.heap_world.specs.Legal.{IsSized, IsQuiet, IsWeakTricolour, IsLive, IsObjectOf, HasKind}
use Rattle.heap_world.proofs.Clauses.{HasClauses, legal_heap_has_clauses, clauses_make_heap_legal}
use Rattle.heap_world.specs.Events.{after_class, IsNewClass}
use Rattle.heap_world.proofs.Shelter.{sheltered_unmarked}
use Rattle.heap_world.proofs.Tricolour.{Spares, spares_tricolour}
use Rattle.heap_world.proofs.Registers.{naming_id_names_an_object, names_of}
use Rattle.std.specs.Prelude.{OnOk, OnErr}
use Rattle.heap_class.specs.declared.Refusal.{Refusal}
use Rattle.heap_class.specs.declared.Field.{Field}
use Rattle.heap_class.specs.Refusals.{IsAnswered}
use Rattle.heap_world.specs.HeapParts.{IsSoundHeap}
use Rattle.heap_world.proofs.KeptParts.{legal_state_of_room_is_sound}

-- an object of a kind that exists has the same slots
pub slot_kinds_with_one_class_more : (cs : List Class) (c : Class) (kind : ObjKind) (n : ℕ) → HasKind cs kind n → slot_kinds_of (cs ++ c ∷ []) kind n ≡ slot_kinds_of cs kind n
unfolding slot_kinds_of
slot_kinds_with_one_class_more cs c (Instance k) n h = slots_stay_with_one_class_more cs c k (instance_class_is_in_table cs k h.0)
slot_kinds_with_one_class_more cs c (Array k) n h = refl
slot_kinds_with_one_class_more cs c (Prim kind) n h = refl

kind_exists_with_one_class_more : (cs : List Class) (c : Class) (kind : ObjKind) (n : ℕ) → HasKind cs kind n → HasKind (cs ++ c ∷ []) kind n
kind_exists_with_one_class_more cs c (Instance k) n h = (instance_more cs c k h.0, h.1 ∙ ap (λ l. length l) (sym (slots_stay_with_one_class_more cs c k (instance_class_is_in_table cs k h.0))))
kind_exists_with_one_class_more cs c (Array k) n h = (array_more cs c k h.0, h.1)
kind_exists_with_one_class_more cs c (Prim kind) n h = h

slot_kinds_more : (cs : List Class) (c : Class) (o : Object) → IsObjectOf cs o → slot_kinds (cs ++ c ∷ []) o ≡ slot_kinds cs o
unfolding slot_kinds
slot_kinds_more cs c o f = slot_kinds_with_one_class_more cs c o.kind (length o.words) f.kind

object_fits_one_class_more : (cs : List Class) (c : Class) (o : Object) → IsObjectOf cs o → IsObjectOf (cs ++ c ∷ []) o
object_fits_one_class_more cs c o f = record {
  kind = kind_exists_with_one_class_more cs c o.kind (length o.words) f.kind;
  values = subst (λ ks. All (λ p. p.0 ≢ Kind.Object → p.1 < value_limit p.0) (zip ks o.words)) (sym (slot_kinds_more cs c o f)) f.values;
}

references_with_one_class_more : (cs : List Class) (c : Class) (o : Object) → IsObjectOf cs o → references_of (cs ++ c ∷ []) o ≡ references_of cs o
references_with_one_class_more cs c o f = references_by_slots (cs ++ c ∷ []) o ∙ ap (λ ks. references_in ks o.words) (slot_kinds_more cs c o f) ∙ sym (references_by_slots cs o)

-- the heap with a further class
abbrev with_class : Class → HeapState → HeapState
with_class c w = record w { classes = w.classes ++ c ∷ [] }

named_object_fits_classes : (w : HeapState) → HasClauses w → (x : ℕ) (o : Object) → object_of w.regions x ≡ Some o → IsObjectOf w.classes o
named_object_fits_classes w l x o e = let p = place_of_object_of_id w.regions x o e in l.objects p.0 o p.2

names_before_new_class : (w : HeapState) (c : Class) → HasClauses w → (x y : ℕ) → Names (with_class c w) x y → Names w x y
names_before_new_class w c l x y n = let b = naming_id_names_an_object (with_class c w) x y n in names_of w x y b.0 b.1 (subst (λ k. Contains k y) (references_with_one_class_more w.classes c b.0 (named_object_fits_classes w l x b.0 b.1)) b.2)

names_after_new_class : (w : HeapState) (c : Class) → HasClauses w → (x y : ℕ) → Names w x y → Names (with_class c w) x y
names_after_new_class w c l x y n = let b = naming_id_names_an_object w x y n in names_of (with_class c w) x y b.0 b.1 (subst (λ k. Contains k y) (sym (references_with_one_class_more w.classes c b.0 (named_object_fits_classes w l x b.0 b.1))) b.2)

class_spares_of : (w : HeapState) (c : Class) → HasClauses w → Spares w (with_class c w)
class_spares_of w c l = record {
  unmarked = λ x u. u;
  marked = λ x y m n. (m, names_before_new_class w c l x y n);
  gray = refl;
  undrained = refl;
  registers = λ x r u. r;
  sheltered = λ x s. sheltered_unmarked w x s;
  names_still = λ x y h n. names_after_new_class w c l x y n;
}

pub class_spares : (w : HeapState) (c : Class) → HasClauses w → Spares w (after_class c w)
unfolding after_class
class_spares w c l = class_spares_of w c l

pub clauses_after_new_class : (w : HeapState) (c : Class) → (c.is_array ≡ true → (c.sup ≡ None) × (c.fields ≡ [])) → HasClauses w → class_refusal w.limits.classes w.classes c ≡ None → HasClauses (after_class c w)
unfolding after_class
clauses_after_new_class w c bare l accepted =
    let now : HeapState = with_class c w in
    let sized : IsSized now = record { limits = l.sized.limits; regions = l.sized.regions; area = l.sized.area; mutators = l.sized.mutators } in
    let classes : IsClassTable [] now.classes = classes_more [] w.classes c l.classes (not_refused_at_widest_limits w.limits.classes w.classes c l.sized.limits.classes accepted) bare in
    let objects : EachObject w.regions (λ at o. IsObjectOf now.classes o) = (λ at o e. object_fits_one_class_more w.classes c o (l.objects at o e)) in
    let slots_live : (x y : ℕ) → IsLive now x → Names now x y → IsLive now y = (λ x y a n. l.slots_live x y a (names_before_new_class w c l x y n)) in
    let idle : w.phase ≡ Idle → IsQuiet now = (λ i. record { gray = (l.idle i).gray; log = (l.idle i).log; drained = (l.idle i).drained; unmarked = (l.idle i).unmarked }) in
    let tricolour : w.phase ≡ Marking → IsWeakTricolour now = (λ i. spares_tricolour w (with_class c w) (class_spares_of w c l) (l.tricolour i)) in
    assumption

-- ---- the heap that holds it

pub class_held : (w : HeapState) (room : ℕ) (c : Class) (cs : List Class) (result : Result ℕ Refusal) → IsSoundHeap w room → (c.is_array ≡ true → (c.sup ≡ None) × (c.fields ≡ []))
    → IsAnswered (class_refusal w.limits.classes w.classes c) true result → OnOk result (cs ≡ w.classes ++ c ∷ []) → OnErr result (cs ≡ w.classes) → IsSoundHeap (record w { classes = cs }) room
unfolding after_class
class_held w room c cs (Ok k) h bare accepted more same = subst (λ ds. IsSoundHeap (record w { classes = ds }) room) (sym more)
    (legal_state_of_room_is_sound (after_class c w) w room h (clauses_make_heap_legal (after_class c w) (clauses_after_new_class w c bare (legal_heap_has_clauses w h.legal) accepted)) refl)
class_held w room c cs (Err e) h bare accepted more same = subst (λ ds. IsSoundHeap (record w { classes = ds }) room) (sym same) h

pub class_is_new : (w v : HeapState) (c : Class) (cs : List Class) (result : Result ℕ Refusal) → w ≡ v → IsDefined w.limits.classes c w.classes cs result → IsNewClass c v (record w { classes = cs }) result
unfolding after_class
class_is_new w v c cs (Ok k) e d = subst (λ (u : HeapState). IsNewClass c u (record w { classes = cs }) (Ok k)) e
    (record { answered = d.answered; defined = ap (λ ds. record w { classes = ds }) d.defined; number = d.number; unchanged = d.unchanged })
class_is_new w v c cs (Err x) e d = subst (λ (u : HeapState). IsNewClass c u (record w { classes = cs }) (Err x)) e
    (record { answered = d.answered; defined = d.defined; number = d.number; unchanged = ap (λ ds. record w { classes = ds }) d.unchanged })

pub instance_held : (w : HeapState) (room : ℕ) (name : List ℕ) (sup : Option ℕ) (fields : List Field) (cs : List Class) (result : Result ℕ Refusal) → IsSoundHeap w room
    → IsAnswered (class_refusal w.limits.classes w.classes (instance_class name sup fields)) true result → OnOk result (cs ≡ w.classes ++ instance_class name sup fields ∷ []) → OnErr result (cs ≡ w.classes) → IsSoundHeap (record w { classes = cs }) room
instance_held w room name sup fields cs result h a d e = class_held w room (instance_class name sup fields) cs result h no_array a d e
  where
    no_array : false ≡ true → (sup ≡ None) × (fields ≡ [])
    no_array b = cc

-- a class of object arrays is defined
pub array_class_held : (w : HeapState) (room : ℕ) (name : List ℕ) (cs : List Class) (result : Result ℕ Refusal) → IsSoundHeap w room
    → IsAnswered (class_refusal w.limits.classes w.classes (array_class name)) true result → OnOk result (cs ≡ w.classes ++ array_class name ∷ []) → OnErr result (cs ≡ w.classes) → IsSoundHeap (record w { classes = cs }) room
array_class_held w room name cs result h a d e = class_held w room (array_class name) cs result h (λ b. (refl, refl)) a d e
