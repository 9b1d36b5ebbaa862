-- Each class of a table has its own fields as slots, and then the slots of its super.
use Rattle.std.proofs.Common.{◌≡◌, ◌⊎◌, ℕ, zero, suc, ◌+◌, ◌<◌, true, List, [], ◌∷◌, ◌++◌, length, map, refl, sym, ap, subst, ◌∙◌, Option, Some, None, inl, inr, arith, length-append, append_assoc}
use Rattle.std.specs.Prelude.{slice_get, unwrap_or}
use Rattle.std.specs.Option.{option_map_or}
use Rattle.std.proofs.lemmas.Bool.{cases_order, not-false}
use Rattle.std.proofs.lemmas.List.{append-nil, length-map}
use Rattle.heap_class.specs.declared.Field.{Field}
use Rattle.heap_class.specs.declared.Kind.{Kind}
use Rattle.heap_class.specs.Classes.{Class, IsClassTable, class_refusal, fields_of, is_instance_class, slot_table_after, slots_of, slots_under, sup_of}
use Rattle.heap_class.specs.Limits.{widest_classes}
use Rattle.heap_class.proofs.Refusals.{no_refusal_test_holds}
use Rattle.heap_class.proofs.Slots.{get_append, instance_class_is_in_table, slots_stay_with_one_class_more, table_length, table_more}
use Rattle.hprof_heap.proofs.ApartSlots.{HaveSlots}

item_at_end : {A : Type 0} (xs : List A) (x : A) (k : ℕ) → k ≡ length xs → slice_get (xs ++ x ∷ []) k ≡ Some x
item_at_end [] x zero e = refl
item_at_end [] x (suc k) e = absurd (omega (arith, e))
item_at_end (y ∷ xs) x zero e = absurd (omega (arith, e))
item_at_end (y ∷ xs) x (suc k) e = item_at_end xs x k (omega (arith, e))

none_past_end : {A : Type 0} (xs : List A) (x : A) (k : ℕ) → length xs < k → slice_get (xs ++ x ∷ []) k ≡ None
none_past_end [] x zero l = absurd (omega (arith, l))
none_past_end [] x (suc k) l = refl
none_past_end (y ∷ xs) x zero l = absurd (omega (arith, l))
none_past_end (y ∷ xs) x (suc k) l = none_past_end xs x k (omega (arith, l))

-- each class has the slots of its own fields, and then those of its super
abbrev pub HaveSlotLists : List Class → Type 0
HaveSlotLists classes = (k : ℕ) → slots_of classes k ≡ map (λ (f : Field). f.kind) (fields_of classes k) ++ option_map_or (slots_of classes) (sup_of classes k) []

-- the slots are those that are said, and a super comes before its class
record HasSupers (classes : List Class) : Type 0 where
  slots : HaveSlotLists classes
  supers : (k s : ℕ) → sup_of classes k ≡ Some s → s < k

-- the slots of a super
abbrev super_slots : List Class → Option ℕ → List Kind
super_slots classes sup = option_map_or (slots_of classes) sup []

super_slots_stay : (before : List Class) (c : Class) (sup : Option ℕ) → ((s : ℕ) → sup ≡ Some s → s < length before) → super_slots (before ++ c ∷ []) sup ≡ super_slots before sup
super_slots_stay before c None h = refl
super_slots_stay before c (Some s) h = slots_stay_with_one_class_more before c s (h s refl)

slots_of_last : (before : List Class) (c : Class) → slots_of (before ++ c ∷ []) (length before) ≡ slots_under (slot_table_after [] before) c
unfolding slots_of
slots_of_last before c =
    ap (λ t. unwrap_or (slice_get t (length before)) []) (table_more [] before c)
    ∙ ap (λ o. unwrap_or o []) (item_at_end (slot_table_after [] before) (slots_under (slot_table_after [] before) c) (length before) (omega (arith, table_length [] before)))

slots_under_are : (before : List Class) (c : Class) → slots_under (slot_table_after [] before) c ≡ map (λ (f : Field). f.kind) c.fields ++ super_slots before c.sup
unfolding slots_under slots_of
slots_under_are before c = ap (λ ks. map (λ (f : Field). f.kind) c.fields ++ ks) (by_super c.sup)
  where
    by_super : (sup : Option ℕ) → option_map_or (λ s. unwrap_or (slice_get (slot_table_after [] before) s) []) sup [] ≡ option_map_or (λ s. unwrap_or (slice_get (slot_table_after [] before) s) []) sup []
    by_super sup = refl

slots_past : (before : List Class) (c : Class) (k : ℕ) → length before < k → slots_of (before ++ c ∷ []) k ≡ []
unfolding slots_of
slots_past before c k l =
    ap (λ t. unwrap_or (slice_get t k) []) (table_more [] before c)
    ∙ ap (λ o. unwrap_or o []) (none_past_end (slot_table_after [] before) (slots_under (slot_table_after [] before) c) k (omega (arith, l, table_length [] before)))

one_class_more : (before : List Class) (c : Class) → HasSupers before → ((s : ℕ) → c.sup ≡ Some s → s < length before) → HasSupers (before ++ c ∷ [])
unfolding fields_of sup_of
one_class_more before c h below = record {
  slots = λ k. slots k (cases_order k (length before));
  supers = λ k s e. super k s e (cases_order k (length before));
}
  where
    last : slice_get (before ++ c ∷ []) (length before) ≡ Some c
    last = item_at_end before c (length before) refl

    super : (k s : ℕ) → option_map_or (λ (c : Class). c.sup) (slice_get (before ++ c ∷ []) k) None ≡ Some s → (k ≡ length before) ⊎ ((k < length before) ⊎ (length before < k)) → s < k
    super k s e (inl at) = subst (λ m. s < m) (sym at) (below s (sym (ap (λ o. option_map_or (λ (c : Class). c.sup) o None) (ap (slice_get (before ++ c ∷ [])) at ∙ last)) ∙ e))
    super k s e (inr (inl l)) = h.supers k s (sym (ap (λ o. option_map_or (λ (c : Class). c.sup) o None) (get_append before (c ∷ []) k l)) ∙ e)
    super k s e (inr (inr l)) = let z : None ≡ Some s = sym (ap (λ o. option_map_or (λ (c : Class). c.sup) o None) (none_past_end before c k l)) ∙ e in cc

    -- what a class says of its slots
    said : Option Class → List Kind
    said o = map (λ (f : Field). f.kind) (option_map_or (λ (c : Class). c.fields) o []) ++ super_slots (before ++ c ∷ []) (option_map_or (λ (c : Class). c.sup) o None)

    slots : (k : ℕ) → (k ≡ length before) ⊎ ((k < length before) ⊎ (length before < k))
        → slots_of (before ++ c ∷ []) k ≡ map (λ (f : Field). f.kind) (option_map_or (λ (c : Class). c.fields) (slice_get (before ++ c ∷ []) k) []) ++ super_slots (before ++ c ∷ []) (option_map_or (λ (c : Class). c.sup) (slice_get (before ++ c ∷ []) k) None)
    slots k (inl at) =
        ap (slots_of (before ++ c ∷ [])) at ∙ slots_of_last before c ∙ slots_under_are before c
        ∙ ap (λ ks. map (λ (f : Field). f.kind) c.fields ++ ks) (sym (super_slots_stay before c c.sup below))
        ∙ ap said (sym (ap (slice_get (before ++ c ∷ [])) at ∙ last))
    slots k (inr (inl l)) =
        slots_stay_with_one_class_more before c k l ∙ h.slots k
        ∙ ap (λ ks. map (λ (f : Field). f.kind) (option_map_or (λ (c : Class). c.fields) (slice_get before k) []) ++ ks) (sym (super_slots_stay before c (option_map_or (λ (c : Class). c.sup) (slice_get before k) None) (λ s e. omega (arith, l, h.supers k s e))))
        ∙ ap said (sym (get_append before (c ∷ []) k l))
    slots k (inr (inr l)) = slots_past before c k l ∙ ap said (sym (none_past_end before c k l))

-- a super is among the classes before
accepted_super : (before : List Class) (c : Class) → class_refusal widest_classes before c ≡ None → (s : ℕ) → c.sup ≡ Some s → s < length before
unfolding class_refusal
accepted_super before c accepted s e =
    instance_class_is_in_table before s (subst (λ o. option_map_or (is_instance_class before) o true ≡ true) e (not-false (option_map_or (is_instance_class before) c.sup true) (no_refusal_test_holds _ accepted).0))

supers_of_table : (before cs : List Class) → HasSupers before → IsClassTable before cs → HasSupers (before ++ cs)
supers_of_table before [] h t = subst HasSupers (sym (append-nil before)) h
supers_of_table before (c ∷ cs) h t = subst HasSupers (append_assoc before (c ∷ []) cs) (supers_of_table (before ++ c ∷ []) cs (one_class_more before c h (accepted_super before c t.0)) t.2)

no_classes : HasSupers []
unfolding slots_of slot_table_after fields_of sup_of
no_classes = record { slots = λ k. refl; supers = λ k s e. (let z : None ≡ Some s = e in cc) }

pub table_has_slot_lists : (classes : List Class) → IsClassTable [] classes → HaveSlotLists classes
table_has_slot_lists classes t = (supers_of_table [] classes no_classes t).slots

pub super_comes_before : (classes : List Class) → IsClassTable [] classes → (k s : ℕ) → sup_of classes k ≡ Some s → s < k
super_comes_before classes t = (supers_of_table [] classes no_classes t).supers

-- and as many as these are
pub table_has_slots : (classes : List Class) → IsClassTable [] classes → HaveSlots classes
table_has_slots classes t k =
    ap length (table_has_slot_lists classes t k)
    ∙ length-append (map (λ (f : Field). f.kind) (fields_of classes k)) (option_map_or (slots_of classes) (sup_of classes k) [])
    ∙ ap (λ n. n + length (option_map_or (slots_of classes) (sup_of classes k) [])) (length-map (fields_of classes k) (λ (f : Field). f.kind))
    ∙ ap (λ n. length (fields_of classes k) + n) (by_super (sup_of classes k))
  where
    by_super : (sup : Option ℕ) → length (option_map_or (slots_of classes) sup []) ≡ option_map_or (λ s. length (slots_of classes s)) sup 0
    by_super None = refl
    by_super (Some s) = refl
