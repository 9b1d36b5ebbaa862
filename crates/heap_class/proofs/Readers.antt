-- What an entry says of the class that it stands for.
use Rattle.std.proofs.Common.{◌≡◌, ℕ, zero, suc, ◌+◌, ◌<◌, ◌≤◌, true, false, not, List, [], ◌∷◌, ◌++◌, length, map, get_or, refl, sym, ap, subst, ◌∙◌, arith, length-append, Option, Some, None, zero-add}
use Rattle.std.specs.Prelude.{slice_get, unwrap_or, IfSome}
use Rattle.std.specs.List.{IsDistinct, position_or_len, sum_by}
use Rattle.std.specs.Str.{bytes_eq}
use Rattle.std.specs.Option.{option_map_or, option_map}
use Rattle.std.proofs.lemmas.Bool.{not-false}
use Rattle.std.proofs.lemmas.List.{length-map}
use Rattle.std.proofs.lemmas.Option.{slice_get-map, slice_get_read, slice_get_past}
use Rattle.heap_class.specs.declared.class_table.ClassEntry.{ClassEntry}
use Rattle.heap_class.specs.declared.IdSize.{IdSize}
use Rattle.heap_class.specs.Kinds.{width_of}
use Rattle.heap_class.specs.declared.class_table.OwnField.{OwnField}
use Rattle.heap_class.specs.Classes.{Class, name_table, name_id, name_of, fields_of, sup_of, slots_of, instance_size, slot_table_after, is_instance_class, is_array_class, class_refusal, IsClassTable}
use Rattle.heap_class.specs.Entries.{field_of_entry, class_of_entry, IsEntryWithin, IsRoomy, AreSizes, IsEntryTable}
use Rattle.heap_class.proofs.Refusals.{no_refusal_test_holds}
use Rattle.heap_class.proofs.Slots.{instance_class_is_in_table}
use Rattle.heap_class.proofs.FirstUses.{table_distinct, position_is}
use Rattle.heap_class.proofs.Tables.{table_names, all_entries_are_within}

-- a class that has a field is there
pub fields_there : (cs : List Class) (k i : ℕ) → i < length (fields_of cs k) → k < length cs
unfolding fields_of
fields_there [] k i h = absurd (omega (arith, h))
fields_there (c ∷ cs) zero i h = omega arith
fields_there (c ∷ cs) (suc k) i h = let r : k < length cs = fields_there cs k i h in omega (arith, r)

-- of no class that isn't there
pub no_class_past_table : (cs : List Class) (k : ℕ) → length cs ≤ k → (is_instance_class cs k ≡ false) × (is_array_class cs k ≡ false)
unfolding is_instance_class is_array_class
no_class_past_table cs k h = let e : slice_get cs k ≡ None = slice_get_past cs k h in (ap (λ (o : Option Class). option_map_or (λ (c : Class). not c.is_array) o false) e, ap (λ (o : Option Class). option_map_or (λ (c : Class). c.is_array) o false) e)

-- the super of a class comes before it
sup_earlier : (before cs : List Class) (k : ℕ) (c : Class) → IsClassTable before cs → slice_get cs k ≡ Some c → IfSome c.sup (λ s. s < length before + k)
unfolding class_refusal
sup_earlier before [] k c t h = cc
sup_earlier before (d ∷ cs) zero c t h =
    let same : d ≡ c = cc in
    subst (λ (x : Class). IfSome x.sup (λ s. s < length before + 0)) same (go d.sup (not-false _ (no_refusal_test_holds _ t.0).0))
  where
    go : (o : Option ℕ) → option_map_or (is_instance_class before) o true ≡ true → IfSome o (λ s. s < length before + 0)
    go None e = tt
    go (Some s) e = omega (arith, instance_class_is_in_table before s e)
sup_earlier before (d ∷ cs) (suc k) c t h = go c.sup (sup_earlier (before ++ d ∷ []) cs k c t.2 h)
  where
    go : (o : Option ℕ) → IfSome o (λ s. s < length (before ++ d ∷ []) + k) → IfSome o (λ s. s < length before + suc k)
    go None e = tt
    go (Some s) e = omega (arith, e, length-append before (d ∷ []))

-- a class by its entry
pub class_read : (names : List (List ℕ)) (es : List ClassEntry) (k : ℕ) → slice_get (map (class_of_entry names) es) k ≡ option_map (class_of_entry names) (slice_get es k)
class_read names es k = slice_get-map (class_of_entry names) es k

-- an entry that is there, and one that isn't
pub slice_get_of_class_entry : (es : List ClassEntry) (k : ℕ) (e : ClassEntry) → k < length es → slice_get es k ≡ Some (get_or es k e)
slice_get_of_class_entry [] k e lt = absurd (omega arith)
slice_get_of_class_entry (x ∷ es) zero e lt = refl
slice_get_of_class_entry (x ∷ es) (suc k) e lt = slice_get_of_class_entry es k e (omega arith)

pub no_entry_past_table : (es : List ClassEntry) (k : ℕ) → length es ≤ k → slice_get es k ≡ None
no_entry_past_table es k le = slice_get_past es k le

-- what a call reads of a class
pub ruleset read_classes = (class_read, slice_get_of_class_entry, no_entry_past_table)

module _ (names : List (List ℕ)) (es : List ClassEntry) (t : IsEntryTable names es) (v : List Class) (view_is : map (class_of_entry names) es ≡ v) where
  pub as_many : length es ≡ length v
  as_many = sym (length-map es (class_of_entry names)) ∙ ap length view_is

  -- what is read of the list of entries, and what is past its end
  module _ (read : List ClassEntry) (same : read ≡ es) (k : ℕ) where
    pub within_read : k < length read → k < length v
    within_read lt = omega (arith, as_many, ap length same, lt)

    pub past_read : length read ≤ k → length v ≤ k
    past_read le = omega (arith, as_many, ap length same, le)

    pub entry_read : (e : ClassEntry) → e ≡ get_or read k e → e ≡ get_or es k e
    entry_read e is = is ∙ ap (λ l. get_or l k e) same

  -- the id of the name at a place
  pub id_at : (i : ℕ) → i < length names → i + 1 ≡ name_id v (get_or names i [])
  unfolding name_id
  id_at i lt =
      let table : name_table v ≡ names = ap name_table (sym view_is) ∙ table_names names es t in
      let place : position_or_len (bytes_eq (get_or names i [])) (name_table v) ≡ i
      = ap (position_or_len (bytes_eq (get_or names i []))) table ∙ position_is names i (subst (IsDistinct bytes_eq) table (table_distinct v)) lt in
      omega (arith, place)

  module _ (k : ℕ) (e : ClassEntry) (lt : k < length v) (is : e ≡ get_or es k e) where
    pub class_at : slice_get v k ≡ Some (class_of_entry names e)
    class_at =
        ap (λ l. slice_get l k) (sym view_is)
        ∙ slice_get-map (class_of_entry names) es k
        ∙ ap (option_map (class_of_entry names)) (slice_get_read es (length es) k e refl (omega (arith, as_many)) is)

    pub name_at : name_of v k ≡ get_or names e.name []
    unfolding name_of
    name_at = ap (λ (o : Option Class). option_map_or (λ (c : Class). c.name) o []) class_at

    pub fields_at : fields_of v k ≡ map (field_of_entry names) e.fields.items
    unfolding fields_of
    fields_at = ap (λ (o : Option Class). option_map_or (λ (c : Class). c.fields) o []) class_at

    pub sup_at : sup_of v k ≡ e.sup
    unfolding sup_of
    sup_at = ap (λ (o : Option Class). option_map_or (λ (c : Class). c.sup) o None) class_at

    pub instance_at : is_instance_class v k ≡ not e.is_array
    unfolding is_instance_class
    instance_at = ap (λ (o : Option Class). option_map_or (λ (c : Class). not c.is_array) o false) class_at

    pub array_at : is_array_class v k ≡ e.is_array
    unfolding is_array_class
    array_at = ap (λ (o : Option Class). option_map_or (λ (c : Class). c.is_array) o false) class_at

    pub sup_below : IfSome e.sup (λ s. s < k)
    sup_below = subst (λ n. IfSome e.sup (λ s. s < n)) (zero-add k) (sup_earlier [] (map (class_of_entry names) es) k (class_of_entry names e) t.classes (ap (λ l. slice_get l k) view_is ∙ class_at))

    pub slots_at : slots_of v k ≡ e.slots.items
    unfolding slots_of
    slots_at =
        ap (λ l. unwrap_or (slice_get (slot_table_after [] l) k) []) (sym view_is)
        ∙ ap (λ l. unwrap_or (slice_get l k) []) (sym t.slots)
        ∙ ap (λ o. unwrap_or o []) (slice_get-map (λ (d : ClassEntry). d.slots.items) es k ∙ ap (option_map (λ (d : ClassEntry). d.slots.items)) (slice_get_read es (length es) k e refl (omega (arith, as_many)) is))

    pub size_at : (ids : IdSize) → instance_size ids v k ≡ sum_by (width_of ids) e.slots.items
    unfolding instance_size
    size_at ids = ap (sum_by (width_of ids)) slots_at

    pub sized_at : AreSizes e.slots.items e.sizes
    sized_at = subst (λ (d : ClassEntry). AreSizes d.slots.items d.sizes) (sym is) (t.sized k e (omega (arith, as_many)))

    pub within_at : IsEntryWithin (length names) e
    within_at = subst (IsEntryWithin (length names)) (sym is) (all_entries_are_within names es t.placed k e (omega (arith, as_many)))

    pub roomy_at : IsRoomy e
    roomy_at = subst IsRoomy (sym is) (t.roomy k e (omega (arith, as_many)))

    -- an own field
    pub field_there : (i : ℕ) → i < length (fields_of v k) → i < length e.fields.items
    field_there i h = omega (arith, h, ap length fields_at, length-map e.fields.items (field_of_entry names))

    pub field_at : (i : ℕ) (f : OwnField) → i < length (fields_of v k) → f ≡ get_or e.fields.items i f → slice_get (fields_of v k) i ≡ Some (field_of_entry names f)
    field_at i f h at =
        ap (λ l. slice_get l i) fields_at
        ∙ slice_get-map (field_of_entry names) e.fields.items i
        ∙ ap (option_map (field_of_entry names)) (slice_get_read e.fields.items (length e.fields.items) i f refl (field_there i h) at)

    pub field_within : (i : ℕ) (f : OwnField) → i < length (fields_of v k) → f ≡ get_or e.fields.items i f → f.name < length names
    field_within i f h at = subst (λ (g : OwnField). g.name < length names) (sym at) (within_at.each i f (field_there i h))
