-- What holds of the first classes and of all alike.
use Rattle.std.proofs.Common.{◌≡◌, ℕ, zero, suc, ◌+◌, ◌<◌, ◌≤◌, Bool, true, false, not, ◌||◌, cond, List, [], ◌∷◌, ◌++◌, length, map, filter, get_or, take, drop, refl, sym, ap, ap₂, subst, ◌∙◌, arith, append_assoc, length-append, true≢false, Option, Some, None}
use Rattle.std.specs.Prelude.{flat_map, slice_get, IfSome}
use Rattle.std.specs.List.{list_any, position_or_len, sum_by}
use Rattle.std.specs.Option.{option_map_or}
use Rattle.std.specs.Str.{bytes_eq}
use Rattle.std.proofs.lemmas.List.{append-nil, get_or-take, take-append-drop}
use Rattle.std.proofs.lemmas.List.Folds.{list_any-append}
use Rattle.std.proofs.lemmas.Option.{slice_get-get_or}
use Rattle.heap_class.specs.declared.Field.{Field}
use Rattle.heap_class.specs.declared.IdSize.{IdSize}
use Rattle.heap_class.specs.Kinds.{width_of}
use Rattle.heap_class.specs.Classes.{Class, first_uses, name_table, names_in, name_of, fields_of, sup_of, slots_of, instance_size, is_array_class, name_id, IsClassTable}
use Rattle.heap_class.proofs.Slots.{get_append, slots_stay_with_one_class_more}
use Rattle.heap_class.proofs.FirstUses.{bytes_same, bytes_self, names_append, inserted_prefix, inserted_longer, table_distinct, position_is}

-- ---- a name that stands among others

or_with_true_is_true : (a : Bool) → (a || true) ≡ true
or_with_true_is_true true = refl
or_with_true_is_true false = refl

pub any_of_first_part : {A : Type 0} (p : A → Bool) (xs ys : List A) → list_any p xs ≡ true → list_any p (xs ++ ys) ≡ true
any_of_first_part p xs ys h = list_any-append p xs ys ∙ ap (λ b. b || list_any p ys) h

pub any_of_second_part : {A : Type 0} (p : A → Bool) (xs ys : List A) → list_any p ys ≡ true → list_any p (xs ++ ys) ≡ true
any_of_second_part p xs ys h = list_any-append p xs ys ∙ ap (λ b. list_any p xs || b) h ∙ or_with_true_is_true (list_any p xs)

-- where it stands
place_of_name_in_list : (x : List ℕ) (ks : List (List ℕ)) → list_any (bytes_eq x) ks ≡ true → (i : ℕ) × (i < length ks) × (get_or ks i [] ≡ x)
place_of_name_in_list x [] h = cc
place_of_name_in_list x (k ∷ ks) h = go (bytes_eq x k) refl (place_of_name_in_list x ks)
  where
    go : (b : Bool) → bytes_eq x k ≡ b → (list_any (bytes_eq x) ks ≡ true → (i : ℕ) × (i < length ks) × (get_or ks i [] ≡ x)) → (i : ℕ) × (i < length (k ∷ ks)) × (get_or (k ∷ ks) i [] ≡ x)
    go true e again = (0, omega arith, sym (bytes_same x k e))
    go false e again =
        let r = again (ap (λ b. b || list_any (bytes_eq x) ks) (sym e) ∙ h) in
        (suc r.0, omega (arith, r.1), r.2)

-- a name other than x stays where x is left out
pub other_name_is_not_filtered : (x z : List ℕ) (ys : List (List ℕ)) → bytes_eq z x ≡ false → list_any (bytes_eq z) (filter (λ y. not (bytes_eq x y)) ys) ≡ list_any (bytes_eq z) ys
other_name_is_not_filtered x z [] h = refl
other_name_is_not_filtered x z (y ∷ ys) h = go (bytes_eq z y) refl (bytes_eq x y) refl (other_name_is_not_filtered x z ys h)
  where
    go : (a : Bool) → bytes_eq z y ≡ a → (b : Bool) → bytes_eq x y ≡ b
        → list_any (bytes_eq z) (filter (λ y. not (bytes_eq x y)) ys) ≡ list_any (bytes_eq z) ys
        → list_any (bytes_eq z) (cond (not b) (y ∷ filter (λ y. not (bytes_eq x y)) ys) (filter (λ y. not (bytes_eq x y)) ys)) ≡ (bytes_eq z y || list_any (bytes_eq z) ys)
    go a e false f again = ap (λ b. bytes_eq z y || b) again
    go false e true f again = again ∙ ap (λ b. b || list_any (bytes_eq z) ys) (sym e)
    go true e true f again = absurd (true≢false (sym (ap₂ bytes_eq (bytes_same z y e) (bytes_same x y f) ∙ bytes_self y) ∙ h))

-- each name is among the distinct names
pub uses_have : (z : List ℕ) (xs : List (List ℕ)) → list_any (bytes_eq z) xs ≡ true → list_any (bytes_eq z) (first_uses xs) ≡ true
unfolding first_uses
uses_have z [] h = h
uses_have z (x ∷ xs) h = go (bytes_eq z x) refl (uses_have z xs)
  where
    go : (a : Bool) → bytes_eq z x ≡ a
        → (list_any (bytes_eq z) xs ≡ true → list_any (bytes_eq z) (first_uses xs) ≡ true)
        → list_any (bytes_eq z) (x ∷ filter (λ y. not (bytes_eq x y)) (first_uses xs)) ≡ true
    go true e again = ap (λ b. b || list_any (bytes_eq z) (filter (λ y. not (bytes_eq x y)) (first_uses xs))) e
    go false e again =
        ap (λ b. b || list_any (bytes_eq z) (filter (λ y. not (bytes_eq x y)) (first_uses xs))) e
        ∙ other_name_is_not_filtered x z (first_uses xs) e
        ∙ again (ap (λ b. b || list_any (bytes_eq z) xs) (sym e) ∙ h)

-- ---- the names of classes

name_there : (cs : List Class) (k : ℕ) → k < length cs → list_any (bytes_eq (name_of cs k)) (flat_map names_in cs) ≡ true
unfolding name_of names_in
name_there [] k h = absurd (omega (arith, h))
name_there (c ∷ cs) zero h =
    any_of_first_part (bytes_eq c.name) (names_in c) (flat_map names_in cs) (ap (λ b. b || list_any (bytes_eq c.name) (map (λ (f : Field). f.name) c.fields)) (bytes_self c.name))
name_there (c ∷ cs) (suc k) h =
    any_of_second_part (bytes_eq (name_of cs k)) (names_in c) (flat_map names_in cs) (name_there cs k (omega (arith, h)))

pub field_named : (fs : List Field) (i : ℕ) (f : Field) → slice_get fs i ≡ Some f → list_any (bytes_eq f.name) (map (λ (g : Field). g.name) fs) ≡ true
field_named [] i f h = cc
field_named (g ∷ fs) zero f h =
    let same : g ≡ f = cc in
    subst (λ (x : Field). (bytes_eq x.name g.name || list_any (bytes_eq x.name) (map (λ (g : Field). g.name) fs)) ≡ true) same
    (ap (λ b. b || list_any (bytes_eq g.name) (map (λ (g : Field). g.name) fs)) (bytes_self g.name))
field_named (g ∷ fs) (suc i) f h = ap (λ b. bytes_eq f.name g.name || b) (field_named fs i f h) ∙ or_with_true_is_true (bytes_eq f.name g.name)

pub field_name_there : (cs : List Class) (k i : ℕ) (f : Field) → slice_get (fields_of cs k) i ≡ Some f → list_any (bytes_eq f.name) (flat_map names_in cs) ≡ true
unfolding fields_of names_in
field_name_there [] k i f h = cc
field_name_there (c ∷ cs) zero i f h =
    any_of_first_part (bytes_eq f.name) (names_in c) (flat_map names_in cs)
    (ap (λ b. bytes_eq f.name c.name || b) (field_named c.fields i f h) ∙ or_with_true_is_true (bytes_eq f.name c.name))
field_name_there (c ∷ cs) (suc k) i f h =
    any_of_second_part (bytes_eq f.name) (names_in c) (flat_map names_in cs) (field_name_there cs k i f h)

-- ---- further classes

slots_append : (cs ds : List Class) (k : ℕ) → k < length cs → slots_of (cs ++ ds) k ≡ slots_of cs k
slots_append cs [] k h = ap (λ l. slots_of l k) (append-nil cs)
slots_append cs (d ∷ ds) k h =
    ap (λ l. slots_of l k) (sym (append_assoc cs (d ∷ []) ds))
    ∙ slots_append (cs ++ d ∷ []) ds k (omega (arith, h, length-append cs (d ∷ [])))
    ∙ slots_stay_with_one_class_more cs d k h

table_front : (before cs ds : List Class) → IsClassTable before (cs ++ ds) → IsClassTable before cs
table_front before [] ds t = tt
table_front before (c ∷ cs) ds t = (t.0, t.1, table_front (before ++ c ∷ []) cs ds t.2)

names_front : (cs ds : List Class) → take (length (name_table cs)) (name_table (cs ++ ds)) ≡ name_table cs
names_front cs ds = ap (take (length (name_table cs))) (names_append cs ds) ∙ inserted_prefix (name_table cs) (flat_map names_in ds)

names_longer : (cs ds : List Class) → length (name_table cs) ≤ length (name_table (cs ++ ds))
names_longer cs ds = omega (arith, ap length (names_append cs ds), inserted_longer (name_table cs) (flat_map names_in ds))

name_front : (cs ds : List Class) (i : ℕ) → i < length (name_table cs) → get_or (name_table (cs ++ ds)) i [] ≡ get_or (name_table cs) i []
name_front cs ds i lt =
    sym (get_or-take (length (name_table cs)) (name_table (cs ++ ds)) i [] lt) ∙ ap (λ l. get_or l i []) (names_front cs ds)

name_id_among_first_classes : (cs ds : List Class) (x : List ℕ) → list_any (bytes_eq x) (flat_map names_in cs) ≡ true → name_id (cs ++ ds) x ≡ name_id cs x
unfolding name_id name_table
name_id_among_first_classes cs ds x h =
    let at = place_of_name_in_list x (name_table cs) (uses_have x (flat_map names_in cs) h) in
    let whole : get_or (name_table (cs ++ ds)) at.0 [] ≡ x = name_front cs ds at.0 at.1 ∙ at.2 in
    let in_whole : position_or_len (bytes_eq x) (name_table (cs ++ ds)) ≡ at.0
    = ap (λ n. position_or_len (bytes_eq n) (name_table (cs ++ ds))) (sym whole) ∙ position_is (name_table (cs ++ ds)) at.0 (table_distinct (cs ++ ds)) (omega (arith, at.1, names_longer cs ds)) in
    let in_front : position_or_len (bytes_eq x) (name_table cs) ≡ at.0
    = ap (λ n. position_or_len (bytes_eq n) (name_table cs)) (sym at.2) ∙ position_is (name_table cs) at.0 (table_distinct cs) at.1 in
    ap (λ n. 1 + n) (in_whole ∙ sym in_front)

-- ---- what the first classes say, by what all say

pub taken_classes_rejoin_dropped : (cs v : List Class) (n : ℕ) → take n cs ≡ v → v ++ drop n cs ≡ cs
taken_classes_rejoin_dropped cs v n is = ap (λ l. l ++ drop n cs) (sym is) ∙ take-append-drop n cs

module _ (cs v ds : List Class) (whole : v ++ ds ≡ cs) where
  pub first_table : IsClassTable [] cs → IsClassTable [] v
  first_table t = table_front [] v ds (subst (IsClassTable []) (sym whole) t)

  pub fewer : length v ≤ length cs
  fewer = omega (arith, ap length whole, length-append v ds)

  pub fewer_names : length (name_table v) ≤ length (name_table cs)
  fewer_names = omega (arith, names_longer v ds, ap (λ l. length (name_table l)) whole)

  -- the name that has an id
  pub same_name : (i : ℕ) → i < length (name_table v) → slice_get (name_table v) i ≡ slice_get (name_table cs) i
  same_name i lt =
      slice_get-get_or (name_table v) i [] lt
      ∙ ap Some (sym (name_front v ds i lt) ∙ ap (λ l. get_or (name_table l) i []) whole)
      ∙ sym (slice_get-get_or (name_table cs) i [] (omega (arith, lt, fewer_names)))

  module _ (k : ℕ) (lt : k < length v) where
    same_class : slice_get v k ≡ slice_get cs k
    same_class = sym (get_append v ds k lt) ∙ ap (λ l. slice_get l k) whole

    pub same_class_name : name_of v k ≡ name_of cs k
    unfolding name_of
    same_class_name = ap (λ (o : Option Class). option_map_or (λ (c : Class). c.name) o []) same_class

    pub same_fields : fields_of v k ≡ fields_of cs k
    unfolding fields_of
    same_fields = ap (λ (o : Option Class). option_map_or (λ (c : Class). c.fields) o []) same_class

    pub same_sup : sup_of v k ≡ sup_of cs k
    unfolding sup_of
    same_sup = ap (λ (o : Option Class). option_map_or (λ (c : Class). c.sup) o None) same_class

    pub same_array : is_array_class v k ≡ is_array_class cs k
    unfolding is_array_class
    same_array = ap (λ (o : Option Class). option_map_or (λ (c : Class). c.is_array) o false) same_class

    pub same_slots : slots_of v k ≡ slots_of cs k
    same_slots = sym (slots_append v ds k lt) ∙ ap (λ l. slots_of l k) whole

    pub same_size : (ids : IdSize) → instance_size ids v k ≡ instance_size ids cs k
    unfolding instance_size
    same_size ids = ap (sum_by (width_of ids)) same_slots

    pub same_class_id : name_id v (name_of v k) ≡ name_id cs (name_of cs k)
    same_class_id =
        sym (name_id_among_first_classes v ds (name_of v k) (name_there v k lt)) ∙ ap₂ name_id whole same_class_name

    pub same_field_id : (i : ℕ) (n : ℕ) → IfSome (slice_get (fields_of cs k) i) (λ f. n ≡ name_id cs f.name) → IfSome (slice_get (fields_of v k) i) (λ f. n ≡ name_id v f.name)
    same_field_id i n h = go (slice_get (fields_of v k) i) refl (subst (λ (l : List Field). IfSome (slice_get l i) (λ f. n ≡ name_id cs f.name)) (sym same_fields) h)
      where
        go : (o : Option Field) → slice_get (fields_of v k) i ≡ o → IfSome o (λ f. n ≡ name_id cs f.name) → IfSome o (λ f. n ≡ name_id v f.name)
        go None e g = tt
        go (Some f) e g = g ∙ ap (λ l. name_id l f.name) (sym whole) ∙ name_id_among_first_classes v ds f.name (field_name_there v k i f e)
