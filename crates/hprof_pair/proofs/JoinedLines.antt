-- Classes of a second dump that are joined to those of a first, one after another.
use Rattle.std.proofs.Common.{◌≡◌, ◌≢◌, ◌⊎◌, inl, inr, ℕ, zero, suc, ◌+◌, ◌-◌, ◌<◌, ◌≤◌, Bool, true, false, not, cond, ◌||◌, ◌&&◌, List, [], ◌∷◌, ◌++◌, length, take, drop, map, get_or, Option, Some, None, Ok, Err, refl, sym, ap, subst, ◌∙◌, lt-ltb, le-ltb, arith}
use Rattle.std.specs.Prelude.{flat_map, fold, is_none, nat_lt, option_map, position, slice_get, IfSome}
use Rattle.std.specs.List.{list_any, position_or_len}
use Rattle.std.specs.Option.{option_map_or}
use Rattle.std.specs.Str.{bytes_eq}
use Rattle.std.proofs.lemmas.Grind.{flat_map-append}
use Rattle.std.proofs.lemmas.List.{append-nil, drop_all, length-append, map-append, take_all, take_more}
use Rattle.std.proofs.lemmas.List.Folds.{list_any-append}
use Rattle.std.proofs.lemmas.List.Sums.{fold-append, position_or_len_is}
use Rattle.std.proofs.lemmas.Option.{slice_get-get_or, slice_get_within}
use Rattle.heap_class.specs.declared.ClassLimits.{ClassLimits}
use Rattle.heap_class.specs.declared.Field.{Field}
use Rattle.heap_class.specs.declared.Kind.{Kind}
use Rattle.heap_class.specs.declared.Refusal.{Refusal}
use Rattle.heap_class.specs.declared.Refusal.TheVariants.{NoMemory}
use Rattle.heap_class.specs.Classes.{Class, IsClassTable, IsDefined, array_class, class_refusal, fields_of, instance_class, is_array_class, name_id, name_of, name_table, names_in, sup_of}
use Rattle.heap_class.specs.Refusals.{IsAnswered}
use Rattle.heap_class.proofs.FirstUses.{bytes_flip, bytes_self}
use Rattle.heap_step.specs.declared.Event.TheVariants as events
use Rattle.hprof_plan.specs.Accepted.{class_event, class_lines, class_names, next_name}
use Rattle.hprof_plan.specs.Names.{given_name, is_clean, other_name}
use Rattle.hprof_pair.specs.JoinedClasses.{Joined, and_class, and_defined, and_found, and_number, class_line, classes_joined, number_of_line, over, renamed, super_over}
use Rattle.hprof_pair.specs.JoinedSoFar.{AreJoined, IsDefinedAs}
use Rattle.hprof_pair.specs.declared.joined_classes.JoinedClasses.{JoinedClasses}
use Rattle.hprof_pair.proofs.NameIds.{name_by_id}

-- ---- the first of its like

pub number_of_the_first : {X : Type 0} (p : X → Bool) (xs : List X) (i : ℕ) (d : X) → i < length xs → ((k : ℕ) → k < i → p (get_or xs k d) ≡ false) → p (get_or xs i d) ≡ true → Some i ≡ position p xs
number_of_the_first p xs i d less none is =
    let at : position_or_len p xs ≡ i = position_or_len_is p xs i d (omega (arith, less)) none (λ _. is) in
    sym (ap (λ (n : ℕ). cond (nat_lt n (length xs)) (Some n) None) at ∙ ap (λ (b : Bool). cond b (Some i) None) (lt-ltb i (length xs) less))

pub found_nowhere : {X : Type 0} (p : X → Bool) (xs : List X) (i : ℕ) (d : X) → length xs ≤ i → i ≤ length xs → ((k : ℕ) → k < i → p (get_or xs k d) ≡ false) → None ≡ position p xs
found_nowhere p xs i d past within none =
    let at : position_or_len p xs ≡ i = position_or_len_is p xs i d within none (λ less. absurd (omega (arith, less, past))) in
    sym (ap (λ (n : ℕ). cond (nat_lt n (length xs)) (Some n) None) at ∙ ap (λ (b : Bool). cond b (Some i) None) (le-ltb i (length xs) past))

pub other_before : {X : Type 0} (p : X → Bool) (xs : List X) (i : ℕ) (d : X) → ((k : ℕ) → k < i → p (get_or xs k d) ≡ false) → p (get_or xs i d) ≡ false → (k : ℕ) → k < i + 1 → p (get_or xs k d) ≡ false
other_before p xs i d none other k less = go (nat_lt k i) refl
  where
    go : (b : Bool) → nat_lt k i ≡ b → p (get_or xs k d) ≡ false
    go true before = none k (grind (arith, before))
    go false at = subst (λ (n : ℕ). p (get_or xs n d) ≡ false) (grind (arith, at, less)) other

-- ---- classes and their parts

nameless_class : Class
nameless_class = record { name = []; sup = None; fields = []; is_array = false }

class_of_its_number : (classes : List Class) (k : ℕ) → k < length classes → slice_get classes k ≡ Some (get_or classes k nameless_class)
class_of_its_number classes k less = slice_get-get_or classes k nameless_class less

pub name_of_class_at : (classes : List Class) (k : ℕ) (c : Class) → slice_get classes k ≡ Some c → name_of classes k ≡ c.name
unfolding name_of
name_of_class_at classes k c there = ap (λ (o : Option Class). option_map_or (λ (x : Class). x.name) o []) there

pub sup_is : (classes : List Class) (k : ℕ) (c : Class) → slice_get classes k ≡ Some c → sup_of classes k ≡ c.sup
unfolding sup_of
sup_is classes k c there = ap (λ (o : Option Class). option_map_or (λ (x : Class). x.sup) o None) there

fields_are : (classes : List Class) (k : ℕ) (c : Class) → slice_get classes k ≡ Some c → fields_of classes k ≡ c.fields
unfolding fields_of
fields_are classes k c there = ap (λ (o : Option Class). option_map_or (λ (x : Class). x.fields) o []) there

array_is : (classes : List Class) (k : ℕ) (c : Class) → slice_get classes k ≡ Some c → is_array_class classes k ≡ c.is_array
unfolding is_array_class
array_is classes k c there = ap (λ (o : Option Class). option_map_or (λ (x : Class). x.is_array) o false) there

bare_after : (before classes : List Class) (k : ℕ) (c : Class) → IsClassTable before classes → slice_get classes k ≡ Some c → c.is_array ≡ true → (c.sup ≡ None) × (c.fields ≡ [])
bare_after before [] k c table there array = cc
bare_after before (x ∷ classes) zero c table there array = let same : x ≡ c = cc in subst (λ (y : Class). (y.sup ≡ None) × (y.fields ≡ [])) same (table.1 (subst (λ (y : Class). y.is_array ≡ true) (sym same) array))
bare_after before (x ∷ classes) (suc k) c table there array = bare_after (before ++ x ∷ []) classes k c table.2 there array

-- an array class has no super and no fields
array_is_bare : (classes : List Class) (k : ℕ) (c : Class) → IsClassTable [] classes → slice_get classes k ≡ Some c → is_array_class classes k ≡ true → (c.sup ≡ None) × (c.fields ≡ [])
array_is_bare classes k c table there array = bare_after [] classes k c table there (sym (array_is classes k c there) ∙ array)

-- so the number of its super is that of none
pub bare_over : (classes : List Class) (k : ℕ) (numbers : List (Option ℕ)) (sup above : Option ℕ) → k < length classes → IsClassTable [] classes → above ≡ sup_of classes k → super_over numbers above ≡ Some sup → is_array_class classes k ≡ true → sup ≡ None
bare_over classes k numbers sup above less table is found array =
    let c = get_or classes k nameless_class in
    let there = class_of_its_number classes k less in
    let none : above ≡ None = is ∙ sup_is classes k c there ∙ (array_is_bare classes k c table there array).0 in
    let both : Some sup ≡ Some None = sym found ∙ ap (super_over numbers) none in
    cc

-- ---- own fields

named_in_own : (fields : List Field) (i : ℕ) (f : Field) → slice_get fields i ≡ Some f → list_any (bytes_eq f.name) (map (λ (g : Field). g.name) fields) ≡ true
named_in_own [] i f there = cc
named_in_own (g ∷ fields) zero f there =
    let same : g ≡ f = cc in
    subst (λ (h : Field). (bytes_eq h.name g.name || list_any (bytes_eq h.name) (map (λ (x : Field). x.name) fields)) ≡ true) same (first (bytes_eq g.name g.name) (list_any (bytes_eq g.name) (map (λ (x : Field). x.name) fields)) (bytes_self g.name))
  where
    first : (a b : Bool) → a ≡ true → (a || b) ≡ true
    first true b is = refl
    first false b is = cc
named_in_own (g ∷ fields) (suc i) f there = later (bytes_eq f.name g.name) (list_any (bytes_eq f.name) (map (λ (x : Field). x.name) fields)) (named_in_own fields i f there)
  where
    later : (a b : Bool) → b ≡ true → (a || b) ≡ true
    later true b is = refl
    later false b is = is

or_one : (a b : Bool) → (a ≡ true) ⊎ (b ≡ true) → (a || b) ≡ true
or_one true b h = refl
or_one false b (inl is) = cc
or_one false b (inr is) = is

named_in_class : (c : Class) (i : ℕ) (f : Field) → slice_get c.fields i ≡ Some f → list_any (bytes_eq f.name) (names_in c) ≡ true
unfolding names_in
named_in_class c i f there = or_one (bytes_eq f.name c.name) (list_any (bytes_eq f.name) (map (λ (g : Field). g.name) c.fields)) (inr (named_in_own c.fields i f there))

named_in : (classes : List Class) (k i : ℕ) (c : Class) (f : Field) → slice_get classes k ≡ Some c → slice_get c.fields i ≡ Some f → list_any (bytes_eq f.name) (flat_map names_in classes) ≡ true
named_in [] k i c f at there = cc
named_in (x ∷ classes) zero i c f at there =
    let same : x ≡ c = cc in
    list_any-append (bytes_eq f.name) (names_in x) (flat_map names_in classes)
    ∙ or_one (list_any (bytes_eq f.name) (names_in x)) (list_any (bytes_eq f.name) (flat_map names_in classes)) (inl (subst (λ (y : Class). list_any (bytes_eq f.name) (names_in y) ≡ true) (sym same) (named_in_class c i f there)))
named_in (x ∷ classes) (suc k) i c f at there =
    list_any-append (bytes_eq f.name) (names_in x) (flat_map names_in classes)
    ∙ or_one (list_any (bytes_eq f.name) (names_in x)) (list_any (bytes_eq f.name) (flat_map names_in classes)) (inr (named_in classes k i c f at there))

no_field : Field
no_field = record { name = []; kind = Kind.Object }

-- what is told of the field at a place
field_told : (fields : List Field) (i : ℕ) (P : Field → Type 0) → i < length fields → IfSome (slice_get fields i) P → P (get_or fields i no_field)
field_told fields i P less told = subst (λ (o : Option Field). IfSome o P) (slice_get-get_or fields i no_field less) told

-- the name of the field at a place has the place before its id among the names
field_name_at : (classes : List Class) (k i id : ℕ) → k < length classes → i < length (fields_of classes k) → IfSome (slice_get (fields_of classes k) i) (λ f. id ≡ name_id classes f.name)
    → (1 ≤ id) × (slice_get (name_table classes) (id - 1) ≡ Some (get_or (fields_of classes k) i no_field).name)
unfolding name_id
field_name_at classes k i id less within told =
    let f = get_or (fields_of classes k) i no_field in
    let c = get_or classes k nameless_class in
    let at = class_of_its_number classes k less in
    let there : slice_get c.fields i ≡ Some f = ap (λ (fs : List Field). slice_get fs i) (sym (fields_are classes k c at)) ∙ slice_get-get_or (fields_of classes k) i no_field within in
    let is : id ≡ 1 + position_or_len (bytes_eq f.name) (name_table classes) = field_told (fields_of classes k) i (λ g. id ≡ name_id classes g.name) within told in
    let place : id - 1 ≡ position_or_len (bytes_eq f.name) (name_table classes) = omega (arith, is) in
    (omega (arith, is), ap (slice_get (name_table classes)) place ∙ name_by_id classes f.name (named_in classes k i c f at there))

pub field_id_is_one_or_more : (classes : List Class) (k i id : ℕ) → k < length classes → i < length (fields_of classes k) → IfSome (slice_get (fields_of classes k) i) (λ f. id ≡ name_id classes f.name) → 1 ≤ id
field_id_is_one_or_more classes k i id less within told = (field_name_at classes k i id less within told).0

pub field_id_is_in_table : (classes : List Class) (k i id : ℕ) → k < length classes → i < length (fields_of classes k) → IfSome (slice_get (fields_of classes k) i) (λ f. id ≡ name_id classes f.name) → id - 1 < length (name_table classes)
field_id_is_in_table classes k i id less within told = slice_get_within (name_table classes) (id - 1) _ (field_name_at classes k i id less within told).1

pub one_field_more : (classes : List Class) (k i id : ℕ) (bytes name : List ℕ) (kind : Kind) (before after : List Field) → k < length classes → i < length (fields_of classes k)
    → IfSome (slice_get (fields_of classes k) i) (λ f. id ≡ name_id classes f.name) → slice_get (name_table classes) (id - 1) ≡ Some bytes → name ≡ bytes
    → IfSome (slice_get (fields_of classes k) i) (λ f. kind ≡ f.kind) → before ≡ take i (fields_of classes k) → after ≡ before ++ record { name = name; kind = kind } ∷ []
    → after ≡ take (i + 1) (fields_of classes k)
one_field_more classes k i id bytes name kind before after less within told at is kind_told so_far more =
    let fields = fields_of classes k in
    let f = get_or fields i no_field in
    let both : Some bytes ≡ Some f.name = sym at ∙ (field_name_at classes k i id less within told).1 in
    let named : name ≡ f.name = is ∙ inside bytes f.name both in
    more
    ∙ ap (λ (fs : List Field). fs ++ record { name = name; kind = kind } ∷ []) so_far
    ∙ ap (λ (n : List ℕ). take i fields ++ record { name = n; kind = kind } ∷ []) named
    ∙ ap (λ (q : Kind). take i fields ++ record { name = f.name; kind = q } ∷ []) (field_told fields i (λ g. kind ≡ g.kind) within kind_told)
    ∙ sym (take_more fields i no_field within)
  where
    inside : (a b : List ℕ) → Some a ≡ Some b → a ≡ b
    inside a b e = cc

-- ---- lines

pub array_event : (classes : List Class) (k : ℕ) (c : Class) (name : List ℕ) (sup : Option ℕ) → slice_get classes k ≡ Some c → name ≡ name_of classes k → is_array_class classes k ≡ true → events.ArrayClass name ≡ class_event (over c sup)
array_event classes k c name sup there is array =
    ap events.ArrayClass (is ∙ name_of_class_at classes k c there)
    ∙ sym (ap (λ (b : Bool). cond b (events.ArrayClass c.name) (events.Class c.name sup c.fields)) (sym (array_is classes k c there) ∙ array))

pub instance_event : (classes : List Class) (k : ℕ) (c : Class) (name : List ℕ) (sup : Option ℕ) (fields : List Field) → slice_get classes k ≡ Some c → name ≡ name_of classes k → is_array_class classes k ≡ false → fields ≡ fields_of classes k
    → events.Class name sup fields ≡ class_event (over c sup)
instance_event classes k c name sup fields there is instance are =
    ap (λ (n : List ℕ). events.Class n sup fields) (is ∙ name_of_class_at classes k c there)
    ∙ ap (events.Class c.name sup) (are ∙ fields_are classes k c there)
    ∙ sym (ap (λ (b : Bool). cond b (events.ArrayClass c.name) (events.Class c.name sup c.fields)) (sym (array_is classes k c there) ∙ instance))

-- the line of one class more
pub line_more : (classes : List Class) (k : ℕ) (sup : Option ℕ) (line : List ℕ) (before after : List (List ℕ)) → k < length classes
    → ((c : Class) → slice_get classes k ≡ Some c → line ≡ class_line (over c sup)) → sup ≡ sup_of classes k
    → before ≡ map class_line (take k classes) → after ≡ before ++ line ∷ [] → after ≡ map class_line (take (k + 1) classes)
line_more classes k sup line before after less lines is so_far more =
    let c = get_or classes k nameless_class in
    let there = class_of_its_number classes k less in
    more
    ∙ ap (λ (ls : List (List ℕ)). ls ++ line ∷ []) so_far
    ∙ ap (λ (l : List ℕ). map class_line (take k classes) ++ l ∷ []) (lines c there ∙ ap (λ (s : Option ℕ). class_line (over c s)) (is ∙ sup_is classes k c there))
    ∙ sym (map-append class_line (take k classes) (c ∷ []))
    ∙ ap (map class_line) (sym (take_more classes k nameless_class less))

pub all_lines : (classes : List Class) (k : ℕ) (lines : List (List ℕ)) → length classes ≤ k → lines ≡ map class_line (take k classes) → lines ≡ map class_line classes
all_lines classes k lines past so_far = so_far ∙ ap (map class_line) (take_all k classes past)

-- ---- names

-- the classes so far have other names
pub no_name_more : (name : List ℕ) (classes : List Class) (k : ℕ) (n : List ℕ) → k < length classes → n ≡ name_of classes k → list_any (λ (c : Class). bytes_eq c.name name) (take k classes) ≡ false → bytes_eq n name ≡ false
    → list_any (λ (c : Class). bytes_eq c.name name) (take (k + 1) classes) ≡ false
no_name_more name classes k n less is none other =
    let c = get_or classes k nameless_class in
    let p : Class → Bool = λ (x : Class). bytes_eq x.name name in
    ap (list_any p) (take_more classes k nameless_class less) ∙ list_any-append p (take k classes) (c ∷ [])
    ∙ neither (list_any p (take k classes)) (p c) none (ap (λ (m : List ℕ). bytes_eq m name) (sym (is ∙ name_of_class_at classes k c (class_of_its_number classes k less))) ∙ other)
  where
    neither : (a b : Bool) → a ≡ false → b ≡ false → (a || (b || false)) ≡ false
    neither true b x y = cc
    neither false true x y = cc
    neither false false x y = refl

pub name_found : (name : List ℕ) (classes : List Class) (k : ℕ) (n : List ℕ) → k < length classes → n ≡ name_of classes k → bytes_eq n name ≡ true → true ≡ list_any (λ (c : Class). bytes_eq c.name name) classes
name_found name classes k n less is same =
    let c = get_or classes k nameless_class in
    let there = class_of_its_number classes k less in
    sym (any_at classes k c there (ap (λ (m : List ℕ). bytes_eq m name) (sym (is ∙ name_of_class_at classes k c there)) ∙ same))
  where
    any_at : (cs : List Class) (i : ℕ) (c : Class) → slice_get cs i ≡ Some c → bytes_eq c.name name ≡ true → list_any (λ (x : Class). bytes_eq x.name name) cs ≡ true
    any_at [] i c there it = cc
    any_at (x ∷ cs) zero c there it = let e : x ≡ c = cc in or_one (bytes_eq x.name name) (list_any (λ (y : Class). bytes_eq y.name name) cs) (inl (subst (λ (y : Class). bytes_eq y.name name ≡ true) (sym e) it))
    any_at (x ∷ cs) (suc i) c there it = or_one (bytes_eq x.name name) (list_any (λ (y : Class). bytes_eq y.name name) cs) (inr (any_at cs i c there it))

pub no_name_found : (name : List ℕ) (classes : List Class) (k : ℕ) → length classes ≤ k → list_any (λ (c : Class). bytes_eq c.name name) (take k classes) ≡ false → false ≡ list_any (λ (c : Class). bytes_eq c.name name) classes
no_name_found name classes k past none = sym (ap (list_any (λ (c : Class). bytes_eq c.name name)) (sym (take_all k classes past)) ∙ none)

any_in_names : (name : List ℕ) (classes : List Class) → list_any (λ (c : Class). bytes_eq c.name name) classes ≡ list_any (bytes_eq name) (class_names classes)
any_in_names name [] = refl
any_in_names name (c ∷ classes) =
    ap (λ (b : Bool). b || list_any (λ (x : Class). bytes_eq x.name name) classes) (bytes_flip c.name name)
    ∙ ap (λ (b : Bool). bytes_eq name c.name || b) (any_in_names name classes)

-- the name that a further class gets
pub next_is_given : (limits : ClassLimits) (classes : List Class) (name looked taken given : List ℕ) (number : ℕ) (any : Bool) → number ≡ length classes → looked ≡ name → taken ≡ name
    → any ≡ list_any (λ (c : Class). bytes_eq c.name looked) classes → given ≡ cond (is_clean limits taken && not any) taken (other_name limits number taken) → given ≡ next_name limits classes name
unfolding given_name
next_is_given limits classes name looked taken given number any len same same_too is_any is =
    is
    ∙ ap (λ (m : List ℕ). cond (is_clean limits m && not any) m (other_name limits number m)) same_too
    ∙ ap (λ (k : ℕ). cond (is_clean limits name && not any) name (other_name limits k name)) len
    ∙ ap (λ (v : Bool). cond (is_clean limits name && not v) name (other_name limits (length classes) name))
    (is_any ∙ ap (λ (m : List ℕ). list_any (λ (c : Class). bytes_eq c.name m) classes) same ∙ any_in_names name classes)

-- ---- one class more

line_place : (first : List Class) (j : JoinedClasses) (s : Joined) (h : Class) (line : List ℕ) → AreJoined first j s → line ≡ class_line h → position (bytes_eq line) j.known.items ≡ number_of_line s.classes h
line_place first j s h line are is =
    ap (λ (l : List ℕ). position (bytes_eq l) j.known.items) is ∙ ap (position (bytes_eq (class_line h))) are.known

-- a class that the same line defines is found
pub found_over : (limits : ClassLimits) (first : List Class) (j : JoinedClasses) (s : Joined) (h : Class) (line : List ℕ) (n : ℕ) → AreJoined first j s → line ≡ class_line h → Some n ≡ position (bytes_eq line) j.known.items
    → IsDefinedAs first j.numbers.items (Some n) j (and_found limits s h (number_of_line s.classes h))
found_over limits first j s h line n are is found =
    subst (λ (o : Option ℕ). IsDefinedAs first j.numbers.items (Some n) j (and_found limits s h o)) (found ∙ line_place first j s h line are is)
    (record {
      classes = are.classes;
      known = are.known;
      text = are.text;
      numbers = refl;
      few = are.few;
      last = ap (λ (ns : List (Option ℕ)). ns ++ Some n ∷ []) (sym are.numbers);
    })

-- or there is none, and one is defined
pub defined_over : (limits : ClassLimits) (first : List Class) (j : JoinedClasses) (s : Joined) (h : Class) (line : List ℕ) (before : List (Option ℕ)) (o : Option ℕ) (next : JoinedClasses) → AreJoined first j s → line ≡ class_line h
    → None ≡ position (bytes_eq line) j.known.items → IsDefinedAs first before o next (and_defined limits s (renamed limits s.classes h)) → IsDefinedAs first before o next (and_found limits s h (number_of_line s.classes h))
defined_over limits first j s h line before o next are is none defined =
    subst (λ (x : Option ℕ). IsDefinedAs first before o next (and_found limits s h x)) (none ∙ line_place first j s h line are is) defined

drop_before : {X : Type 0} (n : ℕ) (xs ys : List X) → n ≤ length xs → drop n (xs ++ ys) ≡ drop n xs ++ ys
drop_before zero xs ys few = refl
drop_before (suc n) [] ys few = absurd (omega (arith, few))
drop_before (suc n) (x ∷ xs) ys few = drop_before n xs ys (omega (arith, few))

lines_and : (first classes : List Class) (r : Class) → length first ≤ length classes → class_lines (drop (length first) (classes ++ r ∷ [])) ≡ class_lines (drop (length first) classes) ++ class_line r
lines_and first classes r few =
    ap class_lines (drop_before (length first) classes (r ∷ []) few)
    ∙ flat_map-append class_line (drop (length first) classes) (r ∷ [])
    ∙ ap (λ (t : List ℕ). class_lines (drop (length first) classes) ++ t) (append-nil (class_line r))

-- a class was defined
pub class_defined : (limits : ClassLimits) (first : List Class) (j next : JoinedClasses) (s : Joined) (h c : Class) (n : ℕ) (line : List ℕ) → AreJoined first j s → c ≡ renamed limits s.classes h
    → IsDefined limits c j.classes next.classes (Ok n) → line ≡ class_line c → next.known.items ≡ j.known.items ++ line ∷ [] → next.text.items ≡ j.text.items ++ line → next.numbers.items ≡ j.numbers.items
    → IsDefinedAs first j.numbers.items (Some n) next (and_defined limits s (renamed limits s.classes h))
class_defined limits first j next s h c n line are is defined spelled known text same =
    subst (IsDefinedAs first j.numbers.items (Some n) next) (sym taken)
    (record {
      classes = defined.defined ∙ ap (λ (cs : List Class). cs ++ c ∷ []) are.classes ∙ ap (λ (x : Class). s.classes ++ x ∷ []) is;
      known =
          known ∙ ap (λ (ls : List (List ℕ)). ls ++ line ∷ []) are.known ∙ ap (λ (l : List ℕ). map class_line s.classes ++ l ∷ []) (spelled ∙ ap class_line is)
          ∙ sym (map-append class_line s.classes (r ∷ []));
      text =
          text ∙ ap (λ (t : List ℕ). t ++ line) are.text ∙ ap (λ (t : List ℕ). class_lines (drop (length first) s.classes) ++ t) (spelled ∙ ap class_line is)
          ∙ sym (lines_and first s.classes r are.few);
      numbers = same;
      few = omega (arith, are.few, length-append s.classes (r ∷ []));
      last =
          ap (λ (ns : List (Option ℕ)). ns ++ Some (length s.classes) ∷ []) (sym are.numbers)
          ∙ ap (λ (k : ℕ). j.numbers.items ++ Some k ∷ []) (sym (defined.number ∙ ap length are.classes));
    })
  where
    r : Class
    r = renamed limits s.classes h

    none : class_refusal limits s.classes r ≡ None
    none = ap (λ (x : Class). class_refusal limits s.classes x) (sym is) ∙ ap (λ (cs : List Class). class_refusal limits cs c) (sym are.classes) ∙ defined.answered

    taken : and_defined limits s r ≡ record { classes = s.classes ++ r ∷ []; numbers = s.numbers ++ Some (length s.classes) ∷ [] }
    taken = ap (λ (o : Option Refusal). cond (is_none o) (record { classes = s.classes ++ r ∷ []; numbers = s.numbers ++ Some (length s.classes) ∷ [] }) (and_number s None)) none

refused_by : (o : Option Refusal) (e : Refusal) → IsAnswered {A = ℕ} o true (Err e) → e ≢ NoMemory → o ≡ Some e
refused_by o e (inl is) other = is
refused_by o e (inr h) other = absurd (other h.2)

-- a class was refused
pub class_refused : (limits : ClassLimits) (first : List Class) (j next : JoinedClasses) (s : Joined) (h c : Class) (e : Refusal) → AreJoined first j s → c ≡ renamed limits s.classes h
    → IsDefined limits c j.classes next.classes (Err e) → e ≢ NoMemory → next.known.items ≡ j.known.items → next.text.items ≡ j.text.items → next.numbers.items ≡ j.numbers.items
    → IsDefinedAs first j.numbers.items None next (and_defined limits s (renamed limits s.classes h))
class_refused limits first j next s h c e are is defined other known text same =
    subst (IsDefinedAs first j.numbers.items None next) (sym refused)
    (record {
      classes = defined.unchanged ∙ are.classes;
      known = known ∙ are.known;
      text = text ∙ are.text;
      numbers = same;
      few = are.few;
      last = ap (λ (ns : List (Option ℕ)). ns ++ None ∷ []) (sym are.numbers);
    })
  where
    r : Class
    r = renamed limits s.classes h

    some : class_refusal limits s.classes r ≡ Some e
    some =
        ap (λ (x : Class). class_refusal limits s.classes x) (sym is) ∙ ap (λ (cs : List Class). class_refusal limits cs c) (sym are.classes)
        ∙ refused_by (class_refusal limits j.classes c) e defined.answered other

    refused : and_defined limits s r ≡ and_number s None
    refused = ap (λ (o : Option Refusal). cond (is_none o) (record { classes = s.classes ++ r ∷ []; numbers = s.numbers ++ Some (length s.classes) ∷ [] }) (and_number s None)) some

-- the class that is defined instead of an array class
pub array_by_name : (classes : List Class) (k : ℕ) (c : Class) (name : List ℕ) (sup : Option ℕ) → IsClassTable [] classes → slice_get classes k ≡ Some c → is_array_class classes k ≡ true → sup ≡ None
    → array_class name ≡ record { name = name; sup = sup; fields = c.fields; is_array = c.is_array }
array_by_name classes k c name sup table there array none =
    let bare = array_is_bare classes k c table there array in
    ap (λ (s : Option ℕ). record { name = name; sup = s; fields = []; is_array = true }) (sym none)
    ∙ ap (λ (fs : List Field). record { name = name; sup = sup; fields = fs; is_array = true }) (sym bare.1)
    ∙ ap (λ (b : Bool). record { name = name; sup = sup; fields = c.fields; is_array = b }) (sym array ∙ array_is classes k c there)

pub instance_by_name : (classes : List Class) (k : ℕ) (c : Class) (name : List ℕ) (sup : Option ℕ) (fields : List Field) → slice_get classes k ≡ Some c → is_array_class classes k ≡ false → fields ≡ fields_of classes k
    → instance_class name sup fields ≡ record { name = name; sup = sup; fields = c.fields; is_array = c.is_array }
instance_by_name classes k c name sup fields there instance are =
    ap (λ (fs : List Field). record { name = name; sup = sup; fields = fs; is_array = false }) (are ∙ fields_are classes k c there)
    ∙ ap (λ (b : Bool). record { name = name; sup = sup; fields = c.fields; is_array = b }) (sym instance ∙ array_is classes k c there)

-- the super of a class has this number
pub joined_with : (limits : ClassLimits) (first : List Class) (s : Joined) (c : Class) (sup number : Option ℕ) (before : List (Option ℕ)) (j next : JoinedClasses) → super_over s.numbers c.sup ≡ Some sup
    → IsDefinedAs first before number j (and_found limits s (over c sup) (number_of_line s.classes (over c sup))) → next.classes ≡ j.classes → next.known.items ≡ j.known.items → next.text.items ≡ j.text.items
    → next.numbers.items ≡ j.numbers.items ++ number ∷ [] → AreJoined first next (and_class limits s c)
unfolding and_class
joined_with limits first s c sup number before j next above defined classes known text more =
    let is : and_class limits s c ≡ and_found limits s (over c sup) (number_of_line s.classes (over c sup)) =
    ap (λ (o : Option (Option ℕ)). option_map_or (λ h. and_found limits s h (number_of_line s.classes h)) (option_map (over c) o) (and_number s None)) above in
    subst (AreJoined first next) (sym is)
    (record {
      classes = classes ∙ defined.classes;
      known = known ∙ defined.known;
      text = text ∙ defined.text;
      numbers = more ∙ ap (λ (ns : List (Option ℕ)). ns ++ number ∷ []) defined.numbers ∙ sym defined.last;
      few = defined.few;
    })

-- it has none
pub joined_without : (limits : ClassLimits) (first : List Class) (s : Joined) (c : Class) (j next : JoinedClasses) → AreJoined first j s → super_over s.numbers c.sup ≡ None
    → next.classes ≡ j.classes → next.known.items ≡ j.known.items → next.text.items ≡ j.text.items → next.numbers.items ≡ j.numbers.items ++ None ∷ [] → AreJoined first next (and_class limits s c)
unfolding and_class
joined_without limits first s c j next are above classes known text more =
    let is : and_class limits s c ≡ and_number s None =
    ap (λ (o : Option (Option ℕ)). option_map_or (λ h. and_found limits s h (number_of_line s.classes h)) (option_map (over c) o) (and_number s None)) above in
    subst (AreJoined first next) (sym is)
    (record {
      classes = classes ∙ are.classes;
      known = known ∙ are.known;
      text = text ∙ are.text;
      numbers = more ∙ ap (λ (ns : List (Option ℕ)). ns ++ None ∷ []) are.numbers;
      few = are.few;
    })

-- what is told of the super in memory
pub super_told : (first : List Class) (j : JoinedClasses) (s : Joined) (classes : List Class) (k : ℕ) (c : Class) (numbers : List (Option ℕ)) (above : Option ℕ) (found : Option (Option ℕ)) → AreJoined first j s → slice_get classes k ≡ Some c
    → numbers ≡ j.numbers.items → above ≡ sup_of classes k → found ≡ super_over numbers above → super_over s.numbers c.sup ≡ found
super_told first j s classes k c numbers above found are there same is told =
    ap (super_over s.numbers) (sym (is ∙ sup_is classes k c there)) ∙ ap (λ (ns : List (Option ℕ)). super_over ns above) (sym (same ∙ are.numbers)) ∙ sym told

-- ---- all classes

pub joined_begins : (limits : ClassLimits) (first : List Class) (j : JoinedClasses) → j.classes ≡ first → j.known.items ≡ map class_line first → j.text.items ≡ [] → j.numbers.items ≡ [] → AreJoined first j (classes_joined limits first [])
unfolding classes_joined
joined_begins limits first j classes known text numbers = record {
  classes = classes;
  known = known;
  text = text ∙ ap class_lines (sym (drop_all (length first) first (omega arith)));
  numbers = numbers;
  few = omega arith;
}

pub joined_next : (limits : ClassLimits) (first second : List Class) (k : ℕ) (j next : JoinedClasses) → k < length second → AreJoined first j (classes_joined limits first (take k second))
    → ((f : List Class) (s : Joined) (c : Class) → AreJoined f j s → slice_get second k ≡ Some c → AreJoined f next (and_class limits s c)) → AreJoined first next (classes_joined limits first (take (k + 1) second))
unfolding classes_joined
joined_next limits first second k j next less so_far more =
    let c = get_or second k nameless_class in
    let start : Joined = record { classes = first; numbers = [] } in
    subst (AreJoined first next) (sym (ap (fold (and_class limits) start) (take_more second k nameless_class less) ∙ fold-append (and_class limits) start (take k second) (c ∷ [])))
    (more first (classes_joined limits first (take k second)) c so_far (class_of_its_number second k less))

-- ---- steps of one class

pub class_at : (classes : List Class) (k : ℕ) → k < length classes → (c : Class) × (slice_get classes k ≡ Some c)
class_at classes k less = (get_or classes k nameless_class, class_of_its_number classes k less)

pub same_line : (line known : List ℕ) (lines : List (List ℕ)) (k : ℕ) (b : Bool) → k < length lines → known ≡ get_or lines k known → bytes_eq line known ≡ b → bytes_eq line (get_or lines k []) ≡ b
same_line line known lines k b less is same =
    let both : Some (get_or lines k known) ≡ Some (get_or lines k []) = sym (slice_get-get_or lines k known less) ∙ slice_get-get_or lines k [] less in
    ap (bytes_eq line) (sym (is ∙ inside (get_or lines k known) (get_or lines k []) both)) ∙ same
  where
    inside : (a c : List ℕ) → Some a ≡ Some c → a ≡ c
    inside a c e = cc

last_there : (xs : List Class) (x : Class) → slice_get (xs ++ x ∷ []) (length xs) ≡ Some x
last_there [] x = refl
last_there (y ∷ xs) x = last_there xs x

-- the class that was defined is there
pub defined_there : (limits : ClassLimits) (c : Class) (before after : List Class) (n : ℕ) → IsDefined limits c before after (Ok n) → slice_get after n ≡ Some c
defined_there limits c before after n defined =
    ap (λ (cs : List Class). slice_get cs n) defined.defined ∙ ap (slice_get (before ++ c ∷ [])) defined.number ∙ last_there before c

pub defined_within : (limits : ClassLimits) (c : Class) (before after : List Class) (n : ℕ) → IsDefined limits c before after (Ok n) → n < length after
defined_within limits c before after n defined = slice_get_within after n c (defined_there limits c before after n defined)

-- it is the class by the name that it gets
pub renamed_is : (limits : ClassLimits) (first : List Class) (j : JoinedClasses) (s : Joined) (x : Class) (sup : Option ℕ) (name : List ℕ) → AreJoined first j s → name ≡ next_name limits j.classes x.name
    → record { name = name; sup = sup; fields = x.fields; is_array = x.is_array } ≡ renamed limits s.classes (over x sup)
renamed_is limits first j s x sup name are is =
    ap (λ (n : List ℕ). record { name = n; sup = sup; fields = x.fields; is_array = x.is_array }) (is ∙ ap (λ (cs : List Class). next_name limits cs x.name) are.classes)
