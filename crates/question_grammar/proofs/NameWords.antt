-- Classes and slots, looked up by name.
use Rattle.std.proofs.Common.{◌≡◌, ◌∙◌, ◌+◌, ◌<◌, ◌≤◌, ℕ, zero, suc, Bool, true, false, cond, List, [], ◌∷◌, ◌++◌, Option, Some, None, length, drop, refl, sym, ap, ap₂, subst, arith}
use Rattle.std.specs.Prelude.{IfSome, IsSome, option_and_then, slice_get}
use Rattle.std.specs.List.{position_from}
use Rattle.std.specs.Option.{option_map_or, option_or}
use Rattle.std.specs.Str.{bytes_eq}
use Rattle.std.proofs.lemmas.Bool.{false≢true}
use Rattle.std.proofs.lemmas.List.{at_drop_more, drop_all}
use Rattle.std.proofs.lemmas.Option.{get_or_from_slice_get, slice_get_past}
use Rattle.heap_class.specs.declared.Field.{Field}
use Rattle.heap_class.specs.declared.ObjKind.{ObjKind}
use Rattle.heap_class.specs.declared.ObjRef.{ObjRef}
use Rattle.heap_class.specs.Classes.{Class, fields_of, name_of, sup_of}
use Rattle.heap_world.specs.Regions.{Object, object_at, object_of, ref_of}
use Rattle.heap_world.specs.State.{HeapState}
use Rattle.hprof_text.proofs.Loops.{item_of_list_within}
use Rattle.question_grammar.specs.NameWords.{class_of_id, instance_of, slot_named}
use Rattle.question_words.specs.Names.{fields_up}
use Rattle.question_words.specs.Places.{StandsAt}
use Rattle.question_words.proofs.FieldsAbove.{fields_more, fields_none}

-- ---- the first that passes

-- the next doesn't pass
look_on : {X : Type 0} (p : X → Bool) (m i : ℕ) (xs : List X) (x : X) → slice_get xs i ≡ Some x → i < length xs → p x ≡ false → position_from p m (drop i xs) ≡ position_from p (m + 1) (drop (i + 1) xs)
look_on p m i xs x h l e =
    at_drop_more (position_from p m) xs i x l
    ∙ ap (λ y. position_from p m (y ∷ drop (i + 1) xs)) (get_or_from_slice_get xs i x x h)
    ∙ ap (λ b. cond b (Some m) (position_from p (m + 1) (drop (i + 1) xs))) e

-- the next passes
look_here : {X : Type 0} (p : X → Bool) (m i : ℕ) (xs : List X) (x : X) → slice_get xs i ≡ Some x → i < length xs → p x ≡ true → position_from p m (drop i xs) ≡ Some m
look_here p m i xs x h l e =
    at_drop_more (position_from p m) xs i x l
    ∙ ap (λ y. position_from p m (y ∷ drop (i + 1) xs)) (get_or_from_slice_get xs i x x h)
    ∙ ap (λ b. cond b (Some m) (position_from p (m + 1) (drop (i + 1) xs))) e

-- none is left
pub look_end : {X : Type 0} (p : X → Bool) (m i : ℕ) (xs : List X) → length xs ≤ i → position_from p m (drop i xs) ≡ None
look_end p m i xs l = ap (position_from p m) (drop_all i xs l)

-- what is found among some, or else among those after them
found_in_both : {X : Type 0} (p : X → Bool) (m : ℕ) (xs ys : List X) → position_from p m (xs ++ ys) ≡ option_or (position_from p m xs) (position_from p (m + length xs) ys)
found_in_both p m [] ys = let z : m ≡ m + 0 = omega arith in ap (λ n. position_from p n ys) z
found_in_both {X} p m (x ∷ xs) ys = go (p x) (found_in_both p (m + 1) xs ys)
  where
    go : (b : Bool) → position_from p (m + 1) (xs ++ ys) ≡ option_or (position_from p (m + 1) xs) (position_from p (m + 1 + length xs) ys)
        → cond b (Some m) (position_from p (m + 1) (xs ++ ys)) ≡ option_or (cond b (Some m) (position_from p (m + 1) xs)) (position_from p (m + suc (length xs)) ys)
    go true h = refl
    go false h = let z : m + 1 + length xs ≡ m + suc (length xs) = omega arith in h ∙ ap (λ n. option_or (position_from p (m + 1) xs) (position_from p n ys)) z

-- ---- classes

name_is : (cs : List Class) (i : ℕ) (c : Class) → slice_get cs i ≡ Some c → name_of cs i ≡ c.name
unfolding name_of
name_is cs i c h = ap (λ (o : Option Class). option_map_or (λ (c : Class). c.name) o []) h

-- the class has another name
pub class_on : (cs : List Class) (i : ℕ) (word name : List ℕ) → i < length cs → word ≡ name_of cs i → bytes_eq word name ≡ false → position_from (λ (c : Class). bytes_eq c.name name) i (drop i cs) ≡ position_from (λ (c : Class). bytes_eq c.name name) (i + 1) (drop (i + 1) cs)
class_on cs i word name l w e =
    let c = item_of_list_within cs i l in
    look_on (λ (c : Class). bytes_eq c.name name) i i cs c.0 c.1 l (ap (λ n. bytes_eq n name) (sym (w ∙ name_is cs i c.0 c.1)) ∙ e)

-- the class has the name
pub class_here : (cs : List Class) (i : ℕ) (word name : List ℕ) → i < length cs → word ≡ name_of cs i → bytes_eq word name ≡ true → position_from (λ (c : Class). bytes_eq c.name name) i (drop i cs) ≡ Some i
class_here cs i word name l w e =
    let c = item_of_list_within cs i l in
    look_here (λ (c : Class). bytes_eq c.name name) i i cs c.0 c.1 l (ap (λ n. bytes_eq n name) (sym (w ∙ name_is cs i c.0 c.1)) ∙ e)

-- ---- fields

field_is : (word : List ℕ) (o : Option Field) (f : Field) → o ≡ Some f → IfSome o (λ f. word ≡ f.name) → word ≡ f.name
field_is word o f e h = subst (λ (p : Option Field). IfSome p (λ f. word ≡ f.name)) e h

-- the field has another name
pub field_on : (fs : List Field) (first i : ℕ) (word name : List ℕ) → i < length fs → IfSome (slice_get fs i) (λ f. word ≡ f.name) → bytes_eq word name ≡ false → position_from (λ (f : Field). bytes_eq f.name name) (first + i) (drop i fs) ≡ position_from (λ (f : Field). bytes_eq f.name name) (first + (i + 1)) (drop (i + 1) fs)
field_on fs first i word name l w e =
    let f = item_of_list_within fs i l in
    let p : Field → Bool = λ f. bytes_eq f.name name in
    let z : first + i + 1 ≡ first + (i + 1) = omega arith in
    look_on p (first + i) i fs f.0 f.1 l (ap (λ n. bytes_eq n name) (sym (field_is word (slice_get fs i) f.0 f.1 w)) ∙ e) ∙ ap (λ n. position_from p n (drop (i + 1) fs)) z

-- the field has the name
pub field_here : (fs : List Field) (first i : ℕ) (word name : List ℕ) → i < length fs → IfSome (slice_get fs i) (λ f. word ≡ f.name) → bytes_eq word name ≡ true → position_from (λ (f : Field). bytes_eq f.name name) (first + i) (drop i fs) ≡ Some (first + i)
field_here fs first i word name l w e =
    let f = item_of_list_within fs i l in
    look_here (λ (f : Field). bytes_eq f.name name) (first + i) i fs f.0 f.1 l (ap (λ n. bytes_eq n name) (sym (field_is word (slice_get fs i) f.0 f.1 w)) ∙ e)

-- the fields of a class and of those above it
up_one : (cs : List Class) (name : List ℕ) (first n m a : ℕ) → n ≡ m + 1
    → position_from (λ (f : Field). bytes_eq f.name name) first (fields_up cs n (Some a))
    ≡ option_or (position_from (λ (f : Field). bytes_eq f.name name) first (fields_of cs a)) (position_from (λ (f : Field). bytes_eq f.name name) (first + length (fields_of cs a)) (fields_up cs m (sup_of cs a)))
up_one cs name first n m a e =
    ap (position_from (λ (f : Field). bytes_eq f.name name) first) (fields_more cs n m a e) ∙ found_in_both (λ (f : Field). bytes_eq f.name name) first (fields_of cs a) (fields_up cs m (sup_of cs a))

-- above no class there is no field
pub up_none : (cs : List Class) (name : List ℕ) (first n : ℕ) (o : Option ℕ) → o ≡ None → position_from (λ (f : Field). bytes_eq f.name name) first (fields_up cs n o) ≡ None
up_none cs name first n o e = ap (λ (o : Option ℕ). position_from (λ (f : Field). bytes_eq f.name name) first (fields_up cs n o)) e ∙ ap (position_from (λ (f : Field). bytes_eq f.name name) first) (fields_none cs n)

-- no class is left to look in
pub up_end : (cs : List Class) (name : List ℕ) (first n : ℕ) (o : Option ℕ) → n ≡ 0 → position_from (λ (f : Field). bytes_eq f.name name) first (fields_up cs n o) ≡ None
up_end cs name first n o e = ap (λ (i : ℕ). position_from (λ (f : Field). bytes_eq f.name name) first (fields_up cs i o)) e

-- a class that isn't there has no fields
none_up : (cs : List Class) (n k : ℕ) → length cs ≤ k → fields_up cs n (Some k) ≡ []
unfolding fields_of sup_of
none_up cs zero k l = refl
none_up cs (suc n) k l =
    let e = slice_get_past cs k l in
    ap₂ (λ (fs : List Field) (o : Option ℕ). fs ++ fields_up cs n o) (ap (λ (o : Option Class). option_map_or (λ (c : Class). c.fields) o []) e) (ap (λ (o : Option Class). option_map_or (λ (c : Class). c.sup) o None) e) ∙ fields_none cs n

pub no_slot : (cs : List Class) (k : ℕ) (name : List ℕ) → length cs ≤ k → slot_named cs k name ≡ None
unfolding slot_named
no_slot cs k name l = ap (position_from (λ (f : Field). bytes_eq f.name name) 0) (none_up cs (length cs) k l)

-- the class has a field with the name
pub slot_here : (cs : List Class) (name : List ℕ) (first n m a slot : ℕ) (here found : Option ℕ) → n ≡ m + 1 → here ≡ Some a
    → found ≡ position_from (λ (f : Field). bytes_eq f.name name) first (fields_of cs a) → found ≡ Some slot
    → position_from (λ (f : Field). bytes_eq f.name name) first (fields_up cs n here) ≡ Some slot
slot_here cs name first n m a slot here found e h f s =
    let p : Field → Bool = λ f. bytes_eq f.name name in
    let rest = position_from p (first + length (fields_of cs a)) (fields_up cs m (sup_of cs a)) in
    ap (λ (o : Option ℕ). position_from p first (fields_up cs n o)) h
    ∙ up_one cs name first n m a e
    ∙ ap (λ (o : Option ℕ). option_or o rest) (sym f ∙ s)

-- the class has no field with the name
pub slot_above : (cs : List Class) (name : List ℕ) (first next n m a : ℕ) (here found above : Option ℕ) → n ≡ m + 1 → here ≡ Some a
    → found ≡ position_from (λ (f : Field). bytes_eq f.name name) first (fields_of cs a) → found ≡ None
    → next ≡ first + length (fields_of cs a) → above ≡ sup_of cs a
    → position_from (λ (f : Field). bytes_eq f.name name) next (fields_up cs m above) ≡ position_from (λ (f : Field). bytes_eq f.name name) first (fields_up cs n here)
slot_above cs name first next n m a here found above e h f s q u =
    let p : Field → Bool = λ f. bytes_eq f.name name in
    let rest = position_from p (first + length (fields_of cs a)) (fields_up cs m (sup_of cs a)) in
    ap₂ (λ (i : ℕ) (o : Option ℕ). position_from p i (fields_up cs m o)) q u
    ∙ sym (ap (λ (o : Option ℕ). position_from p first (fields_up cs n o)) h ∙ up_one cs name first n m a e ∙ ap (λ (o : Option ℕ). option_or o rest) (sym f ∙ s))

-- ---- objects

pub class_there : (w : HeapState) (x : ℕ) (at : ObjRef) (kind : ObjKind) → StandsAt w x at → IfSome (object_at w.regions at) (λ o. kind ≡ o.kind) → class_of_id w x ≡ instance_of kind
unfolding class_of_id object_of
class_there w x at kind s h =
    let e : option_and_then (object_at w.regions) (ref_of w.regions x) ≡ object_at w.regions at = ap (option_and_then (object_at w.regions)) s.0 in
    ap (λ (o : Option Object). option_and_then (λ (o : Object). instance_of o.kind) o) e ∙ go (object_at w.regions at) s.1 h
  where
    go : (o : Option Object) → IsSome o → IfSome o (λ o. kind ≡ o.kind) → option_and_then (λ (o : Object). instance_of o.kind) o ≡ instance_of kind
    go None i h = absurd (false≢true i)
    go (Some o) i h = sym (ap instance_of h)

pub class_none : (w : HeapState) (x : ℕ) → object_of w.regions x ≡ None → class_of_id w x ≡ None
unfolding class_of_id
class_none w x e = ap (λ (o : Option Object). option_and_then (λ (o : Object). instance_of o.kind) o) e
