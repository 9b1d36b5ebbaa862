-- The name of a slot, looked up in a class and those above it.
use Rattle.std.proofs.Common.{◌≡◌, ◌∙◌, ◌+◌, ◌-◌, ◌<◌, ◌≤◌, ℕ, zero, suc, List, [], ◌∷◌, ◌++◌, Option, Some, None, length, ap, sym, subst, arith}
use Rattle.std.specs.Prelude.{IfSome, slice_get}
use Rattle.std.specs.Option.{option_map_or}
use Rattle.heap_class.specs.declared.Field.{Field}
use Rattle.heap_class.specs.Classes.{Class, fields_of, sup_of}
use Rattle.heap_class.proofs.Slots.{get_append}
use Rattle.hprof_text.proofs.Loops.{item_of_list_within}
use Rattle.question_words.specs.Names.{fields_up}
use Rattle.question_words.proofs.FieldsAbove.{fields_more, fields_none}

-- the name of a field, if there is one
abbrev pub name_in : Option Field → List ℕ
name_in o = option_map_or (λ (f : Field). f.name) o []

get_behind : {A : Type 0} (xs ys : List A) (i n : ℕ) → i ≡ length xs + n → slice_get (xs ++ ys) i ≡ slice_get ys n
get_behind [] ys i n e = let same : i ≡ n = omega (arith, e) in ap (slice_get ys) same
get_behind (x ∷ xs) ys zero n e = absurd (omega (arith, e))
get_behind (x ∷ xs) ys (suc i) n e = get_behind xs ys i n (omega (arith, e))

name_of_some_field : (o : Option Field) (f : Field) (name : List ℕ) → o ≡ Some f → IfSome o (λ f. name ≡ f.name) → name ≡ name_in o
name_of_some_field o f name e h = subst (λ (p : Option Field). IfSome p (λ f. name ≡ f.name)) e h ∙ ap name_in (sym e)

-- above no class no slot has a name
pub no_name : (cs : List Class) (n i : ℕ) (here : Option ℕ) → here ≡ None → name_in (slice_get (fields_up cs n here) i) ≡ []
no_name cs n i here e = ap (λ (o : Option ℕ). name_in (slice_get (fields_up cs n o) i)) e ∙ ap (λ (fs : List Field). name_in (slice_get fs i)) (fields_none cs n)

-- no class is left to look in
pub no_class_left : (cs : List Class) (n i : ℕ) (here : Option ℕ) → n ≡ 0 → name_in (slice_get (fields_up cs n here) i) ≡ []
no_class_left cs n i here e = ap (λ (m : ℕ). name_in (slice_get (fields_up cs m here) i)) e

-- the slot is an own field of the class
pub own_name : (cs : List Class) (n m a i : ℕ) (here : Option ℕ) (name : List ℕ) → n ≡ m + 1 → here ≡ Some a → i < length (fields_of cs a) → IfSome (slice_get (fields_of cs a) i) (λ f. name ≡ f.name)
    → name_in (slice_get (fields_up cs n here) i) ≡ name
own_name cs n m a i here name e h l is =
    let f = item_of_list_within (fields_of cs a) i l in
    ap (λ (o : Option ℕ). name_in (slice_get (fields_up cs n o) i)) h
    ∙ ap (λ (fs : List Field). name_in (slice_get fs i)) (fields_more cs n m a e)
    ∙ ap name_in (get_append (fields_of cs a) (fields_up cs m (sup_of cs a)) i l)
    ∙ sym (name_of_some_field (slice_get (fields_of cs a) i) f.0 name f.1 is)

-- the slot is that of a class above
pub name_above : (cs : List Class) (n m a i j own : ℕ) (here above : Option ℕ) → n ≡ m + 1 → here ≡ Some a → own ≡ length (fields_of cs a) → own ≤ i → j ≡ i - own → above ≡ sup_of cs a
    → name_in (slice_get (fields_up cs m above) j) ≡ name_in (slice_get (fields_up cs n here) i)
name_above cs n m a i j own here above e h size l less up =
    let at : i ≡ length (fields_of cs a) + j = omega (arith, size, l, less) in
    ap (λ (o : Option ℕ). name_in (slice_get (fields_up cs m o) j)) up
    ∙ ap name_in (sym (get_behind (fields_of cs a) (fields_up cs m (sup_of cs a)) i j at))
    ∙ ap (λ (fs : List Field). name_in (slice_get fs i)) (sym (fields_more cs n m a e))
    ∙ ap (λ (o : Option ℕ). name_in (slice_get (fields_up cs n o) i)) (sym h)
