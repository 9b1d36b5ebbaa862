-- The letters of names, one after another.
use Rattle.std.proofs.Common.{◌≡◌, ℕ, ◌+◌, ◌<◌, ◌≤◌, zero, suc, List, [], ◌∷◌, ◌++◌, length, length-append, get_or, map, take, drop, refl, sym, ap, ◌∙◌, arith}
use Rattle.std.specs.List.{flat_map}
use Rattle.std.proofs.lemmas.List.{append_assoc, drop_at, take_at, take-append-drop}
use Rattle.heap_class.specs.declared.Field.{Field}
use Rattle.heap_history.specs.declared.definition.FieldShape.{FieldShape}
use Rattle.heap_history.specs.Definitions.{fields_in, shape_of}

abbrev pub name_in : Field → List ℕ
name_in f = f.name

-- the names before a field and its own are part of all
pub field_name_within_all_names : (fields : List Field) (i : ℕ) (f : Field) → i < length fields → f ≡ get_or fields i f → length (flat_map name_in (take i fields)) + length f.name ≤ length (flat_map name_in fields)
field_name_within_all_names [] i f lt is = absurd (omega (arith, lt))
field_name_within_all_names (g ∷ gs) zero f lt is = omega (arith, ap (λ (x : Field). length x.name) is, length-append g.name (flat_map name_in gs))
field_name_within_all_names (g ∷ gs) (suc i) f lt is = omega (arith, field_name_within_all_names gs i f (omega (arith, lt)) is, length-append g.name (flat_map name_in gs), length-append g.name (flat_map name_in (take i gs)))

-- there are as many fields as shapes
pub fields_as_many_as_shapes : (ms : List FieldShape) (ls : List ℕ) → length (fields_in ms ls) ≡ length ms
fields_as_many_as_shapes [] ls = refl
fields_as_many_as_shapes (m ∷ ms) ls = ap suc (fields_as_many_as_shapes ms (drop m.length ls))

-- shapes and names tell the fields
pub shapes_and_names_tell_fields : (fields : List Field) (rest : List ℕ) → fields_in (map shape_of fields) (flat_map name_in fields ++ rest) ≡ fields
shapes_and_names_tell_fields [] rest = refl
shapes_and_names_tell_fields (f ∷ fs) rest =
    let joined : (f.name ++ flat_map name_in fs) ++ rest ≡ f.name ++ (flat_map name_in fs ++ rest) = append_assoc f.name (flat_map name_in fs) rest in
    let name : take (length f.name) ((f.name ++ flat_map name_in fs) ++ rest) ≡ f.name = ap (take (length f.name)) joined ∙ take_at f.name (flat_map name_in fs ++ rest) (length f.name) refl in
    let after : drop (length f.name) ((f.name ++ flat_map name_in fs) ++ rest) ≡ flat_map name_in fs ++ rest = ap (drop (length f.name)) joined ∙ drop_at f.name (flat_map name_in fs ++ rest) (length f.name) refl in
    let later : fields_in (map shape_of fs) (drop (length f.name) ((f.name ++ flat_map name_in fs) ++ rest)) ≡ fs = ap (fields_in (map shape_of fs)) after ∙ shapes_and_names_tell_fields fs rest in
    λ i. record { name = name i; kind = f.kind } ∷ later i

-- a room that begins with letters begins with the name, and goes on with the names of the fields
pub letters_begin_with_class_name : (name : List ℕ) (fields : List Field) (room : List ℕ) → take (length (name ++ flat_map name_in fields)) room ≡ name ++ flat_map name_in fields
    → (take (length name) room ≡ name) × (fields_in (map shape_of fields) (drop (length name) room) ≡ fields)
letters_begin_with_class_name name fields room is =
    let all = name ++ flat_map name_in fields in
    let rest = drop (length all) room in
    let whole : room ≡ name ++ (flat_map name_in fields ++ rest) = sym (take-append-drop (length all) room) ∙ ap (λ l. l ++ rest) is ∙ append_assoc name (flat_map name_in fields) rest in (
      ap (take (length name)) whole ∙ take_at name (flat_map name_in fields ++ rest) (length name) refl,
      ap (λ l. fields_in (map shape_of fields) (drop (length name) l)) whole ∙ ap (fields_in (map shape_of fields)) (drop_at name (flat_map name_in fields ++ rest) (length name) refl) ∙ shapes_and_names_tell_fields fields rest,
    )
