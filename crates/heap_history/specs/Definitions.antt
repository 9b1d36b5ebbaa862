-- Definitions of classes in records of a fixed size.
use Rattle.std.specs.Prelude.{ℕ, List, [], ◌∷◌, drop, length, take}
use Rattle.heap_class.specs.declared.Field.{Field}
use Rattle.heap_history.specs.declared.definition.Definition.{Definition}
use Rattle.heap_history.specs.declared.definition.FieldShape.{FieldShape}

-- a field's shape
abbrev pub shape_of : Field → FieldShape
shape_of f = record { kind = f.kind; length = length f.name }

-- the fields of these shapes, whose names stand in the letters one after another
abbrev pub fields_in : List FieldShape → List ℕ → List Field
fields_in [] letters = []
fields_in (m ∷ ms) letters =
    record { name = take m.length letters; kind = m.kind } ∷ fields_in ms (drop m.length letters)

-- the name that a definition tells
abbrev pub name_of : Definition → List ℕ
name_of d = take d.length d.letters

-- the fields that it tells
abbrev pub fields_of : Definition → List Field
fields_of d = fields_in (take d.field_count d.shapes) (drop d.length d.letters)
