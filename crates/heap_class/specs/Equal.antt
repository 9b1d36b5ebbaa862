-- Equality of fields.
use Rattle.std.specs.Prelude.{Bool, ◌&&◌, ◌==◌}
use Rattle.std.specs.Str.{bytes_eq}
use Rattle.std.specs.Cmp.{IsEquivalence, and_equiv, on_equiv, nat_eq_equiv}
use Rattle.std.specs.Cmp.Lexicographic.{nat_list_eq_equiv}
use Rattle.heap_class.specs.Kinds.{type_code}
use Rattle.heap_class.specs.declared.Field.{Field}

-- whether two fields have the same name and the same kind
abbrev pub field_eq : Field → Field → Bool
field_eq a b = bytes_eq a.name b.name && (type_code a.kind == type_code b.kind)

-- fields are equal by an equivalence
pub field_equiv : IsEquivalence field_eq
field_equiv =
    and_equiv (on_equiv (λ (f : Field). f.name) nat_list_eq_equiv)
    (on_equiv (λ (f : Field). type_code f.kind) nat_eq_equiv)
