-- What of a dump a session leaves out.
use Rattle.std.specs.Prelude.{ℕ, zero, suc, ◌+◌, ◌-◌, ◌^◌, ◌&&◌, Bool, true, false, nat_lt, min, List, [], ◌∷◌, count_by, is_none, length, slice_index_or, if◌then◌else◌}
use Rattle.heap_class.specs.Classes.{fields_of}
use Rattle.hprof_plan.specs.declared.items.RootFound.{RootFound}
use Rattle.hprof_plan.specs.declared.planning.Plan.{Plan}
use Rattle.hprof_reader.specs.SubRecords.{Sub, array, prim}
use Rattle.hprof_session.specs.Walks.{ItemTold, record_told, sub_told}
use Rattle.hprof_lines.specs.declared.left_out.LeftOut.{LeftOut}
use Rattle.hprof_lines.specs.declared.values.SlotValue.{SlotValue}
use Rattle.hprof_lines.specs.Objects.{ObjectsTold, names_object, number_of}
use Rattle.hprof_lines.specs.Passes.{is_turn, next_place}
use Rattle.hprof_lines.specs.Slots.{kinds_of, object_values}

-- nothing
abbrev pub none_left_out : LeftOut
none_left_out = record { arrays = 0; objects = 0; references = 0; roots = 0; fields = 0 }

-- a sum of numbers, as far as 64 bits go
abbrev pub sum_within : ℕ → ℕ → ℕ
sum_within a b = min (a + b) (2 ^ 64 - 1)

-- what is left out in one place and in another
abbrev pub both_left_out : LeftOut → LeftOut → LeftOut
both_left_out a b = record {
  arrays = sum_within a.arrays b.arrays;
  objects = sum_within a.objects b.objects;
  references = sum_within a.references b.references;
  roots = sum_within a.roots b.roots;
  fields = sum_within a.fields b.fields;
}

-- how many elements an array has
abbrev pub count_of : Sub → ℕ
count_of (array x trace count k elements) = count
count_of (prim x trace count kind elements) = count
count_of _ = 0

-- 1 for an array that is cut
abbrev pub cuts_of : Plan → Sub → ℕ
cuts_of p s = if nat_lt p.elements (count_of s) then 1 else 0

-- whether a slot names an object that isn't made
abbrev pub is_lost : ObjectsTold → SlotValue → Bool
is_lost o v = names_object v && is_none (number_of o v.value)

-- what is left out of an object of which this tells whether it is made
abbrev pub left_out_if : Bool → ObjectsTold → Sub → LeftOut
left_out_if true o s = record {
  arrays = cuts_of o.plan s;
  objects = 0;
  references = count_by (is_lost o) (object_values o.plan o.ids s);
  roots = 0;
  fields = 0;
}
left_out_if false o s = record { arrays = 0; objects = 1; references = 0; roots = 0; fields = 0 }

-- what is left out of an item, if it is the object at place i
abbrev pub left_out_in : ObjectsTold → ℕ → ItemTold → LeftOut
left_out_in o i (record_told r) = none_left_out
left_out_in o i (sub_told s) =
    if is_turn o.objects i s then left_out_if (slice_index_or o.made i false) o s else none_left_out

-- what was left out before, and what is left out of these items, from the object at place i on
unfoldable pub left_out_from : ObjectsTold → LeftOut → ℕ → List ItemTold → LeftOut
left_out_from o so_far i [] = so_far
left_out_from o so_far i (it ∷ items) =
    left_out_from o (both_left_out so_far (left_out_in o i it)) (next_place o.objects i it) items

-- whether a root names what isn't made
abbrev pub is_root_lost : ObjectsTold → RootFound → Bool
is_root_lost o r = is_none (number_of o r.id)

-- how many own fields of class k have no slot
abbrev pub lost_fields_of : Plan → ℕ → ℕ
lost_fields_of p k = length (kinds_of p k) - length (fields_of p.classes k)

-- the same of the first classes together, as far as 64 bits go
unfoldable pub lost_fields : Plan → ℕ → ℕ
lost_fields p zero = 0
lost_fields p (suc k) = sum_within (lost_fields p k) (lost_fields_of p k)

-- what is left out of a dump with these items and roots
abbrev pub left_out_of_dump : ObjectsTold → List ItemTold → List RootFound → LeftOut
left_out_of_dump o items roots =
    record (left_out_from o none_left_out 0 items) {
      roots = count_by (is_root_lost o) roots;
      fields = lost_fields o.plan (length o.plan.kinds.entries);
    }
