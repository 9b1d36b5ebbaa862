-- What names an object.
use Rattle.std.specs.Prelude.{ℕ, Bool, false, ◌==◌, List, ◌++◌, length, map, filter, flat_map, slice_index}
use Rattle.std.specs.Option.{option_map_or}
use Rattle.std.specs.List.{range_with_len}
use Rattle.heap_class.specs.declared.ObjKind.{ObjKind}
use Rattle.heap_class.specs.Classes.{Class}
use Rattle.hprof_text.specs.Image.{Image, DumpedObject}
use Rattle.heap_questions.specs.Graph.{slot_names}
use Rattle.heap_questions.specs.declared.references.Referrer.{Referrer}
use Rattle.heap_questions.specs.declared.references.Referrer.TheVariants.{Slot, Register}

-- an object as a dump shows it
abbrev pub dumped : ℕ → ObjKind → List ℕ → DumpedObject
dumped x kind words = record { id = x; kind = kind; words = words }

-- slot s of an object holds a reference, and names x
abbrev pub names_at : List Class → ℕ → DumpedObject → ℕ → Bool
names_at classes x o s = option_map_or (λ y. y == x) (slot_names classes o s) false

-- the slots of an object that name x, in order
unfoldable pub naming_slots : List Class → ℕ → DumpedObject → List Referrer
naming_slots classes x o =
    map (Slot o.id) (filter (names_at classes x o) (range_with_len 0 (length o.words)))

-- the registers that name x, in order
unfoldable pub naming_registers : ℕ → List ℕ → List Referrer
naming_registers x registers =
    map Register (filter (λ r. slice_index registers r == x) (range_with_len 0 (length registers)))

-- all that names x: registers by number, then slots in the order of a dump
abbrev pub referrers_of : Image → ℕ → List Referrer
referrers_of image x =
    naming_registers x image.registers ++ flat_map (naming_slots image.classes x) image.objects
