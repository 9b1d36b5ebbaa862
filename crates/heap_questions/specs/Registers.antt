-- What the registers name.
use Rattle.std.specs.Prelude.{ℕ}
use Rattle.std.specs.Option.{option_map}
use Rattle.hprof_text.specs.Image.{Image}
use Rattle.heap_questions.specs.Graph.{object_with}
use Rattle.heap_questions.specs.declared.registers.NamedObject.{NamedObject}

-- the id, and the kind of the object with it, if there is one
abbrev pub object_named : Image → ℕ → NamedObject
object_named image x = record { id = x; kind = option_map (λ o. o.kind) (object_with image x) }
