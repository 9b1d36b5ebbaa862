use Rattle.std.proofs.Common.{◌≡◌, ◌++◌, length, map, take, drop, sym, ap, ◌∙◌, rules}
use Rattle.std.specs.List.{flat_map}
use Rattle.heap_history.specs.Definitions.{fields_in, shape_of}
use Rattle.heap_history.proofs.Letters.{letters_begin_with_class_name, name_in}
use Rattle.heap_history.proofs.definition.Definition.of.Goals as goal

pub returns : goal.returns
returns c =
    let name = c.args.name.now in
    let fields = c.args.fields.now in
    let room = c.placed_letters.result in
    let all : c.as_slice.result.now ≡ name ++ flat_map name_in fields = c.as_slice.ensures.value ∙ c.in_ok-letters.ensures in
    let told = letters_begin_with_class_name name fields room (ap (λ l. take (length l) room) (sym all) ∙ c.placed_letters.ensures ∙ all) in (
      search rules,
      ap (λ l. take (length l) room) c.as_bytes.ensures ∙ told.0,
      ap (λ ms. fields_in ms (drop (length c.as_bytes.result.now) room)) c.placed_shapes.ensures ∙ ap (λ l. fields_in (map shape_of fields) (drop (length l) room)) c.as_bytes.ensures ∙ told.1,
    )
