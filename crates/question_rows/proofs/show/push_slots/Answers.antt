use Rattle.std.proofs.Common.{◌∙◌, List, ℕ, ap₂, drop, subst, take}
use Rattle.heap_class.specs.declared.ObjKind.{ObjKind}
use Rattle.question_words.specs.Appends.{Appends}
use Rattle.question_rows.specs.Objects.{rows_joined, rows_in, slot_rows}
use Rattle.question_rows.proofs.SlotRows.{part_of_slots}
use Rattle.question_rows.proofs.show.push_slots.Goals as goal

pub returns : goal.returns
returns c =
    let cs = c.args.classes.now in
    let words = c.words-words.result.now in
    let part = ap₂ (λ f e. drop f (slot_rows cs c.kind.result (take e words))) c.bounds_of-first.ensures.first c.bounds_of-first.ensures.end
    ∙ part_of_slots c.args.slots cs c.kind.result words
    ∙ ap₂ (λ (kind : ObjKind) (ws : List ℕ). rows_in c.args.slots (slot_rows cs kind ws)) c.kind.ensures c.words-words.ensures in
    subst (λ (rows : List (List ℕ)). Appends (rows_joined rows) c.args.text.now.items c.push_rows.new.text.items c.push_rows.result) part c.push_rows.ensures
