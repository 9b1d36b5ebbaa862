use Rattle.std.proofs.Common.{◌≡◌, ◌<◌, ◌∙◌, List, ℕ, true, false, get_or, length, sym, ap, arith}
use Rattle.std.proofs.lemmas.List.{get_or_default}
use Rattle.heap_class.specs.declared.ObjKind.{ObjKind}
use Rattle.heap_questions.specs.Distances.{distance_by, distance_of}
use Rattle.heap_questions.specs.Graph.{slot_refers}
use Rattle.heap_questions.proofs.Looking.{slot_is, slot_is_none}
use Rattle.heap_questions.proofs.distances.distance_along.Goals as goal

pub returns-then-is_reference_slot : goal.returns-then-is_reference_slot
returns-then-is_reference_slot c =
    let d = distance_by c.args.nodes.now c.args.table.now in
    let classes = c.args.classes.now in
    let o = c.args.object.now in
    let s = c.args.slot in
    let words = c.words-words.result.now in
    let within : s < length o.words = c.requires.slot in
    let there : s < length words = omega (arith, within, ap length c.words-words.ensures) in
    let w = get_or words s 0 in
    let held : w ≡ get_or o.words s w = get_or_default words s 0 w there ∙ ap (λ (l : List ℕ). get_or l s w) c.words-words.ensures in
    let refers : slot_refers classes o.kind s ≡ true = ap (λ (k : ObjKind). slot_refers classes k s) (sym c.kind.ensures) ∙ sym c.is_reference_slot.ensures ∙ c.if-is_reference_slot.true in
    c.distance_at.ensures ∙ sym (ap (distance_of d) (slot_is classes o s w within held refers))

pub returns-else-is_reference_slot : goal.returns-else-is_reference_slot
returns-else-is_reference_slot c =
    let d = distance_by c.args.nodes.now c.args.table.now in
    let classes = c.args.classes.now in
    let o = c.args.object.now in
    let s = c.args.slot in
    let refers : slot_refers classes o.kind s ≡ false = ap (λ (k : ObjKind). slot_refers classes k s) (sym c.kind.ensures) ∙ sym c.is_reference_slot.ensures ∙ c.if-is_reference_slot.false in
    sym (ap (distance_of d) (slot_is_none classes o s refers))
