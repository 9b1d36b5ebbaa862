use Rattle.std.proofs.Common.{◌≡◌, ◌∙◌, ◌++◌, List, ap, arith, get_or, length, sym, take, ℕ}
use Rattle.std.specs.Prelude.{flat_map}
use Rattle.std.proofs.Math.Seq.{take-length}
use Rattle.std.proofs.lemmas.List.{flat_map_more, take_more}
use Rattle.heap_questions.specs.declared.past.slots.SlotChange.{SlotChange}
use Rattle.question_rows.specs.SlotChanges.{change_line}
use Rattle.question_rows.proofs.slot_changes.push_changes.Goals as goal

pub loop-change-preserved : goal.loop-change-preserved
loop-change-preserved c =
    let line : SlotChange → List ℕ = change_line c.args.refers in
    let old = c.args.text.now.items in
    let changes = c.args.changes.now in
    let i = c.loop-change.change-index in
    let none : SlotChange = record { place = 0; old = 0; new = 0 } in
    let one : SlotChange = get_or changes i none in
    c.in_ok-push_change.ensures
    ∙ ap (λ (t : List ℕ). t ++ line one) c.loop-change.invariant
    ∙ flat_map_more line old (take i changes) one
    ∙ ap (λ (cs : List SlotChange). old ++ flat_map line cs) (sym (take_more changes i none c.loop-change-test.true))

pub returns : goal.returns
returns c =
    let line : SlotChange → List ℕ = change_line c.args.refers in
    let old = c.args.text.now.items in
    let changes = c.args.changes.now in
    let end : c.loop-change.change-index ≡ length changes = omega (arith, c.loop-change.auto.change-index-end, c.loop-change-test.false) in
    c.loop-change.invariant
    ∙ ap (λ (i : ℕ). old ++ flat_map line (take i changes)) end
    ∙ ap (λ (cs : List SlotChange). old ++ flat_map line cs) (take-length changes)
