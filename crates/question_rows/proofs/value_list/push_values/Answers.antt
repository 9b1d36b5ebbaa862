use Rattle.std.proofs.Common.{◌≡◌, ◌∙◌, ◌++◌, List, ap, arith, get_or, length, sym, take, ℕ}
use Rattle.std.specs.Prelude.{flat_map}
use Rattle.std.proofs.Math.Seq.{take-length}
use Rattle.std.proofs.lemmas.List.{flat_map_more, take_more}
use Rattle.heap_questions.specs.declared.held_values.SlotValue.{SlotValue}
use Rattle.question_rows.specs.ValueLists.{value_line}
use Rattle.question_rows.proofs.value_list.push_values.Goals as goal

pub loop-value-preserved : goal.loop-value-preserved
loop-value-preserved c =
    let line : SlotValue → List ℕ = value_line c.args.refers in
    let old = c.args.text.now.items in
    let values = c.args.values.now in
    let i = c.loop-value.value-index in
    let none : SlotValue = record { word = 0; objects = 0 } in
    let one : SlotValue = get_or values i none in
    c.in_ok-push_value.ensures
    ∙ ap (λ (t : List ℕ). t ++ line one) c.loop-value.invariant
    ∙ flat_map_more line old (take i values) one
    ∙ ap (λ (vs : List SlotValue). old ++ flat_map line vs) (sym (take_more values i none c.loop-value-test.true))

pub returns : goal.returns
returns c =
    let line : SlotValue → List ℕ = value_line c.args.refers in
    let old = c.args.text.now.items in
    let values = c.args.values.now in
    let end : c.loop-value.value-index ≡ length values = omega (arith, c.loop-value.auto.value-index-end, c.loop-value-test.false) in
    c.loop-value.invariant
    ∙ ap (λ (i : ℕ). old ++ flat_map line (take i values)) end
    ∙ ap (λ (vs : List SlotValue). old ++ flat_map line vs) (take-length values)
