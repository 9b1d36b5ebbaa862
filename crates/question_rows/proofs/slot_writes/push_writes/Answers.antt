use Rattle.std.proofs.Common.{◌≡◌, ◌∙◌, ◌++◌, List, ap, arith, get_or, length, sym, take, ℕ}
use Rattle.std.specs.Prelude.{flat_map}
use Rattle.std.proofs.Math.Seq.{take-length}
use Rattle.std.proofs.lemmas.List.{flat_map_more, take_more}
use Rattle.heap_questions.specs.declared.past.writes.SlotWrite.{SlotWrite}
use Rattle.question_rows.specs.SlotWrites.{write_line}
use Rattle.question_rows.proofs.slot_writes.push_writes.Goals as goal

pub loop-write-preserved : goal.loop-write-preserved
loop-write-preserved c =
    let line : SlotWrite → List ℕ = write_line c.args.refers in
    let old = c.args.text.now.items in
    let changes = c.args.writes.now in
    let i = c.loop-write.write-index in
    let none : SlotWrite = record { place = 0; id = 0; old = 0; new = 0 } in
    let one : SlotWrite = get_or changes i none in
    c.in_ok-push_write.ensures
    ∙ ap (λ (t : List ℕ). t ++ line one) c.loop-write.invariant
    ∙ flat_map_more line old (take i changes) one
    ∙ ap (λ (cs : List SlotWrite). old ++ flat_map line cs) (sym (take_more changes i none c.loop-write-test.true))

pub returns : goal.returns
returns c =
    let line : SlotWrite → List ℕ = write_line c.args.refers in
    let old = c.args.text.now.items in
    let changes = c.args.writes.now in
    let end : c.loop-write.write-index ≡ length changes = omega (arith, c.loop-write.auto.write-index-end, c.loop-write-test.false) in
    c.loop-write.invariant
    ∙ ap (λ (i : ℕ). old ++ flat_map line (take i changes)) end
    ∙ ap (λ (cs : List SlotWrite). old ++ flat_map line cs) (take-length changes)
