use Rattle.std.proofs.Common.{◌∙◌, ◌+◌, ◌++◌, List, ℕ, ap, append_assoc, arith, drop, get_or, sym}
use Rattle.std.proofs.lemmas.List.{append-nil, drop_all}
use Rattle.question_rows.specs.Objects.{element_row, element_rows, rows_joined}
use Rattle.question_rows.proofs.SlotRows.{element_further, length_elements}
use Rattle.question_rows.proofs.show.push_elements.Goals as goal

pub loop-index-preserved : goal.loop-index-preserved
loop-index-preserved c =
    let kind = c.args.kind in
    let words = c.args.words.now in
    let i = c.loop-index.index in
    let items = c.loop-index.text.items in
    let row = element_row kind i (get_or words i 0) in
    let rest = rows_joined (drop (i + 1) (element_rows kind 0 words)) in
    ap (λ (t : List ℕ). t ++ rest) c.in_ok-push_element.ensures
    ∙ append_assoc items row rest
    ∙ ap (λ (rows : List (List ℕ)). items ++ rows_joined rows) (sym (element_further i kind words c.loop-index-test.true))
    ∙ c.loop-index.invariant

pub returns : goal.returns
returns c =
    let rows = element_rows c.args.kind 0 c.args.words.now in
    let long = length_elements c.args.kind 0 c.args.words.now in
    let none = drop_all c.loop-index.index rows (omega (arith, long, c.loop-index-test.false)) in
    sym (ap (λ (rows : List (List ℕ)). c.loop-index.text.items ++ rows_joined rows) none ∙ append-nil c.loop-index.text.items) ∙ c.loop-index.invariant
