use Rattle.std.proofs.Common.{◌≡◌, ◌∙◌, ◌++◌, [], ◌∷◌, ℕ, List, ap, ap₂, append_assoc, arith, map, sym}
use Rattle.std.specs.List.{range_with_len}
use Rattle.std.proofs.lemmas.List.FromFn.{map-range_with_len_more}
use Rattle.heap_questions.specs.Cells.{cell_state}
use Rattle.question_rows.specs.CellLists.{cell_at, cell_letter}
use Rattle.question_rows.proofs.cell_list.push_letters.Goals as goal

pub loop-cell-preserved : goal.loop-cell-preserved
loop-cell-preserved c =
    let w = c.args.cells.now in
    let r = c.args.region in
    let k = c.loop-cell.cell in
    let first = c.args.text.now.items in
    let f : ℕ → ℕ = λ n. cell_letter (cell_state w (cell_at r n)) in
    let e : c.cell_letter.result ≡ f k = c.cell_letter.ensures ∙ ap cell_letter (c.state_at.ensures ∙ ap (λ n. cell_state w (cell_at n k)) c.region_number-number.ensures) in
    c.in_ok-push.ensures.items
    ∙ ap₂ (λ (t : List ℕ) (x : ℕ). t ++ x ∷ []) c.loop-cell.invariant e
    ∙ append_assoc first (map f (range_with_len 0 k)) (f k ∷ [])
    ∙ ap (λ (t : List ℕ). first ++ t) (sym (map-range_with_len_more f 0 k k (omega arith)))
