use Rattle.std.proofs.Common.{append_assoc, ◌∙◌, ◌++◌, ◌+◌, List, Vec, ap, drop, sym, ℕ}
use Rattle.std.specs.Global.{Global}
use Rattle.question_rows.specs.Growths.{changed_texts}
use Rattle.question_rows.proofs.ChangedRows.{row_passed, row_told}
use Rattle.question_rows.proofs.growth.push_changes.Goals.{then-differs+in_ok-push_change, else-differs}
use Rattle.question_rows.proofs.growth.push_changes.Goals as goal

pub loop-index-preserved : goal.loop-index-preserved
loop-index-preserved c =
    let classes = c.args.classes.now in
    let changes = c.args.changes.now in
    let i = c.loop-index.index in
    let text = c.loop-index.text.items in
    let first = c.args.first in
    let rest = changed_texts classes (first + (i + 1)) (drop (i + 1) changes) in
    let within = c.loop-index-test.true in
    elim c.if-differs.branch [
      | then-differs+in_ok-push_change w ↦
          ap (λ (t : Vec ℕ Global). t.items ++ rest) w.text-is
          ∙ ap (λ (t : List ℕ). t ++ rest) w.in_ok-push_change.ensures
          ∙ append_assoc text _ rest
          ∙ ap (λ (t : List ℕ). text ++ t) (sym (row_told classes changes first i _ _ within c.differs.ensures w.if-differs.true))
          ∙ c.loop-index.invariant
      | else-differs w ↦
          ap (λ (t : Vec ℕ Global). t.items ++ rest) w.text-is
          ∙ ap (λ (t : List ℕ). text ++ t) (sym (row_passed classes changes first i _ _ within c.differs.ensures w.if-differs.false))
          ∙ c.loop-index.invariant
    ]
