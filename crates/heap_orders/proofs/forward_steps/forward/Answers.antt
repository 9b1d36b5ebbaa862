use Rattle.std.proofs.Common.{◌≡◌, List, ℕ, arith, inl, inr, refl, subst}
use Rattle.session_text.specs.Replies.{line_answer_text}
use Rattle.question_words.specs.Places.{IsTextOrNoMemory}
use Rattle.heap_orders.specs.Redos.{nothing_to_redo_text}
use Rattle.heap_orders.proofs.forward_steps.forward.Goals as goal

pub returns-then-count-left : goal.returns-then-count-left
returns-then-count-left c = inl (omega (arith, c.if-count-left.true, c.ahead-left.ensures), c.go_on.ensures)

pub returns-else-count-left : goal.returns-else-count-left
returns-else-count-left c = inr (
  omega (arith, c.if-count-left.false, c.ahead-left.ensures),
  subst (λ (left : ℕ). IsTextOrNoMemory (λ (text : List ℕ). text ≡ nothing_to_redo_text c.args.count left) (line_answer_text c.nothing_to_redo.result)) c.ahead-left.ensures c.nothing_to_redo.ensures,
  refl,
  refl,
)
