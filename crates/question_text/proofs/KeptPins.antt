-- No question changes the first number of the pins that are opened through the commands.
use Rattle.std.proofs.Common.{◌≡◌, List, Option, Some, None, ℕ, ap}
use Rattle.question_text.specs.declared.asking.Asking.{Asking}
use Rattle.question_grammar.specs.declared.order.Order.{Order}
use Rattle.question_grammar.specs.Orders.{order_in}
use Rattle.question_grammar.specs.NoteLines.{place_opened}
use Rattle.question_text.specs.Sessions.{AnswersLine, AskingAnswers, OpensOrAnswers}

line_same : (order : Option Order) (l : List ℕ) (c : Asking) (text : List ℕ) (d : Asking) → AnswersLine order l c text d → d.local.first_pin ≡ c.local.first_pin
line_same (Some order) l c text d h = h.1
line_same None l c text d h = ap (λ (x : Asking). x.local.first_pin) h.1

opens_same : (opened : Option (Option ℕ)) (l : List ℕ) (c : Asking) (text : List ℕ) (d : Asking) → OpensOrAnswers opened l c text d → d.local.first_pin ≡ c.local.first_pin
opens_same (Some place) l c text d h = h.1.1
opens_same None l c text d h = line_same (order_in c.bookmarks c.local.machine.trail.current l) l c text d h

pub line_keeps : (l : List ℕ) (c : Asking) (text : List ℕ) (d : Asking) → AskingAnswers l c text d → d.local.first_pin ≡ c.local.first_pin
line_keeps l c text d h = opens_same (place_opened c.bookmarks l) l c text d h.0
