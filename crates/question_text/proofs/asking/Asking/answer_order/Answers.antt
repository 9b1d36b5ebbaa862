use Rattle.std.proofs.Common.{subst}
use Rattle.heap_class.specs.declared.Refusal.TheVariants.{NoMemory}
use Rattle.heap_world.specs.State.{HeapState}
use Rattle.question_grammar.specs.Orders.{order_in}
use Rattle.question_words.specs.Moments.{refused_text}
use Rattle.question_text.specs.Sessions.{AnswersLine}
use Rattle.question_text.proofs.NewEvents.{unread_for_no_memory}
use Rattle.question_text.proofs.asking.Asking.answer_order.Goals as goal

pub returns-in-Err-clause-answers : goal.returns-in-Err-clause-answers
returns-in-Err-clause-answers c =
    subst (λ (w : HeapState). AnswersLine (order_in c.args.self.now.bookmarks w c.args.line.now) c.args.line.now c.args.self.now (refused_text NoMemory) c.args.self.now) c.world.ensures.value
    (unread_for_no_memory _ c.args.line.now c.args.self.now c.in-Err.ensures)
