use Rattle.std.proofs.Common.{sym, inr, refl, ◌∙◌}
use Rattle.heap_questions.proofs.SeenSlots.{unseen_word}
use Rattle.question_rows.proofs.slot_changes.changes_of_slot.Goals as goal

pub returns-in-None : goal.returns-in-None
returns-in-None c = inr (unseen_word c.args.past.now.current c.args.at c.args.slot (sym c.in-None.is ∙ c.requires), refl)
