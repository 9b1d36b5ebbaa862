use Rattle.std.proofs.Common.{sym, subst, inl, inr, refl, ◌∙◌, Option, ℕ, IsSome}
use Rattle.heap_questions.proofs.SeenSlots.{seen_word, unseen_word}
use Rattle.question_rows.proofs.write.slot_line.Goals as goal

pub write_line-requires : goal.write_line-requires
write_line-requires c = (seen_word c.args.past.now.current c.args.at c.args.slot c.in-Some.seen (sym c.in-Some.is ∙ c.requires)).0

pub returns-in-Some : goal.returns-in-Some
returns-in-Some c =
    let word = (seen_word c.args.past.now.current c.args.at c.args.slot c.in-Some.seen (sym c.in-Some.is ∙ c.requires)).0 in
    inl (subst (λ (x : Option ℕ). IsSome x) (sym word) refl, c.write_line.ensures)

pub returns-in-None : goal.returns-in-None
returns-in-None c = inr (unseen_word c.args.past.now.current c.args.at c.args.slot (sym c.in-None.is ∙ c.requires), c.reason_line.ensures)
