use Rattle.std.proofs.Common.{inl, inr}
use Rattle.question_rows.proofs.write.wrote_line.Goals as goal

pub returns-in-Some : goal.returns-in-Some
returns-in-Some c = elim c.past_slot_line.ensures [
  | inl h ↦ inl (inl (c.in-Some.at, c.in-Some.ensures, h))
  | inr h ↦ inr h
]

pub returns-in-None : goal.returns-in-None
returns-in-None c = inl (inr (c.in-None.ensures, c.reason_line.ensures))
