use Rattle.std.proofs.Common.{sym, ◌∙◌}
use Rattle.heap_questions.proofs.past.writes.write_by.Goals as goal

pub changing_write-requires : goal.changing_write-requires
changing_write-requires c = c.requires c.in-Some.written (sym c.overwritten.ensures ∙ c.in-Some.is)
