use Rattle.std.proofs.Common.{sym, ◌∙◌}
use Rattle.heap_questions.proofs.past.firsts.writes_wanted.Goals as goal

pub kind_at-requires : goal.kind_at-requires
kind_at-requires c = c.requires c.in-Some.at (sym c.written_at.ensures ∙ c.in-Some.is)
