use Rattle.std.proofs.Common.{ap, ◌∙◌}
use Rattle.session_lines.specs.EventLines.{line_of}
use Rattle.hprof_pair.proofs.joined_classes.line_over.Goals as goal

pub returns : goal.returns
returns c = λ x there. c.from_vec.ensures ∙ (rw c.new-text.ensures.items at c.in_ok-push_event.ensures) ∙ ap line_of (c.in_ok-event.ensures x there)
