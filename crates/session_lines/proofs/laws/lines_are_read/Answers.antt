use Rattle.session_lines.proofs.EventWords.{each_event_line_reads_back}
use Rattle.session_lines.proofs.laws.lines_are_read.Goals as goal

pub returns : goal.returns
returns c = each_event_line_reads_back
