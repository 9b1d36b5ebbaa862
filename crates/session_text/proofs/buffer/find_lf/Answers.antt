use Rattle.session_text.proofs.LineSearch.{no_line_feed_behind_place, line_behind}
use Rattle.session_text.proofs.buffer.find_lf.Goals as goal

pub returns-in-Some : goal.returns-in-Some
returns-in-Some c = line_behind c.args.bytes.now c.args.from c.in-Some.behind c.requires.0 c.requires.1 c.in-Some.ensures

pub returns-in-None : goal.returns-in-None
returns-in-None c = no_line_feed_behind_place c.args.bytes.now c.args.from c.requires.1 c.in-None.ensures
