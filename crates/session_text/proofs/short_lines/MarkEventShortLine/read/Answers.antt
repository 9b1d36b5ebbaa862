use Rattle.std.proofs.Common.{◌∙◌, [], ap, codes, take}
use Rattle.heap_step.specs.declared.Event.TheVariants.{Mark}
use Rattle.heap_trail.specs.declared.Action.TheVariants.{Step}
use Rattle.session_grammar.specs.declared.command.Command.TheVariants.{Ask}
use Rattle.session_grammar.specs.Grammar.{words_of_line}
use Rattle.session_text.proofs.QuickLines.{keyword_line_asks_command, mark_rule, mark_word}
use Rattle.session_text.proofs.short_lines.MarkEventShortLine.read.Goals as goal

pub returns-clause-asks : goal.returns-clause-asks
returns-clause-asks c = keyword_line_asks_command (take 4 c.args._text.now) (codes "mark") [] (Ask (Step Mark)) (ap words_of_line c.requires.1 ∙ mark_word) (mark_rule [])
