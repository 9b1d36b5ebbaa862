use Rattle.question_text.proofs.NotedLines.{name_alone, open_alone, place_alone}
use Rattle.question_text.proofs.notes_are_new.Goals as goal

pub returns : goal.returns
returns c = record { opens = open_alone; places = place_alone; names = name_alone }
