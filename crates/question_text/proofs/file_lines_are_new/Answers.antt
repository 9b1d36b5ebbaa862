use Rattle.question_text.proofs.NewFiles.{file_alone, file_unnoted}
use Rattle.question_text.proofs.file_lines_are_new.Goals as goal

pub returns : goal.returns
returns c = record { alone = file_alone; unnoted = file_unnoted }
