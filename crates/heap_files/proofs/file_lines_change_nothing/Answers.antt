use Rattle.question_grammar.specs.FileLines.{file_of}
use Rattle.heap_files.proofs.FileAnswers.{only_folder_changes}
use Rattle.heap_files.proofs.file_lines_change_nothing.Goals as goal

pub returns : goal.returns
returns g c = λ l path text content a d e h. only_folder_changes g.F.Folder.acts (file_of a.asking.bookmarks l) l a text d (content, path) e h
