-- The answers to lines that write files.
use Rattle.std.proofs.Common.{◌≡◌, ℕ, List, Some, None}
use Rattle.std.specs.Prelude.{Option}
use Rattle.question_grammar.specs.declared.file_line.FileContent.{FileContent}
use Rattle.heap_files.specs.Files.{FolderActs}
use Rattle.heap_files.specs.Filings.{WritesOrAnswers}
use Rattle.heap_files.specs.declared.filing.Filing.{Filing}

pub only_folder_changes : {F : Type 0} (acts : FolderActs F) (file : Option (FileContent × List ℕ)) (l : List ℕ) (c : Filing F) (text : List ℕ) (d : Filing F) (f : FileContent × List ℕ)
    → file ≡ Some f → WritesOrAnswers acts file l c text d → d ≡ record c { folder = d.folder }
only_folder_changes acts (Some g) l c text d f e h = h.1
only_folder_changes acts None l c text d f e h = absurd (cc e)
