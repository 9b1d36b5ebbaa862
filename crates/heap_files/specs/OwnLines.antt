-- Lines that do something with a file: `source PATH` and `log PATH`.
use Rattle.std.specs.Prelude.{ℕ, List, [], ◌∷◌, codes, Option, Some, None, option_and_then, option_map, if◌then◌else◌}
use Rattle.std.specs.Str.{bytes_eq}
use Rattle.session_grammar.specs.Grammar.{words_of_line}
use Rattle.heap_files.specs.declared.own_line.Deed.{Deed}
use Rattle.heap_files.specs.declared.own_line.Deed.TheVariants.{Source, Log}

-- what a keyword asks to be done
unfoldable pub deed_by : List ℕ → Option Deed
deed_by w =
    if bytes_eq w (codes "source") then Some Source
    else (if bytes_eq w (codes "log") then Some Log else None)

-- the only word
abbrev pub path_alone : List (List ℕ) → Option (List ℕ)
path_alone [] = None
path_alone (path ∷ []) = Some path
path_alone (w ∷ v ∷ ws) = None

-- what words ask to be done, and the path of the file
abbrev pub own_of_words : List (List ℕ) → Option (Deed × List ℕ)
own_of_words [] = None
own_of_words (w ∷ ws) = option_and_then (λ deed. option_map (λ path. (deed, path)) (path_alone ws)) (deed_by w)

-- what a line asks to be done, and the path of the file
abbrev pub own_of : List ℕ → Option (Deed × List ℕ)
own_of l = own_of_words (words_of_line l)
