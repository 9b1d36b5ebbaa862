-- The texts for command lines that the program refuses.
use Rattle.std.specs.Prelude.{◌≡◌, ◌≢◌, ◌⊎◌, ◌++◌, ◌||◌, ℕ, Bool, List, Option, Some, None, [], ◌∷◌, ⊤, false, true, codes, is_some, string_bytes, if◌then◌else◌, IfErr, IfOk, Result}
use Rattle.std.specs.Option.{option_map_or}
use Rattle.std.specs.Str.{bytes_eq}
use Rattle.clap.specs.Words.{IsAmong, Row, Text, fault_of, first_of, subcommand_of}
use Rattle.clap.specs.declared.error.kind.ErrorKind.{ErrorKind}
use Rattle.clap.specs.declared.error.kind.ErrorKind.TheVariants.{DisplayHelp, DisplayVersion, OutOfMemory}
use Rattle.heapdbg_options.specs.Numbers.{Numbers, dump_port_numbers, id_numbers, option_named, number_options, row_numbers, page_numbers, port_limit, served_page_numbers, served_port_numbers, size_options, taken_text, target_numbers}
use Rattle.heapdbg_options.specs.CommandLine.{dumps_with, explore_with, has_second, has_secret, heapdbg_line, id_size_in, is_task, most_area, number_in, page_with, port_in, regions_in, settings_of, size_in, wide_in}
use Rattle.heapdbg_options.specs.declared.refusal.Mistake.{Mistake}
use Rattle.heapdbg_options.specs.declared.refusal.Mistake.TheVariants.{Command, Rule, Value}
use Rattle.heapdbg_options.specs.declared.settings.LineFault.{LineFault}
use Rattle.heapdbg_options.specs.declared.settings.LineFault.TheVariants.{Bad, CommandText, Memory, OptionText}
use Rattle.heapdbg_options.specs.declared.settings.Task.{Task}

-- a value is given that is no number in this range
abbrev pub IsOutside : ℕ → ℕ → Option Text → Type 0
IsOutside least most None = ⊥
IsOutside least most (Some text) = number_in least most text ≡ None

-- a value is given that is no size in this range
abbrev pub IsNoSize : ℕ → ℕ → Option Text → Type 0
IsNoSize least most None = ⊥
IsNoSize least most (Some text) = size_in least most text ≡ None

-- an option has no number that it takes, whatever else is given
abbrev pub IsNumberMistake : Text → List Row → Type 0
IsNumberMistake said rows =
    (n : Numbers) × (option_named n.name number_options ≡ Some n) × (said ≡ taken_text n)
    × IsOutside n.least n.most (first_of n.name rows)

-- an option has no size that it takes in a heap that is wide, or isn't
abbrev pub IsSizeMistake : Text → List Row → Type 0
IsSizeMistake said rows =
    (wide : Bool) × (n : Numbers) × (wide_in rows ≡ Some wide)
    × (option_named n.name (size_options wide) ≡ Some n) × (said ≡ taken_text n)
    × IsNoSize n.least n.most (first_of n.name rows)

-- what is said of an area that a heap can't have that is wide, or isn't
abbrev pub area_rule : Bool → Text
area_rule wide =
    if wide then codes "--area takes 0 to one less than the number of --regions"
    else codes "--area takes 0 without --wide 1"

-- the area is none that a task's heap can have that has this many regions and is wide, or isn't
abbrev pub IsAreaMistake : Text → List Row → Type 0
IsAreaMistake said rows =
    (task : Task) × (wide : Bool) × (regions : ℕ) × (said ≡ area_rule wide)
    × (wide_in rows ≡ Some wide) × (regions_in task wide rows ≡ Some regions)
    × IsNoSize 0 (most_area wide regions) (first_of (codes "area") rows)

-- the port for dumps is none, or that of the sessions
abbrev pub IsDumpPortMistake : Text → List Row → Type 0
IsDumpPortMistake said rows =
    (port : ℕ) × (said ≡ taken_text dump_port_numbers) × (port_in rows ≡ Some port)
    × (dumps_with port (first_of (codes "dumps") rows) ≡ None)

-- the port of the page of a heap that is served is none, or one of its other ports
abbrev pub IsPageMistake : Text → List Row → Type 0
IsPageMistake said rows =
    (port : ℕ) × (dumps : Option ℕ) × (said ≡ taken_text served_page_numbers)
    × (port_in rows ≡ Some port) × (dumps_with port (first_of (codes "dumps") rows) ≡ Some dumps)
    × (page_with port dumps (first_of (codes "page") rows) ≡ None)

-- a path and a port have this mistake, of which one has to be given
abbrev pub IsTargetMistake : Text → Option Text → Option Text → Type 0
IsTargetMistake said path port =
    ((said ≡ codes "save takes one of --out and --to") × (is_some path ≡ is_some port))
    ⊎ ((said ≡ taken_text target_numbers) × IsOutside 1 port_limit port)

-- a file of lines, a dump, a page, a port, and a secret or none have this mistake: the dump may only be given without the file, the
-- port without the three before it, and a secret only with the port
abbrev pub IsExploreMistake : Text → Option Text → Option Text → Option Text → Option Text → Bool
    → Type 0
IsExploreMistake said from hprof page port secret =
    ((said ≡ codes "explore takes --port without --from, --hprof and --page")
    × (is_some from || (is_some hprof || is_some page) ≡ true) × (is_some port ≡ true))
    ⊎ (((said ≡ taken_text served_port_numbers) × IsOutside 1 port_limit port)
    ⊎ (((said ≡ taken_text page_numbers) × IsOutside 1 port_limit page)
    ⊎ (((said ≡ codes "explore takes --secret with --port alone") × (secret ≡ true)
    × (is_some port ≡ false))
    ⊎ ((said ≡ codes "explore takes --from without --hprof") × (is_some from ≡ true)
    × (is_some hprof ≡ true)))))

-- what is said of a second dump without a first
abbrev pub second_rule : Text
second_rule = codes "explore takes --then with --hprof alone"

-- the options of a command have a mistake of which this is said
abbrev pub IsMistakeIn : Text → List Row → Type 0
IsMistakeIn said rows =
    IsNumberMistake said rows
    ⊎ (IsSizeMistake said rows
    ⊎ (IsAreaMistake said rows
    ⊎ (((said ≡ taken_text id_numbers) × (id_size_in rows ≡ None))
    ⊎ (((said ≡ taken_text served_port_numbers) × (port_in rows ≡ None))
    ⊎ (IsDumpPortMistake said rows
    ⊎ (IsPageMistake said rows
    ⊎ (IsTargetMistake said (first_of (codes "out") rows) (first_of (codes "to") rows)
    ⊎ (IsExploreMistake said (first_of (codes "from") rows) (first_of (codes "hprof") rows)
    (first_of (codes "page") rows) (first_of (codes "port") rows) (has_secret rows)
    ⊎ ((said ≡ second_rule) × (has_second rows ≡ true)
    × (is_some (first_of (codes "hprof") rows) ≡ false))))))))))

-- what is said of a mistake
abbrev pub said_of : Mistake → Text
said_of Command = codes "heapdbg takes one of run, explore, draw, save, serve, ask and fetch"
said_of (Value row) = taken_text (row_numbers row)
said_of (Rule rule) = rule.now

-- what is read, or a mistake, of which what is said fits
abbrev pub IsValueOrMistake : {A : Type 0} → Option A → (Text → Type 0) → Result A Mistake → Type 0
IsValueOrMistake read IsMade result =
    IfOk result (λ x. read ≡ Some x) × IfErr result (λ m. (read ≡ None) × IsMade (said_of m))

-- what is read of a command's options, or the mistake in them
abbrev pub IsReadOrMistake : {A : Type 0} → (List Row → Option A) → List Row → Result A Mistake
    → Type 0
IsReadOrMistake read rows result =
    IsValueOrMistake (read rows) (λ said. IsMistakeIn said rows) result

-- what is chosen by two options, or the mistake in them
abbrev pub IsChoiceOrMistake : {A : Type 0} → (Option Text → Option Text → Option A)
    → (Text → Option Text → Option Text → Type 0) → Option Text → Option Text → Result A Mistake
    → Type 0
IsChoiceOrMistake choose IsMade one other result =
    IsValueOrMistake (choose one other) (λ said. IsMade said one other) result

-- the task of `explore` to which these are given, or the mistake in them
abbrev pub IsExploreOrMistake : Option Text → Option Text → Option Text → Option Text → Bool
    → Result Task Mistake → Type 0
IsExploreOrMistake from hprof page port secret result =
    IsValueOrMistake (explore_with from hprof page port secret)
    (λ said. IsExploreMistake said from hprof page port secret) result

-- no command of the program is there
abbrev pub IsNoTask : Option (Text × List Row) → Type 0
IsNoTask None = ⊤
IsNoTask (Some found) = is_task found.0 ≡ false

-- a command line, of which a command and its options were found, has a mistake of which this is said
abbrev pub IsMistake : Text → Option (Text × List Row) → Type 0
IsMistake said found =
    IsMistakeIn said (option_map_or (λ f. f.1) found [])
    ⊎ ((said ≡ said_of Command) × IsNoTask found)

-- the whole text of a refusal that says this
abbrev pub mistake_text : Text → Text
mistake_text said =
    codes "error: " ++ (said ++ codes "\n\nFor more information, try 'heapdbg --help'.\n")

-- the answer to `--version`
abbrev pub version_text : Text
version_text = codes "heapdbg 1.0.0 (logic dac8208d650f15bf)\n"

-- the text names a mistake of the command line
abbrev pub NamesMistake : List Text → Text → Type 0
NamesMistake words text =
    (said : Text) × IsMistake said (subcommand_of heapdbg_line words) × (text ≡ mistake_text said)

-- the command is `help`
abbrev pub is_help : List Text → Bool
is_help (program ∷ word ∷ rest) = bytes_eq word (codes "help")
is_help _ = false

-- the command is `version`, and nothing follows
abbrev pub is_version : List Text → Bool
is_version (program ∷ word ∷ []) = bytes_eq word (codes "version")
is_version _ = false

-- a text that an option asks for is this one, or memory ran out
abbrev pub IsOptionWith : Text → LineFault → Type 0
IsOptionWith text (OptionText shown) = string_bytes shown ≡ text
IsOptionWith text Memory = ⊤
IsOptionWith text _ = ⊥

-- a text that a command asks for is this one, or memory ran out
abbrev pub IsCommandWith : Text → LineFault → Type 0
IsCommandWith text (CommandText shown) = string_bytes shown ≡ text
IsCommandWith text Memory = ⊤
IsCommandWith text _ = ⊥

-- what is said of words, which are the command `help` or not, that the parser refuses for this reason
abbrev pub IsSaidOf : ErrorKind → Bool → LineFault → Type 0
IsSaidOf kind help (Bad text) =
    (kind ≢ OutOfMemory) × (kind ≢ DisplayHelp) × (kind ≢ DisplayVersion)
IsSaidOf kind help (OptionText text) =
    ((kind ≡ DisplayVersion) × (string_bytes text ≡ version_text))
    ⊎ ((kind ≡ DisplayHelp) × (help ≡ false))
IsSaidOf kind help (CommandText text) = (kind ≡ DisplayHelp) × (help ≡ true)
IsSaidOf kind help Memory = ⊤

-- the parser may refuse the words for this reason
abbrev pub MayFailBy : List Text → ErrorKind → Type 0
MayFailBy words kind = IsAmong kind (fault_of heapdbg_line words)

-- the words ask by an option for this text: that of the version, or a help
abbrev pub IsOptionText : List Text → Text → Type 0
IsOptionText words text =
    (MayFailBy words DisplayVersion × (text ≡ version_text))
    ⊎ (MayFailBy words DisplayHelp × (is_help words ≡ false))

-- the words ask by a command for this text: that of the version, or a help
abbrev pub IsCommandText : List Text → Text → Type 0
IsCommandText words text =
    ((is_version words ≡ true) × (text ≡ version_text))
    ⊎ (MayFailBy words DisplayHelp × (is_help words ≡ true))

-- a refusal fits the words: they ask for no settings. A text that they ask for is that of the version or a help. They are bad
-- only if they don't ask for one, and if the parser finds no fault in them, the text names a mistake
abbrev pub IsRefusalOf : List Text → LineFault → Type 0
IsRefusalOf words (Bad text) =
    (settings_of words ≡ None) × (is_version words ≡ false)
    × (fault_of heapdbg_line words ≡ [] → NamesMistake words (string_bytes text))
    × (fault_of heapdbg_line words ≢ DisplayHelp ∷ [])
    × (fault_of heapdbg_line words ≢ DisplayVersion ∷ [])
IsRefusalOf words (OptionText text) =
    (settings_of words ≡ None) × (is_version words ≡ false) × IsOptionText words (string_bytes text)
IsRefusalOf words (CommandText text) =
    (settings_of words ≡ None) × IsCommandText words (string_bytes text)
IsRefusalOf words Memory = ⊤
