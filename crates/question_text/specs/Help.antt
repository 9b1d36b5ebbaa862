-- The answers of `help`.
use Rattle.std.specs.Prelude.{ℕ, List, [], ◌∷◌, ◌++◌, codes, find, flat_map, IsSome, Option, Some, None, option_map, unwrap_or, if◌then◌else◌}
use Rattle.std.specs.Str.{bytes_eq}
use Rattle.session_grammar.specs.Grammar.{words_of_line}
use Rattle.session_text.specs.Replies.{line}

-- how a line is written: its keyword, its form and an example; and what it does, in words
pub record LineForm : Type 0 where
  pub key : List ℕ
  pub form : List ℕ
  pub example : List ℕ
  pub words : List ℕ

-- the form of a line
abbrev pub form_of : List ℕ → List ℕ → List ℕ → List ℕ → LineForm
form_of key form example words =
    record { key = key; form = form; example = example; words = words }

-- questions about the current state alone; and `collect`, `forward`, `at`, `name` and `help`
unfoldable pub session_forms : List LineForm
session_forms =
    form_of (codes "pins") (codes "pins") (codes "pins")
    (codes "the open pins")
    ∷ form_of (codes "cells") (codes "cells") (codes "cells")
    (codes "what each cell of the regions in use holds")
    ∷ form_of (codes "regions") (codes "regions [AT]") (codes "regions @120")
    (codes "how many objects each region in use has")
    ∷ form_of (codes "status") (codes "status") (codes "status")
    (codes "the place, the phase, and what is left to collect")
    ∷ form_of (codes "collect") (codes "collect") (codes "collect")
    (codes "takes the steps of a whole cycle, and sweeps")
    ∷ form_of (codes "forward") (codes "forward N|@P") (codes "forward 1")
    (codes "takes N undone steps again, or those up to place P")
    ∷ form_of (codes "at") (codes "at -|@P") (codes "at @120")
    (codes "sets the state of questions that name none")
    ∷ form_of (codes "name") (codes "name WORD") (codes "name start")
    (codes "names the current place, for which @WORD stands then")
    ∷ form_of (codes "help") (codes "help WORD") (codes "help path")
    (codes "all forms; or one form, an example and what it does; help formats: what words mean")
    ∷ []

-- questions about what retained steps did, and the lines above
unfoldable pub past_forms : List LineForm
past_forms =
    form_of (codes "born") (codes "born [@PLACE] ID") (codes "born 0x10000020")
    (codes "the step that made an object")
    ∷ form_of (codes "wrote") (codes "wrote [@PLACE] ID SLOT") (codes "wrote 0x10000020 next")
    (codes "the newest step that changed a slot")
    ∷ form_of (codes "watch") (codes "watch ID SLOT [@PLACE]") (codes "watch 0x10000020 next")
    (codes "each retained step that changed a slot")
    ∷ form_of (codes "writes") (codes "writes CLASS SLOT [@PLACE [@PLACE]]")
    (codes "writes server/Entry state")
    (codes "each retained step that changed a slot of some object of a class")
    ∷ form_of (codes "when") (codes "when [@PLACE [@PLACE]] (CLASS SLOT VALUE | count CLASS N)")
    (codes "when server/Entry state 42")
    (codes "the first place at which an object of a class has a value, or the class has N objects")
    ∷ form_of (codes "dropped") (codes "dropped [@PLACE] ID") (codes "dropped 0x10000020")
    (codes "the step since which no register reaches an object")
    ∷ form_of (codes "life") (codes "life ID") (codes "life 0x10000020")
    (codes "what became of each object that had this ID")
    ∷ form_of (codes "history") (codes "history [@PLACE] N") (codes "history 10")
    (codes "what the newest N steps did and overwrote")
    ∷ form_of (codes "cycles") (codes "cycles") (codes "cycles")
    (codes "each cycle that ended, and how many objects it condemned and sweeps removed")
    ∷ session_forms

-- questions about an object of a state, and the lines above
unfoldable pub object_forms : List LineForm
object_forms =
    form_of (codes "referrers") (codes "referrers [AT] ID") (codes "referrers - 0x10000020")
    (codes "the registers and slots that name an object")
    ∷ form_of (codes "path") (codes "path [AT] ID") (codes "path @120 0x10000020")
    (codes "a shortest path from a register to an object")
    ∷ form_of (codes "paths") (codes "paths [AT] ID N") (codes "paths 0x10000020 10")
    (codes "up to N paths to an object of which no two start alike")
    ∷ form_of (codes "retained") (codes "retained [AT] ID") (codes "retained 0x10000020")
    (codes "what is reached only through an object, by class")
    ∷ form_of (codes "dominators") (codes "dominators [AT] [ID] [N]")
    (codes "dominators 0x10000020 10")
    (codes "what is retained by each object that no other dominates, or none but one with this ID")
    ∷ form_of (codes "dominator") (codes "dominator [AT] ID") (codes "dominator 0x10000020")
    (codes "the objects that dominate an object, the nearest first")
    ∷ form_of (codes "show") (codes "show [AT] ID[.FIELD ..] [DEPTH | FROM N]")
    (codes "show 0x10000020.next 2")
    (codes "the slots of an object; with DEPTH also those of the objects below it")
    ∷ past_forms

-- questions about all objects of one or two states, and the lines above
unfoldable pub question_forms : List LineForm
question_forms =
    form_of (codes "histogram") (codes "histogram [AT]") (codes "histogram -")
    (codes "the objects and bytes of each class")
    ∷ form_of (codes "garbage") (codes "garbage [AT]") (codes "garbage 1")
    (codes "the same for the objects that no register reaches")
    ∷ form_of (codes "growth") (codes "growth [AT [AT]]") (codes "growth @120 -")
    (codes "the classes whose objects or bytes differ between two states")
    ∷ form_of (codes "kept") (codes "kept [AT [AT]]") (codes "kept @120 -")
    (codes "what was made between two states and is reached in the second, by class")
    ∷ form_of (codes "diff") (codes "diff [AT [AT]]") (codes "diff @120 -")
    (codes "the objects and slots that differ between two states")
    ∷ form_of (codes "registers") (codes "registers [AT]") (codes "registers -")
    (codes "what each register names")
    ∷ form_of (codes "classes") (codes "classes [AT]") (codes "classes -")
    (codes "the classes with their supers and own fields")
    ∷ form_of (codes "objects") (codes "objects [AT] [CLASS [SLOT VALUE]]")
    (codes "objects server/Entry state 42")
    (codes "each object, or each of a class, or of these each that has a value in a slot")
    ∷ form_of (codes "values") (codes "values [AT] CLASS SLOT") (codes "values server/Entry state")
    (codes "the values of a slot in the objects of a class, and how many have each")
    ∷ object_forms

-- lines of the collector, of the trail, of pins and of the session, and those above
unfoldable pub act_forms : List LineForm
act_forms =
    form_of (codes "snap") (codes "snap") (codes "snap")
    (codes "begins a marking cycle")
    ∷ form_of (codes "mark") (codes "mark") (codes "mark")
    (codes "looks at the slots of a marked object")
    ∷ form_of (codes "drain") (codes "drain") (codes "drain")
    (codes "looks at an entry of the log of overwritten references")
    ∷ form_of (codes "finish") (codes "finish") (codes "finish")
    (codes "ends the cycle, and finds which objects are dead")
    ∷ form_of (codes "sweep") (codes "sweep REGION") (codes "sweep 0")
    (codes "removes the dead objects of a region")
    ∷ form_of (codes "rewind") (codes "rewind N|@P") (codes "rewind 1")
    (codes "undoes the last N steps, or all since place P")
    ∷ form_of (codes "open") (codes "open [AT]") (codes "open -")
    (codes "opens a pin, which keeps a state for dumps and questions")
    ∷ form_of (codes "piece") (codes "piece PIN") (codes "piece 1")
    (codes "prints the next piece of a pin's dump")
    ∷ form_of (codes "dump") (codes "dump PIN") (codes "dump 1")
    (codes "prints the rest of a pin's dump; dump - prints one of the current state")
    ∷ form_of (codes "close") (codes "close PIN") (codes "close 1")
    (codes "closes a pin")
    ∷ form_of (codes "end") (codes "end") (codes "end")
    (codes "ends the session")
    ∷ question_forms

-- lines that make objects, or read or write slots and registers, and those above
unfoldable pub write_forms : List LineForm
write_forms =
    form_of (codes "class") (codes "class NAME SUPER FIELD ..")
    (codes "class Node - next:object value:int")
    (codes "defines a class; SUPER is a class, or - for none, and FIELD is NAME:KIND")
    ∷ form_of (codes "array") (codes "array NAME") (codes "array Nodes")
    (codes "defines a class of arrays of references")
    ∷ form_of (codes "new") (codes "new M R CLASS") (codes "new 0 1 0")
    (codes "makes an object of a class, and has register R of mutator M name it")
    ∷ form_of (codes "newarray") (codes "newarray M R CLASS LEN") (codes "newarray 0 2 1 100")
    (codes "makes an array of LEN references")
    ∷ form_of (codes "newprim") (codes "newprim M R KIND LEN") (codes "newprim 0 3 byte 64")
    (codes "makes an array of LEN values of a kind")
    ∷ form_of (codes "load") (codes "load M TO FROM SLOT") (codes "load 0 4 1 0")
    (codes "reads a slot of the object that FROM names; a reference goes to register TO")
    ∷ form_of (codes "store") (codes "store M TARGET SLOT SOURCE") (codes "store 0 1 0 2")
    (codes "writes what SOURCE names to a slot of the object that TARGET names")
    ∷ form_of (codes "put") (codes "put M TARGET SLOT VALUE") (codes "put 0 1 1 42")
    (codes "writes a value to a slot of the object that TARGET names")
    ∷ form_of (codes "move") (codes "move M TO FROM_M FROM") (codes "move 0 5 1 0")
    (codes "copies register FROM of mutator FROM_M to register TO of mutator M")
    ∷ form_of (codes "clear") (codes "clear M R") (codes "clear 0 1")
    (codes "makes a register null")
    ∷ act_forms

-- all lines
abbrev pub all_forms : List LineForm
all_forms = write_forms

-- a row of these words
abbrev pub help_row : List ℕ → List ℕ
help_row words = line (codes "row " ++ words)

-- a row of these words, which aren't those of a line
abbrev pub words_row : List ℕ → List ℕ
words_row words = help_row (codes "# " ++ words)

-- a row for each of these lines
abbrev pub help_rows : List LineForm → List ℕ
help_rows forms = flat_map (λ f. help_row f.form) forms

-- the answer of `help`: a row for each line
unfoldable pub help_text : List ℕ
help_text = help_rows all_forms ++ codes "ok\n"

-- the answer of `help` and the keyword of a line: its form, an example and what it does
unfoldable pub form_text : LineForm → List ℕ
form_text f = help_row f.form ++ (help_row f.example ++ (words_row f.words ++ codes "ok\n"))

-- the same of the line with this keyword, if these have it
unfoldable pub form_with : List LineForm → List ℕ → Option (List ℕ)
form_with forms w = option_map form_text (find (λ f. bytes_eq w f.key) forms)

-- a line with this keyword has a form
abbrev pub HasForm : List ℕ → Type 0
HasForm key = IsSome (form_with all_forms key)

-- what words of forms, rows and answers mean
unfoldable pub formats : List (List ℕ)
formats =
    codes "[..] may be left out; AT is then the current state, or what at says"
    ∷ codes "AT is a state: - the current one, PIN that of a pin, @P or @WORD that at a place"
    ∷ codes "@PLACE is a place: @P, or @WORD by its name, or - for the current one"
    ∷ codes "ID is an object: 0x and 8 hexadecimal digits"
    ∷ codes "CLASS is a class by its number or name; in rows a name, or KIND[] for arrays of values"
    ∷ codes "SLOT and FIELD are a slot by its number or its name"
    ∷ codes "VALUE is an ID or null in slots of the kind object, else a decimal number"
    ∷ codes "KIND is object, boolean, char, float, double, byte, short, int or long"
    ∷ codes "M is a mutator, R a register of it; both are numbers from 0"
    ∷ codes "OBJECTS and BYTES count objects, and the bytes of their values"
    ∷ codes "an answer is lines that begin with row, and then one that begins with ok"
    ∷ codes "no NUMBER NAME .. is a refusal, and bad command is no line at all"
    ∷ []

-- the answer of `help formats`: a row for each of these
unfoldable pub formats_text : List ℕ
formats_text = flat_map words_row formats ++ codes "ok\n"

-- the answer of `help` and a word
unfoldable pub help_on : List ℕ → Option (List ℕ)
help_on w =
    if bytes_eq w (codes "formats") then Some formats_text else form_with all_forms w

-- the answer of `help` and these words
abbrev pub help_about : List (List ℕ) → Option (List ℕ)
help_about [] = Some help_text
help_about (w ∷ []) = help_on w
help_about (w ∷ v ∷ ws) = None

-- the answer of these words, if the first is `help`
abbrev pub help_of_words : List (List ℕ) → Option (List ℕ)
help_of_words [] = None
help_of_words (w ∷ ws) = if bytes_eq w (codes "help") then help_about ws else None

-- the answer of a line that asks for help
abbrev pub help_of : List ℕ → Option (List ℕ)
help_of l = help_of_words (words_of_line l)

-- the same, or that the line is none
abbrev pub help_or_bad : List ℕ → List ℕ
help_or_bad l = unwrap_or (help_of l) (codes "bad command\n")
