-- The text of `registers`.
use Rattle.std.specs.Prelude.{◌≡◌, ℕ, ◌+◌, List, [], ◌∷◌, ◌++◌, codes, length, map, Option, Some, None}
use Rattle.heap_class.specs.declared.ObjKind.{ObjKind}
use Rattle.heap_class.specs.Classes.{Class}
use Rattle.hprof_text.specs.Image.{Image}
use Rattle.heap_questions.specs.declared.registers.NamedObject.{NamedObject}
use Rattle.heap_questions.specs.Registers.{object_named}
use Rattle.session_text.specs.Replies.{line}
use Rattle.question_words.specs.Ids.{and_id}
use Rattle.question_words.specs.Names.{IsClassThere, class_name}
use Rattle.question_rows.specs.Referrers.{and_register}
use Rattle.question_words.specs.Rows.{count_text}

-- the class of an object of this kind is there, if there is an object
abbrev pub IsKindKnown : List Class → Option ObjKind → Type 0
IsKindKnown classes None = Unit {0}
IsKindKnown classes (Some kind) = IsClassThere classes kind

-- the class of what a register names is there
abbrev pub NamesKnown : List Class → NamedObject → Type 0
NamesKnown classes n = IsKindKnown classes n.kind

-- null, or the id of an object and its class
abbrev pub kind_words : List Class → ℕ → Option ObjKind → List ℕ
kind_words classes x None = codes " null"
kind_words classes x (Some kind) = and_id x ++ 32 ∷ class_name classes kind

-- what a register names
abbrev pub named_words : List Class → NamedObject → List ℕ
named_words classes n = kind_words classes n.id n.kind

-- the line of register r
unfoldable pub register_text : List Class → ℕ → NamedObject → List ℕ
register_text classes r n = line ((codes "row" ++ and_register r) ++ named_words classes n)

-- the lines of the registers from number r on
abbrev pub register_texts : List Class → ℕ → List NamedObject → List ℕ
register_texts classes r [] = []
register_texts classes r (n ∷ ns) = register_text classes r n ++ register_texts classes (r + 1) ns

-- the answer of `registers`
abbrev pub IsRegistersText : Image → List ℕ → Type 0
IsRegistersText image text =
    text
    ≡ register_texts image.classes 0 (map (object_named image) image.registers)
    ++ count_text (length image.registers)
