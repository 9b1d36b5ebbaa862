-- Lines of events that name a class or a field: `class`, `new`, `newarray`, `load`, `store` and `put`.
use Rattle.std.specs.Prelude.{ℕ, List, [], ◌∷◌, codes, is_some, nat_lt, slice_get, Option, Some, None, option_map, option_and_then, if◌then◌else◌}
use Rattle.std.specs.Str.{bytes_eq}
use Rattle.heap_class.specs.Classes.{Class}
use Rattle.heap_step.specs.declared.Event.{Event}
use Rattle.heap_step.specs.declared.Event.TheVariants.{New, NewArray, Load, Store, Put}
use Rattle.heap_world.specs.Limits.{registers_each}
use Rattle.heap_world.specs.State.{HeapState, register_index}
use Rattle.session_grammar.specs.Grammar.{at_end, next_number, number_of_word}
use Rattle.session_grammar.specs.Reads.{DefinesClass, next_name, plain_fields}
use Rattle.question_grammar.specs.NameWords.{class_named, slot_of_object_named}

-- what a word names, unless it is a number
abbrev pub unless_number : List ℕ → Option ℕ → Option ℕ
unless_number w named = if is_some (number_of_word w) then None else named

-- the word of register r of mutator m, if there is this register
unfoldable pub word_in : HeapState → ℕ → ℕ → Option ℕ
word_in state m r =
    if nat_lt r registers_each then slice_get state.registers (register_index m r) else None

-- the first slot with this name in the object that register r of mutator m names
abbrev pub slot_in_register : HeapState → ℕ → ℕ → List ℕ → Option ℕ
slot_in_register state m r name =
    option_and_then (λ x. slot_of_object_named state x name) (word_in state m r)

-- the class that the first word names, and the other words
abbrev pub next_class : List Class → List (List ℕ) → Option (ℕ × List (List ℕ))
next_class classes [] = None
next_class classes (w ∷ ws) =
    option_map (λ k. (k, ws)) (unless_number w (class_named classes w))

-- the class that the first word names as the super of another, and the other words: `-` is no name
abbrev pub next_super : List Class → List (List ℕ) → Option (ℕ × List (List ℕ))
next_super classes [] = None
next_super classes (w ∷ ws) =
    if bytes_eq w (codes "-") then None else next_class classes (w ∷ ws)

-- the slot that the first word names in the object of register r of mutator m, and the other words
abbrev pub next_slot : HeapState → ℕ → ℕ → List (List ℕ) → Option (ℕ × List (List ℕ))
next_slot state m r [] = None
next_slot state m r (w ∷ ws) =
    option_map (λ s. (s, ws)) (unless_number w (slot_in_register state m r w))

-- ---- lines

-- `class NAME SUPER FIELD ..`, if the name and the fields are without a bad byte
abbrev pub class_by_name : List Class → List (List ℕ) → Option Event
class_by_name classes ws =
    option_and_then
    (λ name. option_and_then
    (λ sup. option_map (λ fields. Event.Class name.0 (Some sup.0) fields) (plain_fields sup.1))
    (next_super classes name.1)) (next_name ws)

-- `new M R NAME`
abbrev pub new_by_name : List Class → List (List ℕ) → Option Event
new_by_name classes ws =
    option_and_then
    (λ m. option_and_then
    (λ r. option_and_then (λ k. at_end (New m.0 r.0 k.0) k.1) (next_class classes r.1))
    (next_number m.1)) (next_number ws)

-- `newarray M R NAME LEN`
abbrev pub array_by_name : List Class → List (List ℕ) → Option Event
array_by_name classes ws =
    option_and_then
    (λ m. option_and_then
    (λ r. option_and_then
    (λ k. option_and_then (λ n. at_end (NewArray m.0 r.0 k.0 n.0) n.1) (next_number k.1))
    (next_class classes r.1)) (next_number m.1)) (next_number ws)

-- `load M TO FROM NAME`
abbrev pub load_by_name : HeapState → List (List ℕ) → Option Event
load_by_name state ws =
    option_and_then
    (λ m. option_and_then
    (λ to. option_and_then
    (λ r. option_and_then (λ s. at_end (Load m.0 to.0 r.0 s.0) s.1) (next_slot state m.0 r.0 r.1))
    (next_number to.1)) (next_number m.1)) (next_number ws)

-- the mutator, its register, the slot that a name names in the object there, and the number behind it: those of `store` and `put`
abbrev pub write_by_name : HeapState → List (List ℕ) → Option (ℕ × ℕ × ℕ × ℕ)
write_by_name state ws =
    option_and_then
    (λ m. option_and_then
    (λ r. option_and_then
    (λ s. option_and_then (λ n. at_end (m.0, r.0, s.0, n.0) n.1) (next_number s.1))
    (next_slot state m.0 r.0 r.1)) (next_number m.1)) (next_number ws)

-- the event on an object that the words behind a keyword ask for, by a name of this state
unfoldable pub object_event_by_name : HeapState → List ℕ → List (List ℕ) → Option Event
object_event_by_name state w ws =
    if bytes_eq w (codes "new") then new_by_name state.classes ws
    else (if bytes_eq w (codes "newarray") then array_by_name state.classes ws
    else (if bytes_eq w (codes "load") then load_by_name state ws
    else (if bytes_eq w (codes "store")
    then option_map (λ n. Store n.0 n.1 n.2 n.3) (write_by_name state ws)
    else (if bytes_eq w (codes "put")
    then option_map (λ n. Put n.0 n.1 n.2 n.3) (write_by_name state ws)
    else None))))

-- the event that they ask for
unfoldable pub event_by_name : HeapState → List ℕ → List (List ℕ) → Option Event
event_by_name state w ws =
    if bytes_eq w (codes "class") then class_by_name state.classes ws
    else object_event_by_name state w ws

-- the same, of which the keyword is the first word
abbrev pub event_of_words : HeapState → List (List ℕ) → Option Event
event_of_words state [] = None
event_of_words state (w ∷ ws) = event_by_name state w ws

-- to read this event, if there is one, takes memory: it defines a class
abbrev pub MayDefine : Option Event → Type 0
MayDefine None = ⊥
MayDefine (Some e) = DefinesClass e
