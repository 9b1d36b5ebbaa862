-- The lines that ask for events, in their shortest form.
use Rattle.std.specs.Prelude.{◌≡◌, ℕ, List, [], ◌∷◌, ◌++◌, codes, decimal, flat_map, map, Option, Some, None, Result, OnOk}
use Rattle.std.specs.declared.alloc.AllocError.{AllocError}
use Rattle.heap_class.specs.declared.Field.{Field}
use Rattle.heap_class.specs.Kinds.{kind_word}
use Rattle.heap_step.specs.declared.Event.{Event}
use Rattle.heap_step.specs.declared.Event.TheVariants.{Class, ArrayClass, New, NewArray, NewPrim, Load, Store, Put, Move, Clear, Snap, Mark, Drain, Finish, Sweep}

-- a field: its name, a colon and the word of its kind
abbrev pub field_word : Field → List ℕ
field_word f = f.name ++ 58 ∷ kind_word f.kind

-- the number of a super, or `-`
abbrev pub super_word : Option ℕ → List ℕ
super_word (Some k) = decimal k
super_word None = codes "-"

-- the first word of an event's line
abbrev pub verb_of : Event → List ℕ
verb_of (Class name sup fields) = codes "class"
verb_of (ArrayClass name) = codes "array"
verb_of (New m r class) = codes "new"
verb_of (NewArray m r class len) = codes "newarray"
verb_of (NewPrim m r kind len) = codes "newprim"
verb_of (Load m to from slot) = codes "load"
verb_of (Store m target slot source) = codes "store"
verb_of (Put m target slot value) = codes "put"
verb_of (Move m to from_m from) = codes "move"
verb_of (Clear m r) = codes "clear"
verb_of Snap = codes "snap"
verb_of Mark = codes "mark"
verb_of Drain = codes "drain"
verb_of Finish = codes "finish"
verb_of (Sweep region) = codes "sweep"

-- its other words
abbrev pub words_of : Event → List (List ℕ)
words_of (Class name sup fields) = name ∷ super_word sup ∷ map field_word fields
words_of (ArrayClass name) = name ∷ []
words_of (New m r class) = decimal m ∷ decimal r ∷ decimal class ∷ []
words_of (NewArray m r class len) = decimal m ∷ decimal r ∷ decimal class ∷ decimal len ∷ []
words_of (NewPrim m r kind len) = decimal m ∷ decimal r ∷ kind_word kind ∷ decimal len ∷ []
words_of (Load m to from slot) = decimal m ∷ decimal to ∷ decimal from ∷ decimal slot ∷ []
words_of (Store m target slot source) = decimal m ∷ decimal target ∷ decimal slot ∷ decimal source ∷ []
words_of (Put m target slot value) = decimal m ∷ decimal target ∷ decimal slot ∷ decimal value ∷ []
words_of (Move m to from_m from) = decimal m ∷ decimal to ∷ decimal from_m ∷ decimal from ∷ []
words_of (Clear m r) = decimal m ∷ decimal r ∷ []
words_of Snap = []
words_of Mark = []
words_of Drain = []
words_of Finish = []
words_of (Sweep region) = decimal region ∷ []

-- words, with a space before each
abbrev pub and_words : List (List ℕ) → List ℕ
and_words words = flat_map (λ w. 32 ∷ w) words

-- words with a space between any two
abbrev pub spaced : List ℕ → List (List ℕ) → List ℕ
spaced first words = first ++ and_words words

-- the line of an event, without its LF
abbrev pub event_text : Event → List ℕ
event_text e = spaced (verb_of e) (words_of e)

-- the line of an event
abbrev pub line_of : Event → List ℕ
line_of e = event_text e ++ 10 ∷ []

-- these bytes were appended, unless an allocation failed
abbrev pub Appends : {A : Type 0} → List ℕ → List ℕ → List ℕ → Result A AllocError → Type 0
Appends bytes old new result = OnOk result (new ≡ old ++ bytes)
