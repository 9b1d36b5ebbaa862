-- The text of `born`.
use Rattle.std.specs.Prelude.{ℕ, List}
use Rattle.heap_class.specs.declared.ObjRef.{ObjRef}
use Rattle.heap_trail.specs.Trail.{Trail}
use Rattle.heap_questions.specs.Changes.{IsBirth, IsOld}
use Rattle.question_words.specs.Places.{IsAboutObject, IsPlaceText}

-- the place of the step that made the object at a place
abbrev pub IsBirthText : Trail → ObjRef → List ℕ → Type 0
IsBirthText t at text = IsPlaceText (IsBirth t at) (IsOld t at) t text

-- the answer of `born`
abbrev pub IsBornText : ℕ → Trail → List ℕ → Type 0
IsBornText x t text = IsAboutObject (IsBirthText t) t.current x text
