-- The text of `wrote`.
use Rattle.std.specs.Prelude.{◌≡◌, ◌⊎◌, ℕ, List, None, IsSome}
use Rattle.heap_class.specs.declared.ObjRef.{ObjRef}
use Rattle.heap_class.specs.declared.Refusal.TheVariants.{BadSlot}
use Rattle.heap_trail.specs.Trail.{Trail}
use Rattle.heap_questions.specs.Changes.{IsLastWrite, IsUnwritten, slot_word}
use Rattle.question_words.specs.Moments.{refused_text}
use Rattle.question_words.specs.Places.{IsAboutObject, IsPlaceText}

-- the place of the newest step that changed a slot of the object at a place, or made the object
abbrev pub IsWriteText : Trail → ObjRef → ℕ → List ℕ → Type 0
IsWriteText t at s text = IsPlaceText (IsLastWrite t at s) (IsUnwritten t at s) t text

-- the same, if the object has the slot
abbrev pub IsSlotText : Trail → ℕ → ObjRef → List ℕ → Type 0
IsSlotText t s at text =
    (IsSome (slot_word t.current at s) × IsWriteText t at s text)
    ⊎ ((slot_word t.current at s ≡ None) × (text ≡ refused_text BadSlot))

-- the answer of `wrote`
abbrev pub IsWroteText : ℕ → ℕ → Trail → List ℕ → Type 0
IsWroteText x s t text = IsAboutObject (IsSlotText t s) t.current x text
