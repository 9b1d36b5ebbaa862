-- The texts of answers that name a place.
use Rattle.std.specs.Prelude.{◌≡◌, ◌⊎◌, ℕ, ◌-◌, List, ◌++◌, codes, Some, None, IsSome}
use Rattle.heap_class.specs.declared.ObjRef.{ObjRef}
use Rattle.heap_class.specs.declared.Refusal.TheVariants.{NoMemory}
use Rattle.heap_world.specs.Regions.{object_at, object_of, ref_of}
use Rattle.heap_world.specs.State.{HeapState}
use Rattle.heap_trail.specs.Trail.{Trail, retained}
use Rattle.session_text.specs.Replies.{and_number, line}
use Rattle.question_words.specs.Moments.{no_object_text, refused_text}

-- the line that names a place
abbrev pub place_text : ℕ → List ℕ
place_text place = codes "ok place" ++ line (and_number place)

-- the line of what is older than all retained steps: it names the oldest retained place
abbrev pub older_text : Trail → List ℕ
older_text t = codes "ok older" ++ line (and_number (t.place - retained t))

-- the text names a place that `holds` tells of, or there is none
abbrev pub IsPlaceText : (ℕ → Type 0) → Type 0 → Trail → List ℕ → Type 0
IsPlaceText holds none t text =
    ((place : ℕ) × holds place × (text ≡ place_text place)) ⊎ (none × (text ≡ older_text t))

-- the text is an answer, or memory for it was refused
abbrev pub IsTextOrNoMemory : (List ℕ → Type 0) → List ℕ → Type 0
IsTextOrNoMemory answers text = answers text ⊎ (text ≡ refused_text NoMemory)

-- an object, dead or not, has the id x and stands at a place
abbrev pub StandsAt : HeapState → ℕ → ObjRef → Type 0
StandsAt w x at = (ref_of w.regions x ≡ Some at) × IsSome (object_at w.regions at)

-- the text is the answer about the object with the id x, or there is none
abbrev pub IsAboutObject : (ObjRef → List ℕ → Type 0) → HeapState → ℕ → List ℕ → Type 0
IsAboutObject answers w x text =
    ((at : ObjRef) × StandsAt w x at × answers at text)
    ⊎ ((object_of w.regions x ≡ None) × (text ≡ no_object_text))
