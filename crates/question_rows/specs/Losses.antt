-- The text of `dropped`.
use Rattle.std.specs.Prelude.{◌≡◌, ℕ, List, codes}
use Rattle.heap_class.specs.declared.ObjRef.{ObjRef}
use Rattle.heap_trail.specs.Trail.{Trail}
use Rattle.heap_questions.specs.declared.past.losses.Loss.{Loss}
use Rattle.heap_questions.specs.declared.past.losses.Loss.TheVariants.{Reached, At, Older}
use Rattle.heap_questions.specs.Losses.{IsLossOf}
use Rattle.question_words.specs.Places.{IsAboutObject, IsTextOrNoMemory, older_text, place_text}

-- the line of a loss
abbrev pub loss_text : Trail → Loss → List ℕ
loss_text t Reached = codes "ok reached\n"
loss_text t (At place) = place_text place
loss_text t Older = older_text t

-- when registers lost the object at a place, if they did
abbrev pub IsLossText : Trail → ObjRef → List ℕ → Type 0
IsLossText t at text = (loss : Loss) × IsLossOf t at loss × (text ≡ loss_text t loss)

-- the answer of `dropped`
abbrev pub IsDroppedText : ℕ → Trail → List ℕ → Type 0
IsDroppedText x t text = IsAboutObject (λ at. IsTextOrNoMemory (IsLossText t at)) t.current x text
