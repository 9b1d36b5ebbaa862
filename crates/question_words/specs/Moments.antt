-- The states that questions are about.
use Rattle.std.specs.Prelude.{◌≡◌, ℕ, ◌-◌, ◌⊎◌, List, codes, Option, Some, None, Result, Ok, Err, if◌then◌else◌}
use Rattle.std.specs.Global.{Vec}
use Rattle.heap_class.specs.declared.Refusal.{Refusal}
use Rattle.heap_class.specs.declared.Refusal.TheVariants.{NoMemory, NoPin, NotRetained, Lost as LostPin}
use Rattle.heap_trail.specs.declared.Reply.TheVariants.{Refused}
use Rattle.heap_trail.specs.Machine.{Machine}
use Rattle.heap_trail.specs.Pins.{PinState, Kept, Gone, is_retained, pin_at}
use Rattle.heap_trail.specs.Trail.{state_ago, Trail}
use Rattle.heap_pins.specs.Images.{image_of}
use Rattle.heap_pins.specs.Pin.{pin_image}
use Rattle.heap_pins.specs.View.{ShowsSome}
use Rattle.hprof_text.specs.Image.{Image}
use Rattle.session_text.specs.Replies.{reply_text}
use Rattle.question_words.specs.declared.at.At.{At}
use Rattle.question_words.specs.declared.at.At.TheVariants.{Current, Pin, Place}
use Rattle.question_words.specs.declared.rows.Unanswered.{Unanswered}
use Rattle.question_words.specs.declared.rows.Unanswered.TheVariants.{NoObject, Unreachable}
use Rattle.question_words.specs.declared.at.Moment.{Moment}
use Rattle.question_words.specs.declared.at.Moment.TheVariants.{Own, Open}

-- what an open pin shows, or the refusal of a dump of it
unfoldable pub image_of_pin : Option PinState → Result Image Refusal
image_of_pin None = Err NoPin
image_of_pin (Some (Gone place cause)) = Err (LostPin cause)
image_of_pin (Some (Kept place image given)) = Ok image

-- the image that a question is about, or why there is none
unfoldable pub image_at : At → Machine → Result Image Refusal
image_at Current m = Ok (image_of m.trail.current)
image_at (Pin pin) m = image_of_pin (pin_at pin m.pins)
image_at (Place place) m =
    if is_retained place m.trail then Ok (image_of (state_ago (m.trail.place - place) m.trail))
    else Err NotRetained

-- the line of a refusal
abbrev pub refused_text : Refusal → List ℕ
refused_text e = reply_text (Refused e)

-- the line of an id that names no object
abbrev pub no_object_text : List ℕ
no_object_text = codes "no 28 NoObject\n"

-- the line of an object that no register reaches
abbrev pub unreachable_text : List ℕ
unreachable_text = codes "no 27 Unreachable\n"

-- the line of a question that has no answer
abbrev pub unanswered_text : Unanswered → List ℕ
unanswered_text (Unanswered.Refused e) = refused_text e
unanswered_text NoObject = no_object_text
unanswered_text Unreachable = unreachable_text

-- what is printed: the lines, or why there are none
abbrev pub told_text : Result (Vec ℕ) Unanswered → List ℕ
told_text (Ok text) = text.items
told_text (Err e) = unanswered_text e

-- the answer about an image, or memory for it was refused
abbrev pub IsToldOf : (Image → List ℕ → Type 0) → Image → List ℕ → Type 0
IsToldOf answers image text = answers image text ⊎ (text ≡ refused_text NoMemory)

-- the same, or why there is no image
abbrev pub IsAnswerAbout : (Image → List ℕ → Type 0) → Result Image Refusal → List ℕ → Type 0
IsAnswerAbout answers (Ok image) text = IsToldOf answers image text
IsAnswerAbout answers (Err e) text = text ≡ refused_text e

-- the answer about two images, or memory for it was refused; or why the second is missing
abbrev pub IsAnswerBesides : (Image → List ℕ → Type 0) → Result Image Refusal → List ℕ → Type 0
IsAnswerBesides answers (Ok newer) text = IsToldOf answers newer text
IsAnswerBesides answers (Err e) text = (text ≡ refused_text e) ⊎ (text ≡ refused_text NoMemory)

-- the same, or why the first is missing
abbrev pub IsAnswerBetween : (Image → Image → List ℕ → Type 0) → Result Image Refusal
    → Result Image Refusal
    → List ℕ → Type 0
IsAnswerBetween answers (Ok older) newer text = IsAnswerBesides (answers older) newer text
IsAnswerBetween answers (Err e) newer text = text ≡ refused_text e

-- ---- moments

-- the image of a moment
abbrev pub moment_image : Machine → Moment → Result Image Refusal
moment_image m (Own pin) = Ok (pin_image pin m.trail.current)
moment_image m (Open pin) = image_of_pin (pin_at pin m.pins)

-- a pin of the question's own shows some state beside the current one
abbrev pub IsMomentOf : Machine → Moment → Type 0
IsMomentOf m (Own pin) = ShowsSome pin m.trail.current
IsMomentOf m (Open pin) = Unit {0}

-- there is an image, but no memory; or this is why there is none
abbrev pub IsRefusedAt : Result Image Refusal → Refusal → Type 0
IsRefusedAt (Ok image) e = e ≡ NoMemory
IsRefusedAt (Err x) e = e ≡ x

-- how many steps ago the state at a place was, if it is retained; without a place it is the current state
unfoldable pub steps_ago : Option ℕ → Trail → Result ℕ Refusal
steps_ago None t = Ok 0
steps_ago (Some place) t = if is_retained place t then Ok (t.place - place) else Err NotRetained

-- the same of the place of a pin, which must be open and not lost
unfoldable pub ago_of_pin : Option PinState → Trail → Result ℕ Refusal
ago_of_pin None t = Err NoPin
ago_of_pin (Some (Gone place cause)) t = Err (LostPin cause)
ago_of_pin (Some (Kept place image given)) t = steps_ago (Some place) t

-- how many steps ago the state was that a question is about, if it is retained; a pin stands for its place
unfoldable pub ago_at : At → Machine → Result ℕ Refusal
ago_at Current m = Ok 0
ago_at (Pin pin) m = ago_of_pin (pin_at pin m.pins) m.trail
ago_at (Place place) m = steps_ago (Some place) m.trail
