-- The first place at which something holds.
use Rattle.std.specs.Prelude.{◌≡◌, ℕ, ◌-◌, ◌<◌, ◌≤◌, true, false, Bool, Contains, length, Option, Some, None, if◌then◌else◌}
use Rattle.std.specs.Option.{option_map_or}
use Rattle.heap_class.specs.declared.ObjRef.{ObjRef}
use Rattle.heap_world.specs.State.{HeapState}
use Rattle.heap_step.specs.declared.Undo.{Undo}
use Rattle.heap_step.specs.declared.Undo.TheVariants.{New, Finish}
use Rattle.hprof_text.specs.Image.{DumpedObject, Image}
use Rattle.heap_pins.specs.Images.{image_of}
use Rattle.heap_pins.specs.Pin.{PinContents}
use Rattle.heap_trail.specs.Trail.{Trail, state_ago}
use Rattle.heap_questions.specs.declared.wanted.Wanted.{Wanted}
use Rattle.heap_questions.specs.declared.wanted.Wanted.TheVariants.{OfClass}
use Rattle.heap_questions.specs.Newest.{written_at}
use Rattle.heap_questions.specs.ObjectLists.{objects_wanted}
use Rattle.heap_questions.specs.SlotWrites.{SeesObject, seen_object}
use Rattle.heap_questions.specs.Wanted.{is_of_class, is_wanted}

-- P holds of the image of the state of n steps ago
abbrev pub HoldsAgo : (Image → Type 0) → Trail → ℕ → Type 0
HoldsAgo P t n = P (image_of (state_ago n t))

-- the place of the oldest of the states since `oldest` steps ago of which P holds; none if it holds of none of them
abbrev pub IsFirstPlace : (Image → Type 0) → Trail → ℕ → Option ℕ → Type 0
IsFirstPlace P t oldest None = (n : ℕ) → n ≤ oldest → ¬ HoldsAgo P t n
IsFirstPlace P t oldest (Some place) =
    (ago : ℕ) × (ago ≤ oldest) × (place ≡ t.place - ago) × HoldsAgo P t ago
    × ((n : ℕ) → ago < n → n ≤ oldest → ¬ HoldsAgo P t n)

-- an object of the image is wanted
abbrev pub HasWanted : Wanted → Image → Type 0
HasWanted wanted image =
    (o : DumpedObject) × Contains image.objects o × (is_wanted wanted o.kind o.words ≡ true)

-- at least n objects of the image are wanted
abbrev pub HasMany : ℕ → Wanted → Image → Type 0
HasMany n wanted image = n ≤ length (objects_wanted wanted image)

-- ---- what a record tells, and a pin that shows the state after its step

-- it shows the object that the step with this record wrote or created, if there is one
abbrev pub SeesWritten : PinContents → HeapState → Undo → Type 0
SeesWritten p w left = (at : ObjRef) → written_at left ≡ Some at → SeesObject p w at

-- that object is wanted
abbrev pub writes_wanted : PinContents → HeapState → Undo → Wanted → Bool
writes_wanted p w left wanted =
    option_map_or (λ at. let o = seen_object p w at in is_wanted wanted o.kind o.words)
    (written_at left) false

-- the place of a state if something holds of it, else that of a newer one
abbrev pub place_if : Bool → ℕ → Option ℕ → Option ℕ
place_if holds place newer = if holds then Some place else newer

-- the step that left this record ended a cycle
abbrev pub is_finish : Undo → Bool
is_finish (Finish log) = true
is_finish left = false

-- the place of the object that it made, if it did
abbrev pub made_place : Undo → Option ObjRef
made_place (New at fresh m r old) = Some at
made_place left = None

-- it made an object of class k
abbrev pub makes_of_class : PinContents → HeapState → Undo → ℕ → Bool
makes_of_class p w left k =
    option_map_or (λ at. is_of_class (seen_object p w at).kind k) (made_place left) false

-- how many live objects of class k the state before its step has, which this image is of, from how many there are after it
abbrev pub many_before : Image → Undo → ℕ → ℕ → Bool → ℕ
many_before image (Finish log) k many made = length (objects_wanted (OfClass k) image)
many_before image left k many made = many - (if made then 1 else 0)
