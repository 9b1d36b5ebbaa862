-- How the pins are kept, and what a step and a rewind make of them.
use Rattle.std.specs.Prelude.{Some, ◌≡◌, ◌⊎◌, ℕ, ◌+◌, ◌-◌, ◌<◌, ◌≤◌, Bool, true, false, nat_lt, List, [], ◌∷◌, length, map, slice_index_or, None, is_some, if◌then◌else◌}
use Rattle.heap_class.specs.declared.LostCause.{LostCause}
use Rattle.heap_class.specs.declared.LostCause.TheVariants.{Rewound, Memory}
use Rattle.heap_class.specs.declared.Refusal.{Refusal}
use Rattle.heap_class.specs.declared.Refusal.TheVariants.{NoMemory}
use Rattle.heap_class.specs.declared.Refusal.TheVariants.{Lost as IsLost}
use Rattle.heap_class.specs.declared.ObjRef.{ObjRef}
use Rattle.heap_world.specs.Regions.{live_places}
use Rattle.heap_world.specs.State.{HeapState}
use Rattle.heap_step.specs.declared.Undo.{Undo}
use Rattle.heap_step.specs.declared.Undo.TheVariants.{New}
use Rattle.heap_class.specs.declared.IdSize.{IdSize}
use Rattle.hprof_text.specs.declared.Cursor.{Cursor}
use Rattle.hprof_text.specs.declared.Cursor.TheVariants.{Past}
use Rattle.hprof_text.specs.Cursors.{IsAt}
use Rattle.hprof_text.specs.Laws.{piece_limit}
use Rattle.hprof_text.specs.Image.{Image}
use Rattle.hprof_text.specs.declared.Piece.{Piece}
use Rattle.hprof_text.specs.Segments.{records_from, pieces_of, piece_of}
use Rattle.hprof_text.specs.Text.{sub_records}
use Rattle.heap_pins.specs.Images.{image_of}
use Rattle.heap_pins.specs.Pin.{places_seen, pin_image}
use Rattle.heap_pins.specs.KeptCopies.{kept, touched}
use Rattle.heap_pins.specs.Shows.{Holds}
use Rattle.heap_pins.specs.View.{ShowsSome}
use Rattle.heap_trail.specs.declared.held.Held.{Held}
use Rattle.heap_trail.specs.declared.held.Held.TheVariants.{Kept, Lost}
use Rattle.heap_trail.specs.declared.held.NumberedPin.{NumberedPin}
use Rattle.heap_trail.specs.Pins.{Pins, PinState}
use Rattle.heap_trail.specs.Pins.{Kept as KeptState, Gone}

-- the pin as the model sees it beside the current state
unfoldable pub state_of : HeapState → Held → PinState
state_of w (Kept place pin cursor given) = KeptState place (pin_image pin w) given
state_of w (Lost place cause) = Gone place cause

-- all pins as the model sees them
unfoldable pub pins_of : HeapState → ℕ → List NumberedPin → Pins
pins_of w next slots =
    record { next = next; open_pins = map (λ s. (s.number, state_of w s.held)) slots }

-- the pin has a place for the copy of each of n regions, or it is lost
abbrev pub IsSizedHeld : ℕ → Held → Type 0
IsSizedHeld n (Kept place pin cursor given) = length pin.copies ≡ n
IsSizedHeld n (Lost place cause) = Unit {0}

-- so has the pin of a slot
abbrev pub IsSizedPin : ℕ → NumberedPin → Type 0
IsSizedPin n s = IsSizedHeld n s.held

-- so has each pin of the list
abbrev pub EachSized : ℕ → List NumberedPin → Type 0
EachSized n [] = Unit {0}
EachSized n (s ∷ slots) = IsSizedPin n s × EachSized n slots

-- ---- a step

-- the pin once it has kept what the step that left this record overwrote; a lost one stays lost
unfoldable pub held_kept : Undo → HeapState → Held → Held
held_kept left v (Kept place pin cursor given) = Kept place (kept left v pin) cursor given
held_kept left v (Lost place cause) = Lost place cause

-- whether the pin isn't lost
unfoldable pub is_kept : Held → Bool
is_kept (Kept place pin cursor given) = true
is_kept (Lost place cause) = false

-- the slot once its pin has kept what the step overwrote
abbrev pub slot_kept : Undo → HeapState → NumberedPin → NumberedPin
slot_kept left v s = record s { held = held_kept left v s.held }

-- the place of the pin
unfoldable pub held_place : Held → ℕ
held_place (Kept place pin cursor given) = place
held_place (Lost place cause) = place

-- the slot with its pin lost, for this cause
abbrev pub slot_lost : LostCause → NumberedPin → NumberedPin
slot_lost cause s = record s { held = Lost (held_place s.held) cause }

-- the region is one of the heap's, unless the pin is lost
abbrev pub IsRegionWithin : ℕ → Held → Type 0
IsRegionWithin region (Kept place pin cursor given) = region < length pin.copies
IsRegionWithin region (Lost place cause) = Unit {0}

-- whether a step that touches the region leaves the pin as it is: it has a copy of the region, or it is lost
unfoldable pub is_settled : ℕ → Held → Bool
is_settled region (Kept place pin cursor given) = is_some (slice_index_or pin.copies region None)
is_settled region (Lost place cause) = true

-- the step that left this record touched a region that the pin has no copy of
abbrev pub NeedsCopy : Undo → Held → Type 0
NeedsCopy left h =
    (region : ℕ) × (touched left ≡ Some region) × (is_settled region h ≡ false)

-- the step that left this record made an object at this place, in a region that it took from the pool or not (the flag)
abbrev pub IsMade : ObjRef → Bool → Undo → Type 0
IsMade at fresh left = (m : ℕ) × (r : ℕ) × (old : ℕ) × (left ≡ New at fresh m r old)

-- the pin keeps what it has to, or it is lost, by a step that touched a region which it has no copy of
abbrev pub MayKeep : Undo → HeapState → NumberedPin → NumberedPin → Type 0
MayKeep left v s t =
    (t ≡ slot_kept left v s)
    ⊎ ((t ≡ slot_lost Memory s) × (is_kept s.held ≡ true) × NeedsCopy left s.held)

-- ---- a rewind

-- the pin after a rewind to a place: it is lost if its own place is above
unfoldable pub held_after_rewind : ℕ → Held → Held
held_after_rewind to (Kept place pin cursor given) =
    if nat_lt to place then Lost place Rewound else Kept place pin cursor given
held_after_rewind to (Lost place cause) = Lost place cause

-- the slot after a rewind to a place
abbrev pub slot_after_rewind : ℕ → NumberedPin → NumberedPin
slot_after_rewind to s = record s { held = held_after_rewind to s.held }

-- ---- what holds of the pins

-- `given` pieces of a dump were given, and the cursor stands at the next
abbrev pub IsGivenOf : IdSize → Image → List ObjRef → Cursor → ℕ → Type 0
IsGivenOf ids image places cursor given =
    IsAt ids image places cursor given × (given ≤ length (records_from (sub_records ids image)) + 1)

-- so it is of the dump of u
abbrev pub IsGiven : IdSize → HeapState → Cursor → ℕ → Type 0
IsGiven ids u cursor given = IsGivenOf ids (image_of u) (live_places u.regions) cursor given

-- the pin holds the state at its place, and its cursor stands after the pieces that were given; or it is lost
abbrev pub HoldsAt : IdSize → List HeapState → ℕ → Held → Type 0
HoldsAt ids states place (Kept at pin cursor given) =
    (u : HeapState) × (at ≤ place) × Holds pin u (place - at) states × IsGiven ids u cursor given
HoldsAt ids states place (Lost at cause) = Unit {0}

-- each of these has a number above n
abbrev pub AreAbove : ℕ → List NumberedPin → Type 0
AreAbove n [] = Unit {0}
AreAbove n (s ∷ slots) = (n < s.number) × AreAbove n slots

-- the pins hold states at their places, their numbers rise, and all are below the next one
abbrev pub AreHeld : IdSize → List HeapState → ℕ → ℕ → List NumberedPin → Type 0
AreHeld ids states place next [] = Unit {0}
AreHeld ids states place next (s ∷ slots) =
    HoldsAt ids states place s.held × (s.number < next) × AreAbove s.number slots
    × AreHeld ids states place next slots

-- ---- a piece

-- a pin that isn't lost shows some state beside this one, and its cursor stands after the pieces that were given
abbrev pub CanGive : IdSize → HeapState → Held → Type 0
CanGive ids w (Kept place pin cursor given) =
    ShowsSome pin w × IsGivenOf ids (pin_image pin w) (places_seen pin w.regions) cursor given
CanGive ids w (Lost place cause) = Unit {0}

-- the number of pieces given after one more; past the last, none is counted
unfoldable pub given_after : ℕ → ℕ → ℕ
given_after given pieces = if nat_lt given pieces then given + 1 else given

-- this is the pin's next piece, and there the cursor stands after it
abbrev pub IsNextPiece : IdSize → HeapState → ℕ → Held → Piece → Cursor → Type 0
IsNextPiece ids w time (Kept place pin cursor given) piece next =
    let image = pin_image pin w in
    (piece ≡ piece_of ids image time given)
    × IsAt ids image (places_seen pin w.regions) next (given + 1)
IsNextPiece ids w time (Lost place cause) piece next = ⊥

-- whether the cursor is past the last piece
abbrev pub is_past : Cursor → Bool
is_past Past = true
is_past cursor = false

-- the pin with its cursor moved on and the piece counted, unless the cursor is past the last piece
unfoldable pub held_advanced : Cursor → Held → Held
held_advanced to (Kept place pin cursor given) =
    if is_past cursor then Kept place pin cursor given else Kept place pin to (given + 1)
held_advanced to (Lost place cause) = Lost place cause

-- far fewer pieces were given than are counted
abbrev pub MayCount : Held → Type 0
MayCount (Kept place pin cursor given) = given ≤ piece_limit
MayCount (Lost place cause) = Unit {0}

-- the pin gave this piece, its next, and its cursor stands at the one after it
abbrev pub HasGiven : IdSize → HeapState → ℕ → Piece → Held → Held → Type 0
HasGiven ids w time piece (Kept place pin cursor given) h =
    let image = pin_image pin w in
    let more = given_after given (length (pieces_of ids image time)) in
    (piece ≡ piece_of ids image time given) × (next : Cursor) × (h ≡ Kept place pin next more)
    × IsGivenOf ids image (places_seen pin w.regions) next more
HasGiven ids w time piece (Lost place cause) h = ⊥

-- the refusal of a pin that gives no piece
abbrev pub RefusesPiece : Held → Refusal → Type 0
RefusesPiece (Kept place pin cursor given) e = e ≡ NoMemory
RefusesPiece (Lost place cause) e = e ≡ IsLost cause

-- each pin keeps what it has to, or is lost
abbrev pub EachMayKeep : Undo → HeapState → List NumberedPin → List NumberedPin → Type 0
EachMayKeep left v [] [] = Unit {0}
EachMayKeep left v [] (t ∷ ts) = ⊥
EachMayKeep left v (s ∷ ss) [] = ⊥
EachMayKeep left v (s ∷ ss) (t ∷ ts) = MayKeep left v s t × EachMayKeep left v ss ts

-- the pin is lost, or its place is below this
abbrev pub AreBelow : ℕ → PinState → Type 0
AreBelow place (KeptState at image given) = at < place
AreBelow place (Gone at cause) = Unit {0}

-- so it is with each pin of the list
abbrev pub EachBelow : ℕ → List (ℕ × PinState) → Type 0
EachBelow place [] = Unit {0}
EachBelow place (e ∷ pins) = AreBelow place e.1 × EachBelow place pins

-- so it is with each open pin
abbrev pub AreAllBelow : ℕ → Pins → Type 0
AreAllBelow place p = EachBelow place p.open_pins
