-- What the pieces of one pin are.
use Rattle.std.proofs.Common.{◌≡◌, ℕ, ◌+◌, ◌<◌, ◌≤◌, Bool, true, false, List, [], ◌∷◌, length, drop, length-drop, length-append, refl, sym, ap, subst, ◌∙◌, arith}
use Rattle.std.specs.Prelude.{nat_lt, if◌then◌else◌}
use Rattle.heap_class.specs.declared.IdSize.{IdSize}
use Rattle.heap_class.specs.declared.ObjRef.{ObjRef}
use Rattle.heap_world.specs.State.{HeapState}
use Rattle.hprof_text.specs.declared.Cursor.{Cursor}
use Rattle.hprof_text.specs.declared.Cursor.TheVariants.{Start, Item, Object, End, Past}
use Rattle.hprof_text.specs.declared.Piece.{Piece}
use Rattle.hprof_text.specs.Image.{Image}
use Rattle.hprof_text.specs.Cursors.{IsBefore, IsAt}
use Rattle.hprof_text.specs.Laws.{piece_limit}
use Rattle.hprof_text.specs.Segments.{segment_records, end_record, records_from, pieces_of}
use Rattle.hprof_text.specs.Text.{sub_records}
use Rattle.hprof_text.proofs.PieceCounts.{pieces_within_piece_limit}
use Rattle.heap_pins.specs.Pin.{PinContents, places_seen, pin_image}
use Rattle.heap_pins.proofs.PinViews.{view_dumpable}
use Rattle.heap_trail.specs.declared.held.Held.{Held}
use Rattle.heap_trail.specs.declared.held.Held.TheVariants.{Kept, Lost}
use Rattle.heap_trail.specs.OpenPins.{IsGivenOf, CanGive, given_after, IsNextPiece, is_past, held_advanced, MayCount, HasGiven}

-- ---- the cursor is moved on

pub cursor_short_of_past : (cursor : Cursor) → (cursor ≡ Past → ⊥) → is_past cursor ≡ false
cursor_short_of_past Start n = refl
cursor_short_of_past (Item s k) n = refl
cursor_short_of_past (Object at) n = refl
cursor_short_of_past End n = refl
cursor_short_of_past Past n = absurd (n refl)

pub piece_moves_cursor_on : (to : Cursor) (h : Held) (place : ℕ) (pin : PinContents) (cursor : Cursor) (given : ℕ) → h ≡ Kept place pin cursor given → is_past cursor ≡ false → Kept place pin to (given + 1) ≡ held_advanced to h
unfolding held_advanced
piece_moves_cursor_on to h place pin cursor given is e = ap (λ b. if b then Kept place pin cursor given else Kept place pin to (given + 1)) (sym e) ∙ ap (held_advanced to) (sym is)

pub cursor_past_stays_past : (to : Cursor) (h : Held) (place : ℕ) (pin : PinContents) (cursor : Cursor) (given : ℕ) → h ≡ Kept place pin cursor given → is_past cursor ≡ true → Kept place pin cursor given ≡ held_advanced to h
unfolding held_advanced
cursor_past_stays_past to h place pin cursor given is e = ap (λ b. if b then Kept place pin cursor given else Kept place pin to (given + 1)) (sym e) ∙ ap (held_advanced to) (sym is)

-- ---- how many pieces there are

piece_count_of_a_dump : (ids : IdSize) (image : Image) (time : ℕ) → length (pieces_of ids image time) ≡ length (records_from (sub_records ids image)) + 1
unfolding pieces_of
piece_count_of_a_dump ids image time = omega arith

cursor_before_end_of_dump : (ids : IdSize) (image : Image) (rest : List (List ℕ)) (i : ℕ) → IsBefore ids image rest i → i < length (records_from (sub_records ids image)) + 1
cursor_before_end_of_dump ids image rest i b =
    let all = records_from (sub_records ids image) in
    let n : length (drop b.0 all) ≡ length (records_from rest) = ap length b.2 in
    omega (arith, b.1, n, length-drop b.0 all, length-append (segment_records rest) (end_record ∷ []))

cursor_within_the_pieces : (ids : IdSize) (image : Image) (places : List ObjRef) (cursor : Cursor) (i : ℕ) → IsAt ids image places cursor i → is_past cursor ≡ false → i < length (records_from (sub_records ids image)) + 1
cursor_within_the_pieces ids image places Start i at e = omega (arith, at)
cursor_within_the_pieces ids image places (Item s n) i at e = cursor_before_end_of_dump ids image at.0 i at.2
cursor_within_the_pieces ids image places (Object o) i at e = cursor_before_end_of_dump ids image at.0 i at.2
cursor_within_the_pieces ids image places End i at e = cursor_before_end_of_dump ids image at.0 i at.2
cursor_within_the_pieces ids image places Past i at e = cc

cursor_past_the_pieces : (ids : IdSize) (image : Image) (places : List ObjRef) (cursor : Cursor) (i : ℕ) → IsAt ids image places cursor i → is_past cursor ≡ true → length (records_from (sub_records ids image)) + 1 ≤ i
cursor_past_the_pieces ids image places Start i at e = cc
cursor_past_the_pieces ids image places (Item s n) i at e = cc
cursor_past_the_pieces ids image places (Object o) i at e = cc
cursor_past_the_pieces ids image places End i at e = cc
cursor_past_the_pieces ids image places Past i at e = at

pub pin_that_gives_may_count : (ids : IdSize) (w : HeapState) (h : Held) → CanGive ids w h → MayCount h
pin_that_gives_may_count ids w (Kept place pin cursor given) can =
    let few : length (pieces_of ids (pin_image pin w) 0) ≤ piece_limit = pieces_within_piece_limit ids (pin_image pin w) 0 (view_dumpable pin w can.0) in
    omega (arith, few, piece_count_of_a_dump ids (pin_image pin w) 0, can.1.1)
pin_that_gives_may_count ids w (Lost place cause) can = tt

-- ---- the next piece

given_count_goes_up : (given n : ℕ) → given < n → given + 1 ≡ given_after given n
unfolding given_after
given_count_goes_up given n lt = let e : nat_lt given n ≡ true = grind (arith, lt) in rw e refl

given_count_at_end_stays : (given n : ℕ) → n ≤ given → given ≡ given_after given n
unfolding given_after
given_count_at_end_stays given n le = let e : nat_lt given n ≡ false = grind (arith, le) in rw e refl

pub next_piece_was_given : (ids : IdSize) (w : HeapState) (time : ℕ) (piece : Piece) (next : Cursor) (h new : Held) → CanGive ids w h → IsNextPiece ids w time h piece next → new ≡ held_advanced next h → HasGiven ids w time piece h new
unfolding held_advanced
next_piece_was_given ids w time piece next (Kept place pin cursor given) new can is advanced = let g = go (is_past cursor) refl advanced in (is.0, g.0, g.1, g.2)
  where
    image : Image
    image = pin_image pin w

    places : List ObjRef
    places = places_seen pin w.regions

    Given : ℕ → Type 0
    Given more = (to : Cursor) × (new ≡ Kept place pin to more) × IsGivenOf ids image places to more

    go : (b : Bool) → is_past cursor ≡ b → new ≡ (if b then Kept place pin cursor given else Kept place pin next (given + 1)) → Given (given_after given (length (pieces_of ids image time)))
    go true e a =
        let end = cursor_past_the_pieces ids image places cursor given can.1.0 e in
        subst Given (given_count_at_end_stays given (length (pieces_of ids image time)) (omega (arith, end, piece_count_of_a_dump ids image time))) (cursor, a, can.1)
    go false e a =
        let lt = cursor_within_the_pieces ids image places cursor given can.1.0 e in
        subst Given (given_count_goes_up given (length (pieces_of ids image time)) (omega (arith, lt, piece_count_of_a_dump ids image time))) (next, a, (is.1, omega (arith, lt)))
next_piece_was_given ids w time piece next (Lost place cause) new can is advanced = absurd is
