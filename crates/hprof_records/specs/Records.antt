-- The records of a dump, as far as their heads tell.
use Rattle.std.specs.Prelude.{ℕ, ◌+◌, ◌==◌, ◌&&◌, Bool, false, List, [], ◌∷◌, ◌++◌, min, take, drop, length, nat_le, slice_index, if◌then◌else◌, zero, suc}
use Rattle.std.specs.Int.{w32, from_be_bytes}
use Rattle.hprof_records.specs.declared.scan.Scan.{Scan}
use Rattle.hprof_records.specs.declared.scan.Scan.TheVariants.{Within, Head, Ended, Broken}

-- the size of the header of a dump in bytes
abbrev pub header_size : ℕ
header_size = 31

-- the size of a record's head in bytes: its tag, time and length
abbrev pub head_size : ℕ
head_size = 9

-- the most bytes of a head that are kept
abbrev pub head_room : ℕ
head_room = 8

-- the tag of HEAP DUMP END
abbrev pub end_tag : ℕ
end_tag = 0x2c

-- the size of the body of the record that begins here: the last four bytes of its head
abbrev pub body_size : List ℕ → ℕ
body_size text =
    from_be_bytes w32
    (slice_index text 5 ∷ slice_index text 6 ∷ slice_index text 7 ∷ slice_index text 8 ∷ [])

-- these are at most `most` whole records, of which the last, and no other, is HEAP DUMP END, with an empty body
unfoldable pub are_records : ℕ → List ℕ → Bool
are_records zero text = false
are_records (suc most) text =
    nat_le head_size (length text) && (if slice_index text 0 == end_tag
    then (body_size text == 0) && (length text == head_size)
    else are_records most (drop (head_size + body_size text) text))

-- these are whole records up to HEAP DUMP END, which is the last
abbrev pub ends_in_records : List ℕ → Bool
ends_in_records text = are_records (length text) text

-- the text is a header and whole records up to HEAP DUMP END, which is the last
abbrev pub is_whole_dump : List ℕ → Bool
is_whole_dump text = ends_in_records (drop header_size text)

-- after what has come, these bytes make the dump whole
unfoldable pub completes : Scan → List ℕ → Bool
completes (Within left) rest = ends_in_records (drop left rest)
completes (Head front) rest =
    ends_in_records (take (min front.count head_room) front.bytes ++ rest)
completes Ended rest = length rest == 0
completes Broken rest = false
