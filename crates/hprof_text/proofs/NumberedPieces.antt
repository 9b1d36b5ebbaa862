-- The pieces by number, and the cursors at them.
use Rattle.std.proofs.Common.{◌≡◌, ◌≢◌, ◌≤◌, ◌<◌, ℕ, zero, suc, ◌+◌, Bool, true, false, List, [], ◌∷◌, ◌++◌, length, drop, refl, sym, ap, ap₂, ◌∙◌, subst, inl, inr, arith, add-one, length-append}
use Rattle.std.specs.Prelude.{slice_get, slice_index_or, Option, Some, None, unwrap_or, nat_le, All}
use Rattle.std.proofs.lemmas.Option.{slice_get_past}
use Rattle.std.proofs.lemmas.List.Elements.{All-nil, All-head}
use Rattle.std.proofs.lemmas.Bool.Decides.{leb_tells}
use Rattle.std.proofs.lemmas.List.{length-drop}
use Rattle.heap_class.specs.declared.IdSize.{IdSize}
use Rattle.heap_class.specs.declared.ObjRef.{ObjRef}
use Rattle.hprof_text.specs.declared.Cursor.{Cursor}
use Rattle.hprof_text.specs.declared.Cursor.TheVariants.{Start, Item, Object, End, Past}
use Rattle.hprof_text.specs.declared.section.NumberedSection.TheVariants.{ClassDumps}
use Rattle.hprof_text.specs.declared.section.Section.{Section}
use Rattle.hprof_text.specs.declared.section.Section.TheVariants.{Numbered, Objects}
use Rattle.hprof_text.specs.declared.Piece.{Piece}
use Rattle.hprof_text.specs.Cursors.{IsAt, IsBefore, IsRest, from_item, sections_from}
use Rattle.hprof_text.specs.SegmentFilling.{body_filled, IsFilledTo}
use Rattle.hprof_text.specs.Image.{Image}
use Rattle.hprof_text.specs.Segments.{segments_of, segment_records, end_record, records_from, pieces_of, nth_piece, piece_of}
use Rattle.hprof_text.specs.Text.{record_of, opening_records, sub_records, records_in}
use Rattle.hprof_text.proofs.FilledSegments.{segment_record_then_others, filled_body_has_bytes, body_filled_with_no_records}
use Rattle.hprof_text.proofs.Loops.{drop_at_item_begins_with_it}
use Rattle.hprof_text.proofs.Sections.{HasBytes, records_from_item_have_bytes}

-- ---- cursors

pub records_of_rest_have_bytes : (ids : IdSize) (image : Image) (places : List ObjRef) (cursor : Cursor) (rest : List (List ℕ)) → IsRest ids image places cursor rest → All HasBytes rest
records_of_rest_have_bytes ids image places Start rest h = absurd h
records_of_rest_have_bytes ids image places (Item s n) rest h = subst (All HasBytes) (sym h) (records_from_item_have_bytes ids image (Numbered s) n)
records_of_rest_have_bytes ids image places (Object at) rest h = subst (All HasBytes) (sym h.2) (records_from_item_have_bytes ids image Objects h.0)
records_of_rest_have_bytes ids image places End rest h = subst (All HasBytes) (sym h) (All-nil HasBytes)
records_of_rest_have_bytes ids image places Past rest h = absurd h

-- a cursor that is neither before the first piece nor past the last stands where what is left of it begins
pub cursor_stands_where_rest_begins : (ids : IdSize) (image : Image) (places : List ObjRef) (cursor : Cursor) (rest : List (List ℕ)) (i : ℕ) → IsRest ids image places cursor rest → IsBefore ids image rest i → IsAt ids image places cursor i
cursor_stands_where_rest_begins ids image places Start rest i h b = absurd h
cursor_stands_where_rest_begins ids image places (Item s n) rest i h b = (rest, h, b)
cursor_stands_where_rest_begins ids image places (Object at) rest i h b = (rest, h, b)
cursor_stands_where_rest_begins ids image places End rest i h b = (rest, h, b)
cursor_stands_where_rest_begins ids image places Past rest i h b = absurd h

-- and where it stands, something of the dump is left
pub rest_begins_where_cursor_stands : (ids : IdSize) (image : Image) (places : List ObjRef) (cursor : Cursor) (i : ℕ) → cursor ≢ Start → cursor ≢ Past → IsAt ids image places cursor i → (rest : List (List ℕ)) × IsRest ids image places cursor rest × IsBefore ids image rest i
rest_begins_where_cursor_stands ids image places Start i s p h = absurd (s refl)
rest_begins_where_cursor_stands ids image places (Item s n) i _ p h = h
rest_begins_where_cursor_stands ids image places (Object at) i s p h = h
rest_begins_where_cursor_stands ids image places End i s p h = h
rest_begins_where_cursor_stands ids image places Past i s p h = absurd (p refl)

-- past the last piece is past it at each later number
pub cursor_past_last_stays_past : (ids : IdSize) (image : Image) (places : List ObjRef) (cursor : Cursor) (i j : ℕ) → cursor ≡ Past → i ≤ j → IsAt ids image places cursor i → IsAt ids image places cursor j
cursor_past_last_stays_past ids image places cursor i j e l h =
    let p : length (records_from (sub_records ids image)) + 1 ≤ i = subst (λ k. IsAt ids image places k i) e h in
    let q : IsAt ids image places Past j = omega (arith, p, l) in
    subst (λ k. IsAt ids image places k j) (sym e) q

-- ---- what is left after a filling

pub body_filled_to_cursor : (ids : IdSize) (image : Image) (places : List ObjRef) (rest : List (List ℕ)) (cursor : Cursor) (old new : List ℕ) (left : List (List ℕ)) → body_filled old rest ≡ (new, left) → IsRest ids image places cursor left → IsFilledTo ids image places rest cursor old new
body_filled_to_cursor ids image places rest cursor old new left e r = (sym (ap (λ p. p.0) e), subst (IsRest ids image places cursor) (sym (ap (λ p. p.1) e)) r)

pub body_filled_to_same_cursor : (ids : IdSize) (image : Image) (places : List ObjRef) (rest others : List (List ℕ)) (cursor : Cursor) (old now new : List ℕ) → body_filled old rest ≡ body_filled now others → IsFilledTo ids image places others cursor now new → IsFilledTo ids image places rest cursor old new
body_filled_to_same_cursor ids image places rest others cursor old now new e f = (f.0 ∙ ap (λ p. p.0) (sym e), subst (IsRest ids image places cursor) (ap (λ p. p.1) (sym e)) f.1)

-- no section is left
pub body_filled_to_end : (ids : IdSize) (image : Image) (places : List ObjRef) (rest : List (List ℕ)) (next : Option Section) (old now : List ℕ) → next ≡ None → body_filled old rest ≡ body_filled now (records_in ids image (sections_from next)) → IsFilledTo ids image places rest End old now
body_filled_to_end ids image places rest next old now e h =
    let end = ap (λ s. body_filled now (records_in ids image (sections_from s))) e in
    body_filled_to_cursor ids image places rest End old now [] (h ∙ end ∙ body_filled_with_no_records now) refl

-- ---- a piece by its number

abbrev pub piece_with : List ℕ → Bool → Piece
piece_with bytes last = record { bytes = bytes; last = last }

piece_number_below_count : (n i : ℕ) → i < n → nat_le n i ≡ false
piece_number_below_count n i h = elim (leb_tells n i) [ inl p ↦ absurd (omega (arith, p.1, h)) | inr p ↦ p.0 ]

piece_number_at_count : (n i : ℕ) → n ≤ i → nat_le n i ≡ true
piece_number_at_count n i h = elim (leb_tells n i) [ inl p ↦ p.0 | inr p ↦ absurd (omega (arith, p.1, h)) ]

numbered_piece_of_item : (i : ℕ) (pieces : List (List ℕ)) (bytes : List ℕ) (last : Bool) → slice_get pieces i ≡ Some bytes → nat_le (length pieces) (i + 1) ≡ last → nth_piece i pieces ≡ piece_with bytes last
unfolding nth_piece
numbered_piece_of_item i pieces bytes last g l = ap₂ (λ o b. piece_with (unwrap_or o []) b) g l

first_of_dropped_is_item : (xs : List (List ℕ)) (m : ℕ) (x : List ℕ) (more : List (List ℕ)) → drop m xs ≡ x ∷ more → slice_get xs m ≡ Some x
first_of_dropped_is_item [] zero x more e = absurd (cc)
first_of_dropped_is_item [] (suc m) x more e = absurd (cc)
first_of_dropped_is_item (y ∷ ys) zero x more e = ap Some (ap (λ l. slice_index_or l 0 y) e)
first_of_dropped_is_item (y ∷ ys) (suc m) x more e = first_of_dropped_is_item ys m x more e

length_from_dropped_rest : (xs : List (List ℕ)) (m : ℕ) (x : List ℕ) (more : List (List ℕ)) → drop m xs ≡ x ∷ more → length xs ≡ m + 1 + length more
length_from_dropped_rest xs m x more e = omega (arith, ap length e, length-drop m xs)

drop_one_record_further : (xs : List (List ℕ)) (m : ℕ) (x : List ℕ) (more : List (List ℕ)) → drop m xs ≡ x ∷ more → drop (m + 1) xs ≡ more
drop_one_record_further xs m x more e = ap (drop 1) (sym (drop_at_item_begins_with_it xs m x (first_of_dropped_is_item xs m x more e)) ∙ e)

pub first_piece_is_opening_records : (ids : IdSize) (image : Image) (time : ℕ) (bytes : List ℕ) → bytes ≡ opening_records ids image time → piece_with bytes false ≡ piece_of ids image time 0
unfolding piece_of pieces_of
first_piece_is_opening_records ids image time bytes e =
    let rest = records_from (sub_records ids image) in
    let n : length rest ≡ length (segment_records (sub_records ids image)) + 1 = length-append (segment_records (sub_records ids image)) (end_record ∷ []) in
    ap (λ b. piece_with b false) e ∙ sym (numbered_piece_of_item 0 (opening_records ids image time ∷ rest) (opening_records ids image time) false refl (piece_number_below_count (length (opening_records ids image time ∷ rest)) (0 + 1) (omega (arith, n))))

-- piece m + 1, where the records from number m on are these
piece_after_records_dropped : (ids : IdSize) (image : Image) (time m : ℕ) (x : List ℕ) (more : List (List ℕ)) (last : Bool) → drop m (records_from (sub_records ids image)) ≡ x ∷ more → nat_le (m + 2 + length more) (m + 2) ≡ last → piece_with x last ≡ piece_of ids image time (m + 1)
unfolding piece_of pieces_of
piece_after_records_dropped ids image time m x more last e l =
    let rest = records_from (sub_records ids image) in
    let all = opening_records ids image time ∷ rest in
    let n : length all ≡ m + 2 + length more = omega (arith, length_from_dropped_rest rest m x more e) in
    let s : suc m + 1 ≡ m + 2 = omega arith in
    sym (numbered_piece_of_item (suc m) all x last (first_of_dropped_is_item rest m x more e) (ap₂ nat_le n s ∙ l)) ∙ ap (λ k. nth_piece k all) (sym (add-one m))

-- ---- the next piece, where these sub-records are left

records_of_nothing_are_end : records_from [] ≡ end_record ∷ []
unfolding segment_records segments_of
records_of_nothing_are_end = refl

end_record_is_last_piece : (ids : IdSize) (image : Image) (time m : ℕ) → drop m (records_from (sub_records ids image)) ≡ end_record ∷ [] → piece_with (record_of 0x2c []) true ≡ piece_of ids image time (m + 1)
unfolding end_record
end_record_is_last_piece ids image time m d = piece_after_records_dropped ids image time m (record_of 0x2c []) [] true d (piece_number_at_count (m + 2 + 0) (m + 2) (omega arith))

-- what the next piece is, and where the one after it stands, by the body that a segment got of them
pub record IsNext (ids : IdSize) (image : Image) (rest : List (List ℕ)) (i : ℕ) (body : List ℕ) : Type 0 where
  pub segment : 0 < length body → ((time : ℕ) → piece_with (record_of 0x1c body) false ≡ piece_of ids image time i) × IsBefore ids image (body_filled [] rest).1 (i + 1)
  pub end : length body ≡ 0 → ((time : ℕ) → piece_with (record_of 0x2c body) true ≡ piece_of ids image time i) × (length (records_from (sub_records ids image)) + 1 ≤ i + 1)

pub filled_body_is_next_piece : (ids : IdSize) (image : Image) (rest : List (List ℕ)) (i : ℕ) (body : List ℕ) → All HasBytes rest → body ≡ (body_filled [] rest).0 → IsBefore ids image rest i → IsNext ids image rest i body
filled_body_is_next_piece ids image [] i body h e b =
    let z : body ≡ [] = e ∙ ap (λ p. p.0) (body_filled_with_no_records []) in
    let d : drop b.0 (records_from (sub_records ids image)) ≡ end_record ∷ [] = b.2 ∙ records_of_nothing_are_end in
    record {
      segment = λ s. absurd (omega (arith, s, ap length z));
      end = λ n. (
        λ time. ap (λ l. piece_with (record_of 0x2c l) true) z ∙ end_record_is_last_piece ids image time b.0 d ∙ ap (piece_of ids image time) (sym b.1),
        omega (arith, b.1, length_from_dropped_rest (records_from (sub_records ids image)) b.0 end_record [] d),
      );
    }
filled_body_is_next_piece ids image (x ∷ xs) i body h e b =
    let some : 0 < length x = All-head HasBytes x xs h in
    let f = body_filled [] (x ∷ xs) in
    let d : drop b.0 (records_from (sub_records ids image)) ≡ record_of 0x1c f.0 ∷ records_from f.1 = b.2 ∙ ap (λ l. l ++ end_record ∷ []) (segment_record_then_others x xs some) in
    let n : length (records_from f.1) ≡ length (segment_records f.1) + 1 = length-append (segment_records f.1) (end_record ∷ []) in
    record {
      segment = λ s. (
        λ time. ap (λ l. piece_with (record_of 0x1c l) false) e ∙ piece_after_records_dropped ids image time b.0 (record_of 0x1c f.0) (records_from f.1) false d (piece_number_below_count (b.0 + 2 + length (records_from f.1)) (b.0 + 2) (omega (arith, n))) ∙ ap (piece_of ids image time) (sym b.1),
        (b.0 + 1, (let k : i + 1 ≡ b.0 + 1 + 1 = omega (arith, b.1) in k), drop_one_record_further (records_from (sub_records ids image)) b.0 (record_of 0x1c f.0) (records_from f.1) d),
      );
      end = λ z. absurd (omega (arith, z, ap length e, filled_body_has_bytes x xs some));
    }

-- by what an empty segment was filled to, from a cursor on
pub next_body_filled_from_cursor : (ids : IdSize) (image : Image) (places : List ObjRef) (cursor next : Cursor) (rest : List (List ℕ)) (i : ℕ) (begun body : List ℕ) → begun ≡ [] → IsRest ids image places cursor rest → IsFilledTo ids image places rest next begun body → IsBefore ids image rest i
    → IsNext ids image rest i body × IsRest ids image places next (body_filled [] rest).1
next_body_filled_from_cursor ids image places cursor next rest i begun body empty r filled b =
    let f = subst (λ s. IsFilledTo ids image places rest next s body) empty filled in
    (filled_body_is_next_piece ids image rest i body (records_of_rest_have_bytes ids image places cursor rest r) f.0 b, f.1)

-- ---- the ends

-- the first sub-record is that of the first section's first item that has one
pub first_item_stands_at_one : (ids : IdSize) (image : Image) (places : List ObjRef) → IsAt ids image places (Item ClassDumps 0) 1
unfolding sub_records
first_item_stands_at_one ids image places = (from_item ids image (Numbered ClassDumps) 0, refl, (0, refl, refl))

pub piece_past_last_is_empty : (ids : IdSize) (image : Image) (time i : ℕ) (bytes : List ℕ) → bytes ≡ [] → length (records_from (sub_records ids image)) + 1 ≤ i → piece_with bytes true ≡ piece_of ids image time i
unfolding piece_of pieces_of nth_piece
piece_past_last_is_empty ids image time i bytes e h =
    let all = opening_records ids image time ∷ records_from (sub_records ids image) in
    let n : length all ≤ i = omega (arith, h) in
    ap (λ b. piece_with b true) e ∙ sym (ap₂ (λ o b. piece_with (unwrap_or o []) b) (slice_get_past all i n) (piece_number_at_count (length all) (i + 1) (omega (arith, n))))

-- nothing is left at the end
pub nothing_filled_at_end : (ids : IdSize) (image : Image) (places : List ObjRef) (rest : List (List ℕ)) (body : List ℕ) → rest ≡ [] → IsFilledTo ids image places rest End body body
nothing_filled_at_end ids image places rest body e = body_filled_to_cursor ids image places rest End body body [] (ap (body_filled body) e ∙ body_filled_with_no_records body) refl
