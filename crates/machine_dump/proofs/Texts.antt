-- Pieces from the first on are a beginning of the text.
use Rattle.std.proofs.Common.{◌≡◌, ℕ, zero, suc, ◌+◌, ◌≤◌, true, false, List, [], ◌∷◌, ◌++◌, length, drop, map, refl, sym, ap, ◌∙◌, arith, Some, append_assoc}
use Rattle.std.specs.Prelude.{slice_get, unwrap_or}
use Rattle.std.specs.List.{concat, range_with_len}
use Rattle.std.proofs.lemmas.List.{append-nil}
use Rattle.std.proofs.lemmas.Bool.{leb-true}
use Rattle.heap_class.specs.declared.IdSize.{IdSize}
use Rattle.hprof_text.specs.Image.{Image}
use Rattle.hprof_text.specs.declared.Piece.{Piece}
use Rattle.hprof_text.specs.Segments.{pieces_of, dump_text, piece_of, nth_piece}
use Rattle.hprof_text.proofs.JoinedPieces.{pieces_join_to_dump}
use Rattle.dump_pump.specs.Pumps.{joined, ends}
use Rattle.heap_trail.specs.Pins.{Kept}
use Rattle.heap_trail.specs.Machine.{Machine}
use Rattle.machine_dump.specs.HandedPieces.{given_of, pieces_at, handed}
use Rattle.machine_dump.specs.PinDumps.{AreText}
use Rattle.heap_trail.proofs.GivenText.{no_pieces_left_to_drop}

abbrev numbered_pieces_in_range : List (List ℕ) → ℕ → ℕ → List Piece
numbered_pieces_in_range ps first n = map (λ k. nth_piece k ps) (range_with_len first n)

-- a piece and those after it
piece_text_and_later_pieces : (ps : List (List ℕ)) (g : ℕ) → unwrap_or (slice_get ps g) [] ++ concat (drop (suc g) ps) ≡ concat (drop g ps)
piece_text_and_later_pieces [] zero = refl
piece_text_and_later_pieces [] (suc g) = refl
piece_text_and_later_pieces (x ∷ xs) zero = refl
piece_text_and_later_pieces (x ∷ xs) (suc g) = piece_text_and_later_pieces xs g

-- pieces and those after them
piece_range_and_later_pieces : (ps : List (List ℕ)) (first n : ℕ) → joined (numbered_pieces_in_range ps first n) ++ concat (drop (first + n) ps) ≡ concat (drop first ps)
unfolding nth_piece
piece_range_and_later_pieces ps first zero =
    let e : first + 0 ≡ first = omega arith in
    ap (λ k. concat (drop k ps)) e
piece_range_and_later_pieces ps first (suc n) =
    let e : first + suc n ≡ first + 1 + n = omega arith in
    let s : first + 1 ≡ suc first = omega arith in
    let piece : List ℕ = unwrap_or (slice_get ps first) [] in
    ap (λ k. piece ++ joined (numbered_pieces_in_range ps (first + 1) n) ++ concat (drop k ps)) e
    ∙ append_assoc piece (joined (numbered_pieces_in_range ps (first + 1) n)) (concat (drop (first + 1 + n) ps))
    ∙ ap (λ l. piece ++ l) (piece_range_and_later_pieces ps (first + 1) n)
    ∙ ap (λ k. piece ++ concat (drop k ps)) s
    ∙ piece_text_and_later_pieces ps first

-- the last of these is marked so only if none is left
marked_last_leaves_no_piece : (ps : List (List ℕ)) (first n : ℕ) → ends (numbered_pieces_in_range ps first n) ≡ true → length ps ≤ first + n
unfolding nth_piece
marked_last_leaves_no_piece ps first zero e = absurd (clash e)
  where
    clash : false ≡ true → ⊥
    clash e = cc
marked_last_leaves_no_piece ps first (suc zero) e = leb-true (length ps) (first + 1) e
marked_last_leaves_no_piece ps first (suc (suc n)) e = let le = marked_last_leaves_no_piece ps (first + 1) (suc n) e in omega (arith, le)

-- in a pin's terms
handed_pieces_begin_dump : (ids : IdSize) (image : Image) (time place count : ℕ) → joined (pieces_at ids time 0 count (Some (Kept place image 0))) ++ concat (drop (0 + count) (pieces_of ids image time)) ≡ dump_text ids image time
unfolding piece_of
handed_pieces_begin_dump ids image time place count = piece_range_and_later_pieces (pieces_of ids image time) 0 count ∙ pieces_join_to_dump ids image time

handed_pieces_are_whole_dump : (ids : IdSize) (image : Image) (time place count : ℕ) → ends (pieces_at ids time 0 count (Some (Kept place image 0))) ≡ true → joined (pieces_at ids time 0 count (Some (Kept place image 0))) ≡ dump_text ids image time
unfolding piece_of
handed_pieces_are_whole_dump ids image time place count e =
    let all : drop (0 + count) (pieces_of ids image time) ≡ [] = no_pieces_left_to_drop (pieces_of ids image time) (0 + count) (marked_last_leaves_no_piece (pieces_of ids image time) 0 count e) in
    let given : List ℕ = joined (numbered_pieces_in_range (pieces_of ids image time) 0 count) in
    sym (append-nil given) ∙ ap (λ l. given ++ concat l) (sym all) ∙ handed_pieces_begin_dump ids image time place count

pub pin_pieces_are_text : (m : Machine) (pin time count : ℕ) → AreText m pin time count
pin_pieces_are_text m pin time count place image here =
    let now : handed m pin time count ≡ pieces_at m.ids time 0 count (Some (Kept place image 0)) = ap (λ s. pieces_at m.ids time (given_of s) count s) here in (
      (
        concat (drop (0 + count) (pieces_of m.ids image time)),
        ap (λ l. joined l ++ concat (drop (0 + count) (pieces_of m.ids image time))) now ∙ handed_pieces_begin_dump m.ids image time place count,
      ),
      λ e. ap joined now ∙ handed_pieces_are_whole_dump m.ids image time place count (sym (ap ends now) ∙ e),
    )
