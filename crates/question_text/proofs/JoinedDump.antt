-- Pieces joined, one after another.
use Rattle.std.proofs.Common.{◌≡◌, ℕ, zero, suc, ◌+◌, ◌<◌, ◌≤◌, true, false, List, [], ◌∷◌, ◌++◌, length, drop, refl, sym, ap, ◌∙◌, arith, append_assoc}
use Rattle.std.specs.Prelude.{slice_get, unwrap_or}
use Rattle.std.specs.List.{concat}
use Rattle.std.proofs.lemmas.List.{append-nil, drop_all}
use Rattle.std.proofs.lemmas.Bool.{leb-false, leb-true}
use Rattle.heap_class.specs.declared.IdSize.{IdSize}
use Rattle.hprof_text.specs.Image.{Image}
use Rattle.hprof_text.specs.declared.Piece.{Piece}
use Rattle.hprof_text.specs.Segments.{pieces_of, dump_text, piece_of, nth_piece}
use Rattle.hprof_text.proofs.JoinedPieces.{pieces_join_to_dump}

-- a piece and those after it
one_more : (ps : List (List ℕ)) (g : ℕ)
    → unwrap_or (slice_get ps g) [] ++ concat (drop (suc g) ps) ≡ concat (drop g ps)
one_more [] zero = refl
one_more [] (suc g) = refl
one_more (x ∷ xs) zero = refl
one_more (x ∷ xs) (suc g) = one_more xs g

-- a text, and the pieces from this one on, are the dump
abbrev pub IsFront : IdSize → Image → ℕ → ℕ → List ℕ → Type 0
IsFront ids image time i text =
    text ++ concat (drop i (pieces_of ids image time)) ≡ dump_text ids image time

pub front_first : (ids : IdSize) (image : Image) (time : ℕ) (text : List ℕ) → text ≡ []
    → IsFront ids image time 0 text
front_first ids image time text e =
    ap (λ t. t ++ concat (pieces_of ids image time)) e ∙ pieces_join_to_dump ids image time

pub front_more : (ids : IdSize) (image : Image) (time i : ℕ) (text bytes more : List ℕ)
    → IsFront ids image time i text → bytes ≡ (piece_of ids image time i).bytes
    → more ≡ text ++ bytes → IsFront ids image time (i + 1) more
unfolding piece_of nth_piece
front_more ids image time i text bytes more front is e =
    let ps : List (List ℕ) = pieces_of ids image time in
    let s : i + 1 ≡ suc i = omega arith in
    ap (λ l. l ++ concat (drop (i + 1) ps)) e
    ∙ append_assoc text bytes (concat (drop (i + 1) ps))
    ∙ ap (λ l. text ++ (l ++ concat (drop (i + 1) ps))) is
    ∙ ap (λ k. text ++ (unwrap_or (slice_get ps i) [] ++ concat (drop k ps))) s
    ∙ ap (λ l. text ++ l) (one_more ps i)
    ∙ front

front_all : (ids : IdSize) (image : Image) (time i : ℕ) (text : List ℕ) → IsFront ids image time i text
    → length (pieces_of ids image time) ≤ i → text ≡ dump_text ids image time
front_all ids image time i text front le =
    sym (append-nil text)
    ∙ ap (λ l. text ++ concat l) (sym (drop_all i (pieces_of ids image time) le)) ∙ front

pub front_last : (ids : IdSize) (image : Image) (time i : ℕ) (text : List ℕ) (p : Piece)
    → IsFront ids image time (i + 1) text → p ≡ piece_of ids image time i → p.last ≡ true
    → text ≡ dump_text ids image time
unfolding piece_of nth_piece
front_last ids image time i text p front is last =
    front_all ids image time (i + 1) text front
    (leb-true (length (pieces_of ids image time)) (i + 1)
    (sym (ap (λ (q : Piece). q.last) is) ∙ last))

-- a dump has a first piece
pub some_piece : (ids : IdSize) (image : Image) (time : ℕ) → 0 < length (pieces_of ids image time)
unfolding pieces_of
some_piece ids image time = omega arith

-- a piece that isn't the last has one after it
pub one_after : (ids : IdSize) (image : Image) (time i : ℕ) (p : Piece) → p ≡ piece_of ids image time i → p.last ≡ false
    → i + 1 < length (pieces_of ids image time)
unfolding piece_of nth_piece
one_after ids image time i p is last =
    leb-false (length (pieces_of ids image time)) (i + 1)
    (sym (ap (λ (q : Piece). q.last) is) ∙ last)
