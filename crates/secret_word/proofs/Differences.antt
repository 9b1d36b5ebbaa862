-- The differences between a line and a word, joined.
use Rattle.std.proofs.Common.{◌≡◌, ◌∙◌, ◌-◌, ℕ, ◌+◌, ◌<◌, ◌≤◌, List, ◌++◌, length, take, replicate, get_or, bit_or, bit_xor, sym, ap, inl, inr, arith, below_more, take-append-drop}
use Rattle.std.proofs.lemmas.List.{ext_get_or, get_or-append_right, get_or-replicate, get_or-take, get_or_past}
use Rattle.std.proofs.lemmas.Bool.{cases_lt}
use Rattle.std.proofs.lemmas.Nat.{and_le_l, and_le_r, le_or_l, le_or_r}
use Rattle.std.specs.Int.Bits.{or_zero_l, xor_self}
use lib.Bits.{xor_add_and}
use Rattle.secret_word.specs.WordRooms.{size_back}
use Rattle.secret_word.specs.Words.{IsWordRoom}

-- no difference, no bit
no_xor_bits_means_equal : (a b : ℕ) → bit_xor a b ≡ 0 → a ≡ b
no_xor_bits_means_equal a b none = omega (arith, xor_add_and a b, and_le_l a b, and_le_r a b, none)

-- a line of this size has the room's first bytes, or zeros where it has ended
abbrev pub SameUpTo : ℕ → ℕ → List ℕ → List ℕ → Type 0
SameUpTo place size line room =
    (length line ≡ size) × ((k : ℕ) → k < place → get_or line k 0 ≡ get_or room k 0)

-- there is a difference where it isn't the same
pub record IsDifference (place size : ℕ) (line room : List ℕ) (difference : ℕ) : Type 0 where
  pub same : difference ≡ 0 → SameUpTo place size line room
  pub none : SameUpTo place size line room → difference ≡ 0

pub difference_begins_with_sizes : (size : ℕ) (line room : List ℕ) → IsDifference 0 size line room (bit_xor (length line) size)
difference_begins_with_sizes size line room = record {
  same = λ z. (no_xor_bits_means_equal (length line) size z, λ k lt. absurd (omega (arith, lt)));
  none = λ s. ap (λ n. bit_xor n size) s.0 ∙ xor_self size;
}

pub difference_one_place_further : (place size : ℕ) (line room : List ℕ) (difference : ℕ) → IsDifference place size line room difference → IsDifference (place + 1) size line room (bit_or difference (bit_xor (get_or line place 0) (get_or room place 0)))
difference_one_place_further place size line room difference h =
    let here = bit_xor (get_or line place 0) (get_or room place 0) in
    record {
      same = λ z.
          let was = h.same (omega (arith, z, le_or_l difference here)) in
          (was.0, below_more _ _ was.1 (no_xor_bits_means_equal (get_or line place 0) (get_or room place 0) (omega (arith, z, le_or_r difference here))));
      none = λ s.
          ap (λ n. bit_or n here) (h.none (s.0, λ k lt. s.1 k (omega (arith, lt))))
          ∙ or_zero_l here
          ∙ ap (λ n. bit_xor n (get_or room place 0)) (s.1 place (omega arith))
          ∙ xor_self (get_or room place 0);
    }

-- ---- all 64 places

word_room_zero_behind_size : (size : ℕ) (room : List ℕ) → IsWordRoom size room → (k : ℕ) → size ≤ k → k < 64 → get_or room k 0 ≡ 0
word_room_zero_behind_size size room h k le lt =
    ap (λ l. get_or l k 0) (sym (take-append-drop size room) ∙ ap (λ l. take size room ++ l) h.zeros)
    ∙ get_or-append_right (take size room) (replicate (64 - size) 0) size k 0 (size_back size room h) le
    ∙ get_or-replicate (64 - size) (k - size) 0 0 (omega (arith, le, lt))

pub no_difference_means_word : (size : ℕ) (line room : List ℕ) (difference : ℕ) → IsWordRoom size room → IsDifference 64 size line room difference → difference ≡ 0 → line ≡ take size room
no_difference_means_word size line room difference h d z =
    let same = d.same z in
    ext_get_or 0 line (take size room) (same.0 ∙ sym (size_back size room h))
    (λ k lt. same.1 k (omega (arith, lt, same.0, h.most)) ∙ sym (get_or-take size room k 0 (omega (arith, lt, same.0))))

pub equal_word_has_no_difference : (size : ℕ) (line room : List ℕ) (difference : ℕ) → IsWordRoom size room → IsDifference 64 size line room difference → line ≡ take size room → difference ≡ 0
equal_word_has_no_difference size line room difference h d is =
    let at : length line ≡ size = ap length is ∙ size_back size room h in
    d.none (
      at,
      λ k lt.
          elim (cases_lt k size) [
            | inl below ↦ ap (λ l. get_or l k 0) is ∙ get_or-take size room k 0 below
            | inr behind ↦ get_or_past line k 0 (omega (arith, at, behind)) ∙ sym (word_room_zero_behind_size size room h k behind lt)
          ],
    )
