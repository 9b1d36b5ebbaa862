-- What stands between the dots of a word, from its front; and words of registers that aren't there.
use Rattle.std.proofs.Common.{◌≡◌, ◌∙◌, ◌+◌, ◌≤◌, ℕ, List, [], ◌∷◌, Some, None, take, drop, length, ap, refl, sym, arith}
use Rattle.std.specs.Prelude.{slice_get}
use Rattle.std.specs.Bool.{◌==◌}
use Rattle.std.specs.List.{position, position_or_len, slice_split}
use Rattle.std.proofs.lemmas.List.Splits.{slice_split_first, slice_split_none}
use Rattle.std.proofs.lemmas.List.Sums.{fails_before_first}
use Rattle.std.proofs.lemmas.Option.{slice_get_past}
use Rattle.heap_world.specs.State.{register_index}
use Rattle.session_grammar.proofs.TextWords.{no_position_past_end, position_found_within_list}
use Rattle.question_grammar.specs.Parts.{parts_of_word}

-- the first part ends at the first dot
pub first_part : (w : List ℕ) (n : ℕ) → Some n ≡ position (λ b. b == 46) w → parts_of_word w ≡ take n w ∷ parts_of_word (drop (n + 1) w)
first_part w n h =
    let at = position_found_within_list (position_or_len (λ b. b == 46) w) (length w) n _ refl h in
    slice_split_first (λ b. b == 46) w 0 at.0 ∙ ap (λ k. take k w ∷ slice_split (λ b. b == 46) (drop (k + 1) w)) (sym at.1)

-- without a dot the word is the one part
pub only_part : (w : List ℕ) → None ≡ position (λ b. b == 46) w → parts_of_word w ≡ w ∷ []
only_part w h =
    let all = no_position_past_end (position_or_len (λ b. b == 46) w) (length w) _ refl h in
    slice_split_none (λ b. b == 46) w (λ k d lt. fails_before_first (λ b. b == 46) w k d (omega (arith, all, lt)))

-- a mutator beyond all registers has none
pub no_register : (registers : List ℕ) (m r : ℕ) → length registers ≤ m → slice_get registers (register_index m r) ≡ None
no_register registers m r h = slice_get_past registers (register_index m r) (omega (arith, h))
