-- The lowest region of a class from a place on, by a search of the part from there.
use Rattle.std.proofs.Common.{◌≡◌, ℕ, ◌+◌, ◌-◌, ◌≤◌, List, length, take, drop, get_or, sym, ap, ◌∙◌, arith, eqb-true}
use Rattle.std.proofs.lemmas.Bool.{eq-eqb}
use Rattle.std.proofs.lemmas.List.{get_or-drop, length-drop, take_all}
use Rattle.memchr.specs.Find.{Nowhere, NoneBefore, Passes, is_byte}
use Rattle.heap_region.specs.Table.{IsLowest}

-- the part of a list that is searched
abbrev pub part : List ℕ → ℕ → List ℕ
part t from = take (length t - from) (drop from t)

part_of_bytes_is_drop : (t : List ℕ) (from : ℕ) → part t from ≡ drop from t
part_of_bytes_is_drop t from = take_all (length t - from) (drop from t) (omega (arith, length-drop from t))

byte_there : (t : List ℕ) (from i : ℕ) → get_or (part t from) i 0 ≡ get_or t (from + i) 0
byte_there t from i = ap (λ l. get_or l i 0) (part_of_bytes_is_drop t from) ∙ get_or-drop from t i 0

-- a place that has the class has it in the part
class_byte_passes_in_part : (t : List ℕ) (from class j : ℕ) → from ≤ j → get_or t j 0 ≡ class → Passes (is_byte class) (part t from) (j - from)
class_byte_passes_in_part t from class j le e =
    let same : from + (j - from) ≡ j = omega (arith, le) in
    eq-eqb (get_or (part t from) (j - from) 0) class (byte_there t from (j - from) ∙ (ap (λ i. get_or t i 0) same ∙ e))

pub class_not_found_in_part : (t : List ℕ) (from class : ℕ) → from ≤ length t → Nowhere (Passes (is_byte class) (part t from)) 0 (length (part t from)) → IsLowest t class from (length t)
class_not_found_in_part t from class within none =
    record {
      low = within;
      high = omega arith;
      before = λ j le lt e. none (j - from) (omega arith) (omega (arith, ap length (part_of_bytes_is_drop t from), length-drop from t, le, lt)) (class_byte_passes_in_part t from class j le e);
      there = λ lt. absurd (omega (arith, lt));
    }

pub first_byte_found_is_lowest : (t : List ℕ) (from class i : ℕ) → NoneBefore (Passes (is_byte class) (part t from)) 0 (length (part t from)) i × Passes (is_byte class) (part t from) i → IsLowest t class from (from + i)
first_byte_found_is_lowest t from class i found =
    record {
      low = omega arith;
      high = omega (arith, found.0.high, ap length (part_of_bytes_is_drop t from), length-drop from t);
      before = λ j le lt e. found.0.before (j - from) (omega arith) (omega (arith, le, lt)) (class_byte_passes_in_part t from class j le e);
      there = λ _. sym (byte_there t from i) ∙ eqb-true (get_or (part t from) i 0) class found.1;
    }
