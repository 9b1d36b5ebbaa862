-- The classes of an instance, from its own upwards.
use Rattle.std.proofs.Common.{◌≡◌, ℕ, suc, zero, ◌+◌, ◌-◌, ◌<◌, ◌≤◌, List, [], ◌++◌, length, Option, Some, None, IfSome, refl, sym, ap, ◌∙◌, append_assoc, arith}
use Rattle.std.proofs.lemmas.List.{append-nil}
use Rattle.heap_class.specs.declared.IdSize.{IdSize}
use Rattle.heap_class.specs.Classes.{fields_of, sup_of}
use Rattle.hprof_plan.specs.declared.planning.Plan.{Plan}
use Rattle.hprof_lines.specs.declared.values.SlotValue.{SlotValue}
use Rattle.hprof_lines.specs.Slots.{base_of, kinds_of, values_up}
use Rattle.hprof_lines.specs.Values.{fields_from, after_fields}

-- the values so far, and those from class `at` upwards, of as many classes as are left, are all
pub record IsUp (p : Plan) (ids : IdSize) (c count i : ℕ) (at : Option ℕ) (bytes : List ℕ) (slots all : List SlotValue) : Type 0 where
  pub below : IfSome at (λ k. k < length p.classes)
  pub left : slots ++ values_up p ids c (count - i) at bytes ≡ all

pub one_up : (p : Plan) (ids : IdSize) (c count i k : ℕ) (bytes : List ℕ) (slots all : List SlotValue) → i < count
    → IsUp p ids c count i (Some k) bytes slots all → IfSome (sup_of p.classes k) (λ s. s < k)
    → IsUp p ids c count (i + 1) (sup_of p.classes k) (after_fields ids (kinds_of p k) bytes) (slots ++ fields_from ids (length (fields_of p.classes k)) (base_of p c k) 0 (kinds_of p k) bytes) all
unfolding values_up
one_up p ids c count i k bytes slots all less so_far before =
    let e : count - i ≡ suc (count - (i + 1)) = omega (arith, less) in
    record {
      below = lower (sup_of p.classes k) before;
      left =
          append_assoc slots (fields_from ids (length (fields_of p.classes k)) (base_of p c k) 0 (kinds_of p k) bytes) (values_up p ids c (count - (i + 1)) (sup_of p.classes k) (after_fields ids (kinds_of p k) bytes))
          ∙ sym (ap (λ (n : ℕ). slots ++ values_up p ids c n (Some k) bytes) e) ∙ so_far.left;
    }
  where
    lower : (s : Option ℕ) → IfSome s (λ s. s < k) → IfSome s (λ s. s < length p.classes)
    lower None h = tt
    lower (Some s) h = omega (arith, so_far.below)

none_up : (p : Plan) (ids : IdSize) (c n : ℕ) (bytes : List ℕ) → values_up p ids c n None bytes ≡ []
unfolding values_up
none_up p ids c zero bytes = refl
none_up p ids c (suc n) bytes = refl

pub no_more_up : (p : Plan) (ids : IdSize) (c count i : ℕ) (bytes : List ℕ) (slots all : List SlotValue)
    → IsUp p ids c count i None bytes slots all → slots ≡ all
no_more_up p ids c count i bytes slots all so_far =
    sym (append-nil slots) ∙ sym (ap (λ (vs : List SlotValue). slots ++ vs) (none_up p ids c (count - i) bytes)) ∙ so_far.left

pub end_up : (p : Plan) (ids : IdSize) (c count i : ℕ) (at : Option ℕ) (bytes : List ℕ) (slots all : List SlotValue) → count ≤ i
    → IsUp p ids c count i at bytes slots all → slots ≡ all
unfolding values_up
end_up p ids c count i at bytes slots all past so_far =
    let e : count - i ≡ 0 = omega (arith, past) in
    sym (append-nil slots) ∙ sym (ap (λ (n : ℕ). slots ++ values_up p ids c n at bytes) e) ∙ so_far.left
