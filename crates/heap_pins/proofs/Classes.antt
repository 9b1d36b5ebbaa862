-- Classes stay, and registers and classes before a step.
use Rattle.std.proofs.Common.{◌≡◌, ℕ, zero, suc, ◌-◌, List, [], ◌∷◌, length, take, refl, ap, subst}
use Rattle.heap_world.specs.State.{HeapState}
use Rattle.heap_step.specs.declared.Undo.{Undo}
use Rattle.heap_step.specs.declared.Event.{Event}
use Rattle.heap_step.specs.Apply.{state_after}
use Rattle.heap_step.specs.Records.{undone, undo_record}
use Rattle.heap_step.specs.Laws.{IsRestored}
use Rattle.heap_pins.specs.Laws.{EventExtends, RecordExtends}
use Rattle.heap_pins.proofs.RecordCases.{records_by_lists_they_keep}

pub take_of_whole_list : {A : Type 0} (xs : List A) → take (length xs) xs ≡ xs
take_of_whole_list [] = refl
take_of_whole_list (x ∷ xs) = ap (λ ys. x ∷ ys) (take_of_whole_list xs)

take_of_length_of_taken : {A : Type 0} (n : ℕ) (xs : List A) → take (length (take n xs)) xs ≡ take n xs
take_of_length_of_taken zero [] = refl
take_of_length_of_taken zero (x ∷ xs) = refl
take_of_length_of_taken (suc n) [] = refl
take_of_length_of_taken (suc n) (x ∷ xs) = ap (λ ys. x ∷ ys) (take_of_length_of_taken n xs)

pub record_extends : (left : Undo) (v : HeapState) → RecordExtends left v
unfolding undone
record_extends left v = records_by_lists_they_keep (λ u. RecordExtends u v)
    (λ m r old. take_of_whole_list v.classes)
    (λ at fresh m r old. take_of_whole_list v.classes)
    (take_of_length_of_taken (length v.classes - 1) v.classes)
    (λ u k. rw (k.classes v) (take_of_whole_list v.classes))
    left

pub event_extends : (e : Event) (w : HeapState) → IsRestored e w → EventExtends e w
event_extends e w back legal accepted = subst (λ (u : HeapState). take (length u.classes) (state_after e w).classes ≡ u.classes) (back legal accepted) (record_extends (undo_record e w) (state_after e w))
