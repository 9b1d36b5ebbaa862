-- The events that define classes are sound.
use Rattle.std.proofs.Common.{List, Option, [], ap, false, refl, true, ℕ, ◌++◌, ◌∷◌, ◌≡◌, ◌⊎◌}
use mathlib.Core.Logic.{inl, inr}
use Rattle.heap_class.specs.Classes.{Class, array_class, instance_class}
use Rattle.heap_class.specs.declared.Field.{Field}
use Rattle.heap_world.proofs.ClassEvents.{clauses_after_new_class, class_spares}
use Rattle.heap_world.proofs.Clauses.{HasClauses}
use Rattle.heap_world.proofs.Shapes.{same_object_keeps_shape}
use Rattle.heap_world.proofs.Tricolour.{spares_sheltered}
use Rattle.heap_world.specs.Events.{after_class}
use Rattle.heap_world.specs.Legal.{IsMarked, Sheltered}
use Rattle.heap_world.specs.State.{HeapState}
use Rattle.heap_step.specs.Apply.{refusal_of, state_after}
use Rattle.heap_step.specs.Records.{undo_record, undone}
use Rattle.heap_step.specs.declared.Event.{Event}
use Rattle.heap_step.proofs.LastItems.{all_but_last, list_with_last_not_empty}
use Rattle.heap_step.proofs.Soundness.{IsSound}

-- a further class leaves what was found
class_found : (w : HeapState) (c : Class) → HasClauses w → (x : ℕ) → IsMarked w x ⊎ Sheltered w x → IsMarked (after_class c w) x ⊎ Sheltered (after_class c w) x
unfolding after_class
class_found w c l x (inl m) = inl m
class_found w c l x (inr s) = inr (spares_sheltered w (record w { classes = w.classes ++ c ∷ [] }) (class_spares w c l) x s)

pub class_sound : (name : List ℕ) (sup : Option ℕ) (fields : List Field) → IsSound (Event.Class name sup fields)
unfolding refusal_of state_after undo_record undone after_class
class_sound name sup fields = record {
  legal = λ w l accepted. clauses_after_new_class w (instance_class name sup fields) (λ e. let c : false ≡ true = e in cc) l accepted;
  back = λ w legal accepted. ap (λ l. record w { classes = l }) (all_but_last w.classes _);
  fits = λ w legal accepted. list_with_last_not_empty w.classes (instance_class name sup fields);
  found = λ w l accepted i j. class_found w (instance_class name sup fields) l;
  shape = λ w l accepted x live. same_object_keeps_shape w (after_class (instance_class name sup fields) w) x refl;
  run = λ w. inr;
}

pub array_class_sound : (name : List ℕ) → IsSound (Event.ArrayClass name)
unfolding refusal_of state_after undo_record undone after_class
array_class_sound name = record {
  legal = λ w l accepted. clauses_after_new_class w (array_class name) (λ e. (refl, refl)) l accepted;
  back = λ w legal accepted. ap (λ l. record w { classes = l }) (all_but_last w.classes _);
  fits = λ w legal accepted. list_with_last_not_empty w.classes (array_class name);
  found = λ w l accepted i j. class_found w (array_class name) l;
  shape = λ w l accepted x live. same_object_keeps_shape w (after_class (array_class name) w) x refl;
  run = λ w. inr;
}
