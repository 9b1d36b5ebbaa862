-- Long deeds of events.
use Rattle.std.proofs.Common.{◌≡◌, ℕ, true, List, [], append-nil, length, refl, sym, ap, ◌∙◌}
use Rattle.std.specs.Prelude.{Option, Some, nat_le}
use Rattle.heap_class.specs.declared.Field.{Field}
use Rattle.heap_step.specs.declared.Event.{Event}
use Rattle.heap_step.specs.declared.Event.TheVariants.{Class, ArrayClass}
use Rattle.heap_trail.specs.declared.Action.TheVariants.{Step}
use Rattle.heap_history.specs.declared.definition.Definition.{Definition}
use Rattle.heap_history.specs.declared.pack.DeedPack.{DeedPack}
use Rattle.heap_history.specs.declared.pack.LongDeed.TheVariants as LongDeeds
use Rattle.heap_history.specs.Definitions.{fields_of, name_of}
use Rattle.heap_history.specs.Kept.{is_kept_event, is_short, letter_room}
use Rattle.heap_history.specs.Packs.{event_pack, long_action}
use Rattle.heap_history.proofs.EventPacks.{event_pack_tells_step}

pub class_kept : (e : Event) (name : List ℕ) (sup : Option ℕ) (fields : List Field) (d : Definition) → e ≡ Class name sup fields → is_short name fields ≡ true → name_of d ≡ name → fields_of d ≡ fields
    → (is_kept_event e ≡ true) × (long_action (LongDeeds.Class sup d) ≡ Step e)
unfolding long_action
class_kept e name sup fields d is short named told = (ap is_kept_event is ∙ short, (λ i. Step (Class (named i) sup (told i))) ∙ ap Step (sym is))

pub array_class_kept : (e : Event) (name : List ℕ) (d : Definition) → e ≡ ArrayClass name → is_short name [] ≡ true → name_of d ≡ name
    → (is_kept_event e ≡ true) × (long_action (LongDeeds.ArrayClass d) ≡ Step e)
unfolding long_action
array_class_kept e name d is short named = (
  ap is_kept_event is ∙ ap (λ l. nat_le (length l) letter_room) (sym (append-nil name)) ∙ short,
  ap (λ n. Step (ArrayClass n)) named ∙ ap Step (sym is),
)

event_kept : (e : Event) (d : DeedPack) → event_pack e ≡ Some d → is_kept_event e ≡ true
event_kept (Class name sup fields) d is = absurd (cc)
event_kept (ArrayClass name) d is = absurd (cc)
event_kept e d is = refl

pub packed_event_is_kept : (e : Event) (d : DeedPack) → event_pack e ≡ Some d → (is_kept_event e ≡ true) × (long_action (LongDeeds.Numbers d) ≡ Step e)
unfolding long_action
packed_event_is_kept e d is = (event_kept e d is, event_pack_tells_step e d is)
