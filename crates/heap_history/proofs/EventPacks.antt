-- An event without lists is known by its numbers.
use Rattle.std.proofs.Common.{◌≡◌, ℕ, List, Option, Some, None, refl, sym, subst, ◌∙◌}
use Rattle.std.specs.Prelude.{IfSome}
use Rattle.heap_class.specs.declared.Field.{Field}
use Rattle.heap_class.specs.declared.Name.{Name}
use Rattle.heap_step.specs.declared.Event.{Event}
use Rattle.heap_step.specs.declared.Event.TheVariants.{Class, ArrayClass}
use Rattle.heap_trail.specs.declared.Action.TheVariants.{Step}
use Rattle.heap_history.specs.declared.pack.DeedPack.{DeedPack}
use Rattle.heap_history.specs.Packs.{action_by, action_in, event_pack}

-- only definitions of classes have none
pub event_without_pack_defines_class : (e : Event) → event_pack e ≡ None
    → ((name : Name) (sup : Option ℕ) (fields : List Field) → e ≡ Class name sup fields → ⊥) → ((name : Name) → e ≡ ArrayClass name → ⊥) → ⊥
event_without_pack_defines_class (Class name sup fields) is one other = one name sup fields refl
event_without_pack_defines_class (ArrayClass name) is one other = other name refl
event_without_pack_defines_class e is one other = cc

-- the numbers tell the event
pub pack_tells : (e : Event) → IfSome (event_pack e) (λ d. action_by d ≡ Step e)
unfolding action_in
pack_tells (Class name sup fields) = tt
pack_tells (ArrayClass name) = tt
pack_tells e = refl

pub event_pack_tells_step : (e : Event) (d : DeedPack) → event_pack e ≡ Some d → action_by d ≡ Step e
event_pack_tells_step e d is = subst (λ (o : Option DeedPack). IfSome o (λ d. action_by d ≡ Step e)) is (pack_tells e)

equal_steps_have_equal_events : (a b : Event) → Step a ≡ Step b → a ≡ b
equal_steps_have_equal_events a b e = cc

-- so two events with the same numbers are one
pub equal_packs_have_equal_events : (a b : Event) (d : DeedPack) → event_pack a ≡ Some d → event_pack b ≡ Some d → a ≡ b
equal_packs_have_equal_events a b d one other = equal_steps_have_equal_events a b (sym (event_pack_tells_step a d one) ∙ event_pack_tells_step b d other)
