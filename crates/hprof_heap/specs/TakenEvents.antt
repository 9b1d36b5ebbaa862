-- Events that a heap accepts, one after another.
use Rattle.std.specs.Prelude.{◌≡◌, ◌⊎◌, List, [], ◌∷◌, Some, None}
use Rattle.heap_class.specs.declared.Refusal.TheVariants.{HeapFull}
use Rattle.heap_world.specs.State.{HeapState}
use Rattle.heap_step.specs.declared.Event.{Event}
use Rattle.heap_step.specs.Apply.{refusal_of, state_after}

-- each of these events is accepted, one after another
abbrev pub AreTaken : List Event → HeapState → Type 0
AreTaken [] w = Unit {0}
AreTaken (e ∷ es) w = (refusal_of e w ≡ None) × AreTaken es (state_after e w)

-- each of these events is accepted, one after another, or the first that isn't is refused since the heap is full
abbrev pub AreTakenUnlessFull : List Event → HeapState → Type 0
AreTakenUnlessFull [] w = Unit {0}
AreTakenUnlessFull (e ∷ es) w =
    (refusal_of e w ≡ Some HeapFull)
    ⊎ ((refusal_of e w ≡ None) × AreTakenUnlessFull es (state_after e w))

-- the state after events that are accepted
abbrev pub state_after_all : List Event → HeapState → HeapState
state_after_all [] w = w
state_after_all (e ∷ es) w = state_after_all es (state_after e w)
