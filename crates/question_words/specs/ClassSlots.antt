-- The slots of the objects of a class.
use Rattle.std.specs.Prelude.{ℕ, Bool, true, not, nat_lt, List, length, slice_get, Option, Some, None, Result, Ok, Err, if◌then◌else◌}
use Rattle.heap_class.specs.declared.Kind.{Kind}
use Rattle.heap_class.specs.declared.Refusal.{Refusal}
use Rattle.heap_class.specs.declared.Refusal.TheVariants.{BadSlot, NoClass}
use Rattle.heap_questions.specs.declared.wanted.Wanted.{Wanted}
use Rattle.heap_questions.specs.declared.wanted.Wanted.TheVariants.{All, OfClass, Holding}
use Rattle.heap_class.specs.Kinds.{is_reference}
use Rattle.heap_class.specs.Classes.{Class, is_array_class, slots_of}

-- whether a slot of this kind holds a reference, if there is one
abbrev pub slot_or_none : Option Kind → Result Bool Refusal
slot_or_none (Some kind) = Ok (is_reference kind)
slot_or_none None = Err BadSlot

-- the refusal of a result, if it is one
abbrev pub refusal_in : {A : Type 0} → Result A Refusal → Option Refusal
refusal_in (Ok a) = None
refusal_in (Err e) = Some e

-- whether slot s of the objects of class k holds a reference, or why they have none; an array of references may have any slot
unfoldable pub class_slot : List Class → ℕ → ℕ → Result Bool Refusal
class_slot classes k s =
    if not (nat_lt k (length classes)) then Err NoClass
    else (if is_array_class classes k then Ok true
    else slot_or_none (slice_get (slots_of classes k) s))

-- why no objects can be listed, if they can't: the class isn't there, or its objects have no such slot
unfoldable pub wanted_refusal : List Class → Wanted → Option Refusal
wanted_refusal classes All = None
wanted_refusal classes (OfClass k) = if nat_lt k (length classes) then None else Some NoClass
wanted_refusal classes (Holding k s word) = refusal_in (class_slot classes k s)
