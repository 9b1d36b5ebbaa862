-- Which objects are listed.
use Rattle.std.specs.Prelude.{ℕ, Bool, true, false, ◌==◌, ◌&&◌, List, slice_get}
use Rattle.std.specs.Option.{option_map_or}
use Rattle.heap_class.specs.declared.ObjKind.{ObjKind}
use Rattle.heap_class.specs.declared.ObjKind.TheVariants.{Instance, Array, Prim}
use Rattle.heap_questions.specs.declared.wanted.Wanted.{Wanted}
use Rattle.heap_questions.specs.declared.wanted.Wanted.TheVariants.{All, OfClass, Holding}

-- an object of this kind is one of class k, an instance or an array
abbrev pub is_of_class : ObjKind → ℕ → Bool
is_of_class (Instance own) k = own == k
is_of_class (Array own) k = own == k
is_of_class (Prim kind) k = false

-- these words have a slot s, which holds this word
abbrev pub holds : List ℕ → ℕ → ℕ → Bool
holds words s word = option_map_or (λ w. w == word) (slice_get words s) false

-- an object of this kind with these words is listed
abbrev pub is_wanted : Wanted → ObjKind → List ℕ → Bool
is_wanted All kind words = true
is_wanted (OfClass k) kind words = is_of_class kind k
is_wanted (Holding k s word) kind words = is_of_class kind k && holds words s word
