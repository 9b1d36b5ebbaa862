-- The classes of a second dump that were looked at, in memory.
use Rattle.std.specs.Prelude.{◌≡◌, ◌≤◌, ℕ, List, [], ◌∷◌, ◌++◌, drop, length, map, Option}
use Rattle.heap_class.specs.Classes.{Class}
use Rattle.hprof_plan.specs.Accepted.{class_lines}
use Rattle.hprof_pair.specs.declared.joined_classes.JoinedClasses.{JoinedClasses}
use Rattle.hprof_pair.specs.JoinedClasses.{Joined, class_line}

-- these are the classes of the heap, of which those of the first dump are `first`, with their lines and the lines of the others,
-- and the numbers of the second dump's classes
pub record AreJoined (first : List Class) (j : JoinedClasses) (s : Joined) : Type 0 where
  pub classes : j.classes ≡ s.classes
  pub known : j.known.items ≡ map class_line s.classes
  pub text : j.text.items ≡ class_lines (drop (length first) s.classes)
  pub numbers : j.numbers.items ≡ s.numbers
  pub few : length first ≤ length s.classes

-- a further class was defined or not, and this number is the last of these; the numbers before it are still those in memory
pub record IsDefinedAs (first : List Class) (before : List (Option ℕ)) (number : Option ℕ) (j : JoinedClasses) (s : Joined) : Type 0 where
  pub classes : j.classes ≡ s.classes
  pub known : j.known.items ≡ map class_line s.classes
  pub text : j.text.items ≡ class_lines (drop (length first) s.classes)
  pub numbers : j.numbers.items ≡ before
  pub few : length first ≤ length s.classes
  pub last : s.numbers ≡ before ++ number ∷ []
