-- The values of bytes are in the range of their kinds.
use Rattle.std.proofs.Common.{◌≡◌, ℕ, zero, suc, ◌+◌, ◌*◌, ◌<◌, ◌≤◌, true, false, List, [], ◌∷◌, ◌++◌, length, take, drop, Some, arith}
use Rattle.std.specs.Prelude.{fold, slice_get}
use Rattle.std.proofs.lemmas.List.{length-take}
use Rattle.heap_class.specs.declared.IdSize.{IdSize}
use Rattle.heap_class.specs.declared.Kind.{Kind}
use Rattle.heap_class.specs.declared.Kind.TheVariants.{Boolean, Char, Float, Double, Byte, Short, Int, Long}
use Rattle.heap_class.specs.declared.ObjKind.{ObjKind}
use Rattle.heap_class.specs.declared.ObjKind.TheVariants.{Array, Prim}
use Rattle.heap_class.specs.Classes.{Class, slot_kinds_of}
use Rattle.heap_class.specs.Kinds.{is_reference, value_limit, width_of}
use Rattle.hprof_lines.specs.Objects.{shown}
use Rattle.hprof_lines.specs.Values.{elements_from, number_in, with_byte}
use Rattle.hprof_heap.proofs.Premises.{AreBytes}
use Rattle.hprof_heap.proofs.MakingRuns.{FitSlots, copies_are_there}

-- ---- bytes

pub later_bytes : (b : ℕ) (bytes : List ℕ) → AreBytes (b ∷ bytes) → AreBytes bytes
later_bytes b bytes h i = h (suc i)

pub bytes_behind : (xs ys : List ℕ) → AreBytes (xs ++ ys) → AreBytes ys
bytes_behind [] ys h = h
bytes_behind (x ∷ xs) ys h = bytes_behind xs ys (later_bytes x (xs ++ ys) h)

pub bytes_before : (xs ys : List ℕ) → AreBytes (xs ++ ys) → AreBytes xs
bytes_before [] ys h i = omega arith
bytes_before (x ∷ xs) ys h zero = h 0
bytes_before (x ∷ xs) ys h (suc i) = bytes_before xs ys (later_bytes x (xs ++ ys) h) i

pub left_bytes_are_bytes : (n : ℕ) (bytes : List ℕ) → AreBytes bytes → AreBytes (drop n bytes)
left_bytes_are_bytes zero bytes h = h
left_bytes_are_bytes (suc n) [] h = h
left_bytes_are_bytes (suc n) (b ∷ bytes) h = left_bytes_are_bytes n bytes (later_bytes b bytes h)

pub first_bytes_are_bytes : (n : ℕ) (bytes : List ℕ) → AreBytes bytes → AreBytes (take n bytes)
first_bytes_are_bytes zero bytes h i = omega arith
first_bytes_are_bytes (suc n) [] h i = h i
first_bytes_are_bytes (suc n) (b ∷ bytes) h zero = h 0
first_bytes_are_bytes (suc n) (b ∷ bytes) h (suc i) = first_bytes_are_bytes n bytes (later_bytes b bytes h) i

-- ---- numbers

-- what numbers of k bytes more are below
abbrev limit_of_more_bytes : ℕ → ℕ → ℕ
limit_of_more_bytes limit zero = limit
limit_of_more_bytes limit (suc k) = limit_of_more_bytes (limit * 256) k

more_bytes_have_higher_limit : (limit k : ℕ) → limit ≤ limit_of_more_bytes limit k
more_bytes_have_higher_limit limit zero = omega arith
more_bytes_have_higher_limit limit (suc k) = let more : limit * 256 ≤ limit_of_more_bytes (limit * 256) k = more_bytes_have_higher_limit (limit * 256) k in omega (arith, more)

one_byte_below : (limit n b : ℕ) → n < limit → b < 256 → with_byte n b < limit * 256
one_byte_below limit n b l s = omega (arith, l, s)

bytes_below : (bytes : List ℕ) (limit n k : ℕ) → n < limit → AreBytes bytes → length bytes ≤ k → fold with_byte n bytes < limit_of_more_bytes limit k
bytes_below [] limit n k l h few = let more : limit ≤ limit_of_more_bytes limit k = more_bytes_have_higher_limit limit k in omega (arith, l, more)
bytes_below (b ∷ bytes) limit n zero l h few = absurd (omega (arith, few))
bytes_below (b ∷ bytes) limit n (suc k) l h few = bytes_below bytes (limit * 256) (with_byte n b) k (one_byte_below limit n b l (h 0)) (later_bytes b bytes h) (omega (arith, few))

number_below : (bytes : List ℕ) (k : ℕ) → AreBytes bytes → length bytes ≤ k → number_in bytes < limit_of_more_bytes 1 k
unfolding number_in
number_below bytes k h few = bytes_below bytes 1 0 k (omega arith) h few

pub value_fits : (ids : IdSize) (kind : Kind) (bytes : List ℕ) → AreBytes bytes → length bytes ≤ width_of ids kind → is_reference kind ≡ false → shown kind (number_in bytes) < value_limit kind
value_fits ids Kind.Object bytes h few r = let z : true ≡ false = r in cc
value_fits ids Boolean bytes h few r = omega arith
value_fits ids Char bytes h few r = number_below bytes 2 h few
value_fits ids Float bytes h few r = number_below bytes 4 h few
value_fits ids Double bytes h few r = number_below bytes 8 h few
value_fits ids Byte bytes h few r = number_below bytes 1 h few
value_fits ids Short bytes h few r = number_below bytes 2 h few
value_fits ids Int bytes h few r = number_below bytes 4 h few
value_fits ids Long bytes h few r = number_below bytes 8 h few

pub taken_value_fits : (ids : IdSize) (kind : Kind) (bytes : List ℕ) → (is_reference kind ≡ false → AreBytes bytes) → is_reference kind ≡ false → shown kind (number_in (take (width_of ids kind) bytes)) < value_limit kind
taken_value_fits ids kind bytes h r = value_fits ids kind (take (width_of ids kind) bytes) (first_bytes_are_bytes (width_of ids kind) bytes (h r)) (omega (arith, length-take (width_of ids kind) bytes)) r

-- ---- elements of arrays

elements_fit : (classes : List Class) (object : ObjKind) (total : ℕ) (ids : IdSize) (kind : Kind) (n at : ℕ) (bytes : List ℕ) → ((j : ℕ) → j < total → slice_get (slot_kinds_of classes object total) j ≡ Some kind) → at + n ≤ total
    → (is_reference kind ≡ false → AreBytes bytes) → FitSlots classes object total (elements_from ids kind n at bytes)
unfolding elements_from
elements_fit classes object total ids kind zero at bytes kinds within h = tt
elements_fit classes object total ids kind (suc n) at bytes kinds within h = (
  record { slot = kinds at (omega (arith, within)); range = λ r d. taken_value_fits ids kind bytes h r },
  elements_fit classes object total ids kind n (at + 1) (drop (width_of ids kind) bytes) kinds (omega (arith, within)) (λ r. left_bytes_are_bytes (width_of ids kind) bytes (h r)),
)

pub references_fit : (classes : List Class) (class n : ℕ) (ids : IdSize) (bytes : List ℕ) → FitSlots classes (Array class) n (elements_from ids Kind.Object n 0 bytes)
unfolding slot_kinds_of
references_fit classes class n ids bytes = elements_fit classes (Array class) n ids Kind.Object n 0 bytes (λ j l. copies_are_there Kind.Object n j l) (omega arith) (λ r. let z : true ≡ false = r in cc)

pub prims_fit : (classes : List Class) (kind : Kind) (n : ℕ) (ids : IdSize) (bytes : List ℕ) → AreBytes bytes → FitSlots classes (Prim kind) n (elements_from ids kind n 0 bytes)
unfolding slot_kinds_of
prims_fit classes kind n ids bytes h = elements_fit classes (Prim kind) n ids kind n 0 bytes (λ j l. copies_are_there kind n j l) (omega arith) (λ r. h)
