-- Bounds on sizes.
use Rattle.std.proofs.Common.{◌≤◌, ℕ, ◌+◌, ◌*◌, List, [], ◌∷◌, length, arith}
use Rattle.std.specs.Prelude.{sum_by}
use Rattle.std.proofs.lemmas.Nat.{mul-le}
use Rattle.std.proofs.lemmas.List.Sums.{sum_by-cons}
use Rattle.heap_class.specs.declared.IdSize.{IdSize}
use Rattle.heap_class.specs.declared.IdSize.TheVariants.{Four, Eight}
use Rattle.heap_class.specs.declared.Kind.{Kind}
use Rattle.heap_class.specs.declared.Kind.TheVariants.{Boolean, Char, Float, Double, Byte, Short, Int, Long}
use Rattle.heap_class.specs.Kinds.{id_bytes, width_of}
use Rattle.heap_class.specs.declared.ObjKind.{ObjKind}
use Rattle.heap_class.specs.declared.ObjKind.TheVariants.{Instance, Array, Prim}
use Rattle.heap_class.specs.Limits.{large_array_limit}
use Rattle.heap_class.specs.Classes.{Class, slots_of, instance_size, IsClassTable}
use Rattle.heap_class.proofs.FewSlots.{slots_few}
use Rattle.hprof_text.specs.Image.{IsKnown}
use Rattle.hprof_text.specs.Sizes.{dump_size}

pub width_small : (ids : IdSize) (k : Kind) → width_of ids k ≤ 8
width_small Four Kind.Object = omega arith
width_small Eight Kind.Object = omega arith
width_small ids Boolean = omega arith
width_small ids Char = omega arith
width_small ids Float = omega arith
width_small ids Double = omega arith
width_small ids Byte = omega arith
width_small ids Short = omega arith
width_small ids Int = omega arith
width_small ids Long = omega arith

widths_small : (ids : IdSize) (ks : List Kind) → sum_by (width_of ids) ks ≤ 8 * length ks
widths_small ids [] = omega arith
widths_small ids (k ∷ ks) = omega (arith, sum_by-cons (width_of ids) k ks, width_small ids k, widths_small ids ks)

pub instance_small : (ids : IdSize) (classes : List Class) (k : ℕ) → length (slots_of classes k) ≤ 64 → instance_size ids classes k ≤ 512
unfolding instance_size
instance_small ids classes k h = omega (arith, widths_small ids (slots_of classes k), h)

pub class_size_small : (ids : IdSize) (n : ℕ) → n ≤ 64 → 15 + 7 * id_bytes ids + (1 + id_bytes ids) * n ≤ 647
class_size_small Four n h = omega (arith, h)
class_size_small Eight n h = omega (arith, h)

pub id_small : (ids : IdSize) → id_bytes ids ≤ 8
id_small Four = omega arith
id_small Eight = omega arith

pub dump_size_small : (ids : IdSize) (classes : List Class) → IsClassTable [] classes → (kind : ObjKind) (n : ℕ) → IsKnown classes kind n → n ≤ large_array_limit → dump_size ids classes kind n ≤ 16777201
unfolding dump_size
dump_size_small ids classes t (Instance k) n h l = omega (arith, id_small ids, instance_small ids classes k (slots_few classes t k))
dump_size_small ids classes t (Array k) n h l = omega (arith, id_small ids, mul-le (id_bytes ids) n 8 2097147 (id_small ids) l)
dump_size_small ids classes t (Prim kind) n h l = omega (arith, id_small ids, mul-le (width_of ids kind) n 8 2097147 (width_small ids kind) l)
