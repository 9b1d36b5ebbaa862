-- No object of a legal heap has more words than an array may have elements: what the clauses on classes and kinds say of each
-- object.
use Rattle.std.proofs.Common.{ℕ, ◌≤◌, List, [], length, arith}
use Rattle.heap_class.specs.declared.ObjKind.{ObjKind}
use Rattle.heap_class.specs.declared.ObjKind.TheVariants.{Instance, Array, Prim}
use Rattle.heap_class.specs.Limits.{large_array_limit, slot_limit}
use Rattle.heap_class.specs.Classes.{Class, slots_of, IsClassTable}
use Rattle.heap_class.proofs.FewSlots.{slots_few}
use Rattle.heap_region.specs.Legal.{IsRegionPool}
use Rattle.heap_region.proofs.Clauses.{AreClauses, clauses_make_region_pool}
use Rattle.heap_world.specs.State.{HeapState, pool_of}
use Rattle.heap_region.specs.Legal.{EachObject}
use Rattle.heap_world.specs.Legal.{HasKind, IsObjectOf}

pub few_words : (classes : List Class) → IsClassTable [] classes → (kind : ObjKind) (n : ℕ) → HasKind classes kind n → n ≤ large_array_limit
few_words classes t (Instance k) n h = let few : length (slots_of classes k) ≤ slot_limit = slots_few classes t k in omega (arith, h.1, few)
few_words classes t (Array k) n h = h.1
few_words classes t (Prim kind) n h = h.1

pub words_few : (w : HeapState) → IsClassTable [] w.classes → EachObject w.regions (λ at o. IsObjectOf w.classes o) → EachObject w.regions (λ at o. length o.words ≤ large_array_limit)
words_few w t h at o there = few_words w.classes t o.kind (length o.words) (h at o there).kind

-- the clauses on regions and pool, with those on classes and objects, say the invariant of regions and pool
pub pool_from_clauses : (w : HeapState) → IsClassTable [] w.classes → EachObject w.regions (λ at o. IsObjectOf w.classes o) → AreClauses (pool_of w) → IsRegionPool (pool_of w)
pool_from_clauses w t objects h = clauses_make_region_pool (pool_of w) h (λ at o there. omega (arith, words_few w t objects at o there))
