-- Which cells hold gray objects.
use Rattle.std.proofs.Common.{◌≡◌, ◌≢◌, ◌∙◌, ℕ, zero, suc, ◌+◌, ◌*◌, ◌<◌, Bool, true, false, List, [], ◌∷◌, ◌++◌, length, get_or, replicate, take, refl, sym, ap, subst, inl, inr, arith}
use Rattle.std.specs.Prelude.{IsSome, Option, Some, None, slice_index_or, slice_set, ◌==◌, ◌||◌, option_and_then, reverse}
use Rattle.std.specs.List.{list_any}
use Rattle.std.proofs.lemmas.Bool.{cases_eq, eq-eqb, ne_eqb, false≢true}
use Rattle.std.proofs.lemmas.List.{get_or-set_other, get_or-set_same, take_more}
use Rattle.std.proofs.lemmas.List.Folds.{list_any-append}
use Rattle.std.proofs.lemmas.List.Sorted.{IsPermutation-reverse, list_any-IsPermutation}
use Rattle.std.proofs.lemmas.Option.{none-some, same_Some}
use Rattle.heap_class.specs.declared.ObjRef.{ObjRef}
use Rattle.heap_region.specs.Legal.{IsRegionPool}
use Rattle.heap_region.specs.Pool.{RegionPool}
use Rattle.heap_region.specs.Regions.{Object, Region, UsedRegion, id_of, object_at, object_of, ref_of, used_at}
use Rattle.heap_region.proofs.Ids.{ref_back, ref_is}
use Rattle.heap_region.proofs.Lookups.{used_region_is_listed}
use Rattle.heap_region.proofs.ShownRegions.{object_here, used_by_object}
use Rattle.heap_world.specs.State.{HeapState}
use Rattle.heap_pins.proofs.LiveCounts.{cell_table_below_257_cells}
use Rattle.heap_questions.specs.Cells.{AreMarksOf, cell_number, is_gray}

-- ---- cells

-- where an object's cell lies, and that its id leads back to it
pub record IsPlaced (regions : List Region) (at : ObjRef) : Type 0 where
  pub region : at.region < length regions
  pub cell : at.cell < 256
  pub back : ref_of regions (id_of regions at) ≡ Some at

cell_there : (cells : List (Option Object)) (c : ℕ) → IsSome (slice_index_or cells c None) → c < length cells
cell_there [] c i = absurd (false≢true i)
cell_there (x ∷ xs) zero i = omega arith
cell_there (x ∷ xs) (suc c) i = let l = cell_there xs c i in omega (arith, l)

pub some_object_is_placed : (s : RegionPool) (at : ObjRef) → IsRegionPool s → IsSome (object_at s.regions at) → IsPlaced s.regions at
some_object_is_placed s at legal i = go (used_at s.regions at.region) refl (used_by_object s.regions at i)
  where
    go : (x : Option UsedRegion) → used_at s.regions at.region ≡ x → IsSome x → IsPlaced s.regions at
    go None e h = absurd (false≢true h)
    go (Some u) e h =
        let table = legal.tables at.region u e in
        let c : at.cell < length u.cells = cell_there u.cells at.cell (subst IsSome (object_here s.regions at u e) i) in
        let few = cell_table_below_257_cells u table in
        record {
          region = used_region_is_listed s.regions at.region (subst IsSome (sym e) refl);
          cell = omega (arith, c, few);
          back = ref_back s.regions at u e (omega (arith, c, table.cells));
        }

there_is : (regions : List Region) (at : ObjRef) (o : Object) → object_at regions at ≡ Some o → IsSome (object_at regions at)
there_is regions at o h = subst IsSome (sym h) refl

-- two cells of one number are one
same_cell : (a b : ObjRef) → a.cell < 256 → b.cell < 256 → cell_number a ≡ cell_number b → a ≡ b
same_cell a b c d e =
    let r : a.region ≡ b.region = omega (arith, c, d, e) in
    let k : a.cell ≡ b.cell = omega (arith, c, d, e) in
    λ i. record { region = r i; cell = k i }

-- ---- marks

-- the id of a cell is one of some ids
abbrev pub has_id : List Region → ObjRef → List ℕ → Bool
has_id regions at ids = list_any (λ x. x == id_of regions at) ids

or_false : (b : Bool) → (b || false) ≡ b
or_false false = refl
or_false true = refl

or_true : (b : Bool) → (b || true) ≡ true
or_true false = refl
or_true true = refl

one_id_more : (regions : List Region) (at : ObjRef) (ids : List ℕ) (i x : ℕ) → i < length ids → x ≡ get_or ids i x → has_id regions at (take (i + 1) ids) ≡ (has_id regions at (take i ids) || (x == id_of regions at))
one_id_more regions at ids i x l e =
    let p : ℕ → Bool = λ y. y == id_of regions at in
    ap (list_any p) (take_more ids i x l ∙ ap (λ y. take i ids ++ y ∷ []) (sym e))
    ∙ list_any-append p (take i ids) (x ∷ [])
    ∙ ap (λ b. list_any p (take i ids) || b) (or_false (x == id_of regions at))

is_other : (regions : List Region) (at : ObjRef) (ids : List ℕ) (i x : ℕ) → i < length ids → x ≡ get_or ids i x → x ≢ id_of regions at → has_id regions at (take (i + 1) ids) ≡ has_id regions at (take i ids)
is_other regions at ids i x l e n = one_id_more regions at ids i x l e ∙ ap (λ b. has_id regions at (take i ids) || b) (ne_eqb x (id_of regions at) n) ∙ or_false _

is_this : (regions : List Region) (at : ObjRef) (ids : List ℕ) (i x : ℕ) → i < length ids → x ≡ get_or ids i x → x ≡ id_of regions at → has_id regions at (take (i + 1) ids) ≡ true
is_this regions at ids i x l e n = one_id_more regions at ids i x l e ∙ ap (λ b. has_id regions at (take i ids) || b) (eq-eqb x (id_of regions at) n) ∙ or_true _

none_marked : (n k : ℕ) → slice_index_or (replicate n false) k false ≡ false
none_marked zero k = refl
none_marked (suc n) zero = refl
none_marked (suc n) (suc k) = none_marked n k

pub no_marks : (regions : List Region) (n : ℕ) (marks : List Bool) → marks ≡ replicate n false → AreMarksOf regions [] marks
no_marks regions n marks e at o h = ap (λ (m : List Bool). slice_index_or m (cell_number at) false) e ∙ none_marked n (cell_number at)

-- an id that names no object
pub marked_none : (s : RegionPool) (ids : List ℕ) (i x : ℕ) (marks : List Bool) → IsRegionPool s → i < length ids → x ≡ get_or ids i x → object_of s.regions x ≡ None → AreMarksOf s.regions (take i ids) marks → AreMarksOf s.regions (take (i + 1) ids) marks
unfolding object_of
marked_none s ids i x marks legal l e none before at o h =
    let back = (some_object_is_placed s at legal (there_is s.regions at o h)).back in
    let n : x ≢ id_of s.regions at = λ p. none-some o (sym none ∙ ap (λ (y : ℕ). option_and_then (object_at s.regions) (ref_of s.regions y)) p ∙ ap (option_and_then (object_at s.regions)) back ∙ h) in
    before at o h ∙ sym (is_other s.regions at ids i x l e n)

-- an id that names the object in a cell, which is then marked
pub marked_one : (s : RegionPool) (ids : List ℕ) (i x : ℕ) (marks new : List Bool) (there : ObjRef) (k : ℕ) → IsRegionPool s → i < length ids → x ≡ get_or ids i x → ref_of s.regions x ≡ Some there → IsSome (object_at s.regions there) → k ≡ cell_number there → k < length marks
    → new ≡ slice_set marks k true → AreMarksOf s.regions (take i ids) marks → AreMarksOf s.regions (take (i + 1) ids) new
marked_one s ids i x marks new there k legal l e names some number within set before at o h =
    let p = some_object_is_placed s at legal (there_is s.regions at o h) in
    let q = some_object_is_placed s there legal some in
    let told : slice_index_or new (cell_number at) false ≡ slice_index_or (slice_set marks k true) (cell_number at) false = ap (λ (m : List Bool). slice_index_or m (cell_number at) false) set in
    elim (cases_eq (cell_number at) k) [
      | inl same ↦
          let is : at ≡ there = same_cell at there p.cell q.cell (same ∙ number) in
          told ∙ ap (λ (n : ℕ). slice_index_or (slice_set marks k true) n false) same ∙ get_or-set_same marks k true false within
          ∙ sym (is_this s.regions at ids i x l e (sym (ref_is s.regions x there names) ∙ ap (id_of s.regions) (sym is)))
      | inr other ↦
          let n : x ≢ id_of s.regions at = λ r. other (ap cell_number (same_Some at there (sym p.back ∙ ap (ref_of s.regions) (sym r) ∙ names)) ∙ sym number) in
          told ∙ get_or-set_other marks k (cell_number at) true false other
          ∙ before at o h ∙ sym (is_other s.regions at ids i x l e n)
    ]

-- the ids in the other order
pub marks_reversed : (regions : List Region) (ids others : List ℕ) (marks : List Bool) → reverse ids ≡ others → AreMarksOf regions ids marks → AreMarksOf regions others marks
marks_reversed regions ids others marks e before at o h =
    before at o h ∙ list_any-IsPermutation (λ x. x == id_of regions at) ids (reverse ids) (IsPermutation-reverse ids) ∙ ap (has_id regions at) e

-- there is room for the mark of an object's cell
pub mark_within : (s : RegionPool) (at : ObjRef) (n k : ℕ) → IsRegionPool s → IsSome (object_at s.regions at) → n ≡ length s.regions * 256 → k ≡ cell_number at → k < n
mark_within s at n k legal some e number = let p = some_object_is_placed s at legal some in omega (arith, p.region, p.cell, e, number)

-- the mark of an object's cell
pub mark_told : (w v : HeapState) (marks : List Bool) (at : ObjRef) (k : ℕ) → AreMarksOf w.regions w.gray marks → w ≡ v → k ≡ cell_number at → IsSome (object_at v.regions at) → slice_index_or marks k false ≡ is_gray v at
unfolding is_gray
mark_told w v marks at k told same number some =
    ap (λ (n : ℕ). slice_index_or marks n false) number
    ∙ go (object_at v.regions at) refl some
  where
    at_v : AreMarksOf v.regions v.gray marks
    at_v = subst (λ (u : HeapState). AreMarksOf u.regions u.gray marks) same told

    go : (x : Option Object) → object_at v.regions at ≡ x → IsSome x → slice_index_or marks (cell_number at) false ≡ list_any (λ x. x == id_of v.regions at) v.gray
    go None e i = absurd (false≢true i)
    go (Some o) e i = at_v at o e
