-- The sizes of cells in the past.
use Rattle.std.proofs.Common.{◌≡◌, ◌⊎◌, ℕ, zero, suc, ◌/◌, ◌<◌, ◌≤◌, List, [], ◌∷◌, length, get_or, Option, Some, None, refl, sym, ap, ap₂, ◌∙◌, inl, inr, arith}
use Rattle.std.specs.Prelude.{Contains, IsSome, option_and_then, option_map, slice_get}
use Rattle.std.proofs.lemmas.Bool.{false≢true}
use Rattle.std.proofs.lemmas.Option.{none-some, same_Some, slice_get_within}
use Rattle.heap_class.specs.declared.ObjRef.{ObjRef}
use Rattle.heap_region.specs.RegionCopies.{Frozen, frozen}
use Rattle.heap_region.specs.Legal.{IsCellTable}
use Rattle.heap_region.specs.Limits.{cell_sizes, region_words}
use Rattle.heap_region.specs.Regions.{IsRunSize, Object, Region, UsedRegion, block_words, object_at, used_at}
use Rattle.heap_region.proofs.BlockSizes.{block_of_region, block_of_run, run_size_is_larger_than_region}
use Rattle.heap_region.proofs.References.{member_is_head_or_later, empty_list_has_no_member}
use Rattle.heap_world.specs.State.{HeapState}
use Rattle.heap_world.specs.Legal.{IsLegal}
use Rattle.heap_step.specs.declared.Event.{Event}
use Rattle.heap_step.specs.declared.Undo.{Undo}
use Rattle.heap_step.specs.Laws.{IsStep}
use Rattle.heap_step.specs.Records.{undone}
use Rattle.heap_step.proofs.EventLaws.{undo_restores}
use Rattle.heap_pins.specs.Covers.{Covers}
use Rattle.heap_pins.proofs.Others.{undoing_keeps_region_count}
use Rattle.heap_questions.specs.PastTrails.{storage_cell_size}

-- ---- a whole region

size_is : (n c : ℕ) → Contains cell_sizes n → c ≡ region_words / n → region_words / c ≡ n
size_is n c m e = elim (member_is_head_or_later 4 (16 ∷ 64 ∷ 256 ∷ 1024 ∷ []) n m) [
  | inl h ↦ let g : c ≡ 256 = e ∙ ap (λ x. region_words / x) h in ap (λ x. region_words / x) g ∙ sym h
  | inr m ↦ elim (member_is_head_or_later 16 (64 ∷ 256 ∷ 1024 ∷ []) n m) [
    | inl h ↦ let g : c ≡ 64 = e ∙ ap (λ x. region_words / x) h in ap (λ x. region_words / x) g ∙ sym h
    | inr m ↦ elim (member_is_head_or_later 64 (256 ∷ 1024 ∷ []) n m) [
      | inl h ↦ let g : c ≡ 16 = e ∙ ap (λ x. region_words / x) h in ap (λ x. region_words / x) g ∙ sym h
      | inr m ↦ elim (member_is_head_or_later 256 (1024 ∷ []) n m) [
        | inl h ↦ let g : c ≡ 4 = e ∙ ap (λ x. region_words / x) h in ap (λ x. region_words / x) g ∙ sym h
        | inr m ↦ elim (member_is_head_or_later 1024 [] n m) [
          | inl h ↦ let g : c ≡ 1 = e ∙ ap (λ x. region_words / x) h in ap (λ x. region_words / x) g ∙ sym h
          | inr m ↦ absurd (empty_list_has_no_member n m)
        ]
      ]
    ]
  ]
]

listed_size_at_most_region : (n : ℕ) → Contains cell_sizes n → n ≤ region_words
listed_size_at_most_region n c = at_index c.0 c.1 c.2
  where
    at_index : (k : ℕ) → k < 5 → get_or cell_sizes k n ≡ n → n ≤ region_words
    at_index zero h e = omega (arith, e)
    at_index (suc zero) h e = omega (arith, e)
    at_index (suc (suc zero)) h e = omega (arith, e)
    at_index (suc (suc (suc zero))) h e = omega (arith, e)
    at_index (suc (suc (suc (suc zero)))) h e = omega (arith, e)
    at_index (suc (suc (suc (suc (suc k))))) h e = absurd (omega (arith, h))

pub whole_size : (u : UsedRegion) → IsCellTable u → storage_cell_size u ≡ u.cell_size
whole_size u t = go t.size
  where
    go : Contains cell_sizes u.cell_size ⊎ IsRunSize u.cell_size → storage_cell_size u ≡ u.cell_size
    go (inl c) =
        let b = block_of_region u.cell_size (listed_size_at_most_region u.cell_size c) in
        ap (λ n. n / length u.cells) b.0 ∙ size_is u.cell_size (length u.cells) c (t.cells ∙ b.1)
    go (inr r) =
        let b = block_of_run u.cell_size (run_size_is_larger_than_region u.cell_size r) in
        let one : u.cell_size / 1 ≡ u.cell_size = omega arith in
        ap₂ (λ a n. a / n) b.0 (t.cells ∙ b.1) ∙ one

-- ---- one step back

-- where a copy of a region has all that the region had, the size is the same
pub covered_size : (before after : Option UsedRegion) (u : UsedRegion) → Covers (option_map frozen before) (option_map frozen after) → before ≡ Some u → (v : UsedRegion) × (after ≡ Some v) × (v.cell_size ≡ u.cell_size)
covered_size before after u c e =
    let g = c (frozen u) (ap (option_map frozen) e) in
    go after g.0 g.1 g.2.size
  where
    go : (x : Option UsedRegion) (g : Frozen) → option_map frozen x ≡ Some g → g.cell_size ≡ u.cell_size → (v : UsedRegion) × (x ≡ Some v) × (v.cell_size ≡ u.cell_size)
    go None g h s = absurd (none-some g h)
    go (Some v) g h s = (v, refl, ap (λ (f : Frozen). f.cell_size) (same_Some (frozen v) g h) ∙ s)

-- so it is where the copy was patched without a change of size
pub patched_size : (f : Frozen → Frozen) → ((x : Frozen) → (f x).cell_size ≡ x.cell_size) → (before after : Option UsedRegion) (u : UsedRegion) → Covers (option_map frozen before) (option_map f (option_map frozen after)) → before ≡ Some u → (v : UsedRegion) × (after ≡ Some v) × (v.cell_size ≡ u.cell_size)
patched_size f same before after u c e =
    let g = c (frozen u) (ap (option_map frozen) e) in
    go after g.0 g.1 g.2.size
  where
    go : (x : Option UsedRegion) (g : Frozen) → option_map f (option_map frozen x) ≡ Some g → g.cell_size ≡ u.cell_size → (v : UsedRegion) × (x ≡ Some v) × (v.cell_size ≡ u.cell_size)
    go None g h s = absurd (none-some g h)
    go (Some v) g h s = (v, refl, sym (same (frozen v)) ∙ ap (λ (f : Frozen). f.cell_size) (same_Some (f (frozen v)) g h) ∙ s)

-- the regions of a record that took all of one
pub reclaimed_size : (before : Option UsedRegion) (storage u : UsedRegion) → Covers (option_map frozen before) (Some (frozen storage)) → before ≡ Some u → storage_cell_size storage ≡ storage_cell_size u
reclaimed_size before storage u c e =
    let g = c (frozen u) (ap (option_map frozen) e) in
    let same : frozen storage ≡ g.0 = same_Some (frozen storage) g.0 g.1 in
    ap₂ (λ size n. block_words size / n) (ap (λ (f : Frozen). f.cell_size) same ∙ g.2.size) (ap (λ (f : Frozen). length f.cells) same ∙ g.2.count)

-- ---- regions of a legal heap

pub cells_some : (u : UsedRegion) (c : ℕ) (o : Object) → slice_get u.cells c ≡ Some (Some o) → 0 < length u.cells
cells_some u c o e = omega (arith, slice_get_within u.cells c (Some o) e)

pub table_of : (w : HeapState) (r : ℕ) (u : UsedRegion) → IsLegal w → used_at w.regions r ≡ Some u → IsCellTable u
table_of w r u legal e = legal.regions.tables r u e

pub used_of : (regions : List Region) (at : ObjRef) → IsSome (object_at regions at) → (u : UsedRegion) × (used_at regions at.region ≡ Some u)
unfolding object_at
used_of regions at = go (used_at regions at.region) refl
  where
    go : (x : Option UsedRegion) → used_at regions at.region ≡ x → IsSome (option_and_then (λ u. option_and_then (λ (o : Option Object). o) (slice_get u.cells at.cell)) x) → (u : UsedRegion) × (used_at regions at.region ≡ Some u)
    go None e h = absurd (false≢true h)
    go (Some u) e h = (u, e)

pub same_regions : (left : Undo) (e : Event) (before after : HeapState) → IsStep e before after left → length before.regions ≡ length after.regions
same_regions left e before after s =
    ap (λ (w : HeapState). length w.regions) (sym (undo_restores e before s.legal s.accepted) ∙ sym (ap₂ (λ (l : Undo) (w : HeapState). undone l w) s.recorded s.gave))
    ∙ sym (undoing_keeps_region_count left after)
