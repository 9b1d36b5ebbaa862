-- The part of legality that speaks of places: objects in cells, regions and the pool.
use Rattle.std.proofs.Common.{◌≡◌, ◌≢◌, ◌⊎◌, ℕ, true, false, List, [], ◌∷◌, length, refl, sym, ap, subst, ◌∙◌, Option, Some, None, IfSome, Contains, fold, Bool}
use mathlib.Core.Logic.{inl, inr}
use Rattle.std.specs.Prelude.{option_map}
use Rattle.heap_class.specs.declared.ObjRef.{ObjRef}
use Rattle.heap_class.specs.Classes.{Class}
use Rattle.heap_region.specs.Regions.{Object, UsedRegion, Region, used_at, object_at, object_of, updated, with_object, with_region, cell_size_for}
use Rattle.heap_region.proofs.UpdatedLists.{length_updated}
use Rattle.heap_region.proofs.PriorObjects.{object_was, used_was_region, part_with_object, empty_with_region, free_with_object, inhabited_with_object}
use Rattle.std.specs.Prelude.{if◌then◌else◌}
use Rattle.std.specs.Option.{option_map_or}
use Rattle.heap_region.specs.Regions.{ref_of, with_mark, slot_kinds}
use Rattle.heap_region.proofs.ChangedLookups.{object_at_ref}
use Rattle.heap_region.proofs.References.{list_has_its_head, list_has_items_of_tail}
use Rattle.heap_mark.specs.MarkSteps.{MarkState, shaded, is_white, with_mark_of}
use Rattle.heap_mark.proofs.Shades.{IsShadedAt, as_marked, shades_one}
use Rattle.heap_world.specs.State.{HeapState}
use Rattle.heap_world.specs.Legal.{IsObjectOf}
use Rattle.heap_world.proofs.Clauses.{HasClauses}
use Rattle.heap_region.proofs.Clauses.{IsPartition}
use Rattle.heap_region.specs.Legal.{IsArea}
use Rattle.heap_region.proofs.Spares.{NamesSpare, area_with_region, spare_kept}

-- each object has a kind and a place that fit, each region's cells and the pool are in order, and what isn't live is unmarked and
-- in a region yet to be swept
pub record IsStored (classes : List Class) (start : ℕ) (regions : List Region) (ps : List ℕ) : Type 0 where
  pub objects : (at : ObjRef) (o : Object) → object_at regions at ≡ Some o → IsObjectOf classes o
  pub least_cells : (at : ObjRef) (o : Object) → object_at regions at ≡ Some o → IfSome (used_at regions at.region) (λ u. u.cell_size ≡ cell_size_for (length o.words))
  pub cells : (r : ℕ) (u : UsedRegion) → used_at regions r ≡ Some u → IsPartition u
  pub pool : NamesSpare start ps regions
  pub area : IsArea regions start
  pub marked_live : (at : ObjRef) (o : Object) → object_at regions at ≡ Some o → o.mark ≡ true → o.live ≡ true
  pub swept_live : (at : ObjRef) (o : Object) → object_at regions at ≡ Some o → IfSome (used_at regions at.region) (λ u. u.pending ≡ false → o.live ≡ true)

pub clauses_make_heap_stored : (w : HeapState) → HasClauses w → IsStored w.classes w.area_start w.regions w.pool
clauses_make_heap_stored w l = record { objects = l.objects; least_cells = l.least_cells; cells = l.cells; pool = l.pool; area = l.area; marked_live = l.marked_live; swept_live = l.swept_live }

-- what a changed object keeps
pub record Keeps (classes : List Class) (o p : Object) : Type 0 where
  pub fits : IsObjectOf classes p
  pub size : length p.words ≡ length o.words
  pub live : p.live ≡ o.live
  pub marked_live : p.mark ≡ true → o.live ≡ true

object_change_keeps_partition : (f : Object → Object) (c : ℕ) (u : UsedRegion) → IsPartition u → IsPartition (record u { cells = updated c (option_map f) u.cells })
object_change_keeps_partition f c u t = record {
  cells = length_updated c (option_map f) u.cells ∙ t.cells;
  free = record { distinct = t.free.distinct; each = λ k. (λ m. (free_with_object f u.cells c k).1 ((t.free.each k).0 m), λ e. (t.free.each k).1 ((free_with_object f u.cells c k).0 e)) };
  inhabited = let p = inhabited_with_object f u.cells c t.inhabited.0 t.inhabited.1 t.inhabited.2 in (t.inhabited.0, p.0, p.1);
}

-- a change of an object that keeps its kind, its number of words and whether it is live
pub stored_with_object : (classes : List Class) (start : ℕ) (rs : List Region) (pool : List ℕ) (at : ObjRef) (f : Object → Object) → IsStored classes start rs pool
    → ((o : Object) → object_at rs at ≡ Some o → Keeps classes o (f o)) → IsStored classes start (with_object at f rs) pool
unfolding with_object
stored_with_object classes start rs pool at f s keeps = record {
  objects = λ b o h. objects b o (object_was f rs at b o h);
  least_cells = λ b o h. least b o (object_was f rs at b o h);
  cells = λ r u h. cells r u (used_was_region change rs at.region r u h);
  pool = spare_kept start pool rs (with_region at.region change rs) (empty_with_region change rs at.region) s.pool;
  area = area_with_region change (λ u. refl) at.region rs start s.area;
  marked_live = λ b o h. marked b o (object_was f rs at b o h);
  swept_live = λ b o h. swept b o (object_was f rs at b o h);
}
  where
    change : UsedRegion → UsedRegion
    change u = record u { cells = updated at.cell (option_map f) u.cells }

    here : (b : ObjRef) (o : Object) → b ≡ at → object_at rs b ≡ Some o → Keeps classes o (f o)
    here b o e h = keeps o (ap (object_at rs) (sym e) ∙ h)

    objects : (b : ObjRef) (o' : Object) → ((o : Object) × (object_at rs b ≡ Some o) × (((b ≡ at) × (o' ≡ f o)) ⊎ ((b ≢ at) × (o' ≡ o)))) → IsObjectOf classes o'
    objects b o' p = elim p.2 [ inl q ↦ subst (IsObjectOf classes) (sym q.1) (here b p.0 q.0 p.1).fits | inr q ↦ subst (IsObjectOf classes) (sym q.1) (s.objects b p.0 p.1) ]

    least : (b : ObjRef) (o' : Object) → ((o : Object) × (object_at rs b ≡ Some o) × (((b ≡ at) × (o' ≡ f o)) ⊎ ((b ≢ at) × (o' ≡ o)))) → IfSome (used_at (with_object at f rs) b.region) (λ u. u.cell_size ≡ cell_size_for (length o'.words))
    least b o' p = part_with_object (λ u. u.cell_size ≡ cell_size_for (length o'.words)) (λ u cs q. q) f rs at b.region
        (subst (λ n. IfSome (used_at rs b.region) (λ u. u.cell_size ≡ cell_size_for n)) same (s.least_cells b p.0 p.1))
      where
        same : length p.0.words ≡ length o'.words
        same = elim p.2 [ inl q ↦ sym (here b p.0 q.0 p.1).size ∙ ap (λ (x : Object). length x.words) (sym q.1) | inr q ↦ ap (λ (x : Object). length x.words) (sym q.1) ]

    cells : (r : ℕ) (v : UsedRegion) → ((u : UsedRegion) × (used_at rs r ≡ Some u) × (((r ≡ at.region) × (v ≡ change u)) ⊎ ((r ≢ at.region) × (v ≡ u)))) → IsPartition v
    cells r v p = elim p.2 [ inl q ↦ subst IsPartition (sym q.1) (object_change_keeps_partition f at.cell p.0 (s.cells r p.0 p.1)) | inr q ↦ subst IsPartition (sym q.1) (s.cells r p.0 p.1) ]

    marked : (b : ObjRef) (o' : Object) → ((o : Object) × (object_at rs b ≡ Some o) × (((b ≡ at) × (o' ≡ f o)) ⊎ ((b ≢ at) × (o' ≡ o)))) → o'.mark ≡ true → o'.live ≡ true
    marked b o' p m = elim p.2 [
      | inl q ↦ (let k = here b p.0 q.0 p.1 in ap (λ (x : Object). x.live) q.1 ∙ k.live ∙ k.marked_live (ap (λ (x : Object). x.mark) (sym q.1) ∙ m))
      | inr q ↦ ap (λ (x : Object). x.live) q.1 ∙ s.marked_live b p.0 p.1 (ap (λ (x : Object). x.mark) (sym q.1) ∙ m)
    ]

    swept : (b : ObjRef) (o' : Object) → ((o : Object) × (object_at rs b ≡ Some o) × (((b ≡ at) × (o' ≡ f o)) ⊎ ((b ≢ at) × (o' ≡ o)))) → IfSome (used_at (with_object at f rs) b.region) (λ u. u.pending ≡ false → o'.live ≡ true)
    swept b o' p = part_with_object (λ u. u.pending ≡ false → o'.live ≡ true) (λ u cs q. q) f rs at b.region
        (subst (λ l. IfSome (used_at rs b.region) (λ u. u.pending ≡ false → l ≡ true)) same (s.swept_live b p.0 p.1))
      where
        same : p.0.live ≡ o'.live
        same = elim p.2 [ inl q ↦ sym (here b p.0 q.0 p.1).live ∙ ap (λ (x : Object). x.live) (sym q.1) | inr q ↦ ap (λ (x : Object). x.live) (sym q.1) ]

-- a mark changes nothing that a place shows, but the mark
mark_keeps_the_object : (classes : List Class) (o : Object) → IsObjectOf classes o → o.live ≡ true → Keeps classes o (as_marked o)
unfolding slot_kinds
mark_keeps_the_object classes o f l = record { fits = record { kind = f.kind; values = f.values }; size = refl; live = refl; marked_live = λ m. l }

-- a live object is shaded
pub stored_shaded : (classes : List Class) (start : ℕ) (ps : List ℕ) (s : MarkState) (x : ℕ) → IsStored classes start s.regions ps → ((o : Object) → object_of s.regions x ≡ Some o → o.live ≡ true) → IsStored classes start (shaded s x).regions ps
unfolding shaded with_mark_of with_mark
stored_shaded classes start ps s x st live = go (is_white s.regions x) (ref_of s.regions x) refl
  where
    go : (b : Bool) (r : Option ObjRef) → ref_of s.regions x ≡ r → IsStored classes start (if b then record s { regions = option_map_or (λ at. with_mark true at s.regions) r s.regions; gray = x ∷ s.gray } else s).regions ps
    go false r e = st
    go true None e = st
    go true (Some at) e = stored_with_object classes start s.regions ps at as_marked st (λ o h. mark_keeps_the_object classes o (st.objects at o h) (live o (object_at_ref s.regions x at e ∙ h)))

pub shading_keeps_heap_stored : (classes : List Class) (start : ℕ) (ps : List ℕ) (xs : List ℕ) (s : MarkState) → IsStored classes start s.regions ps → ((x : ℕ) (o : Object) → Contains xs x → object_of s.regions x ≡ Some o → o.live ≡ true) → IsStored classes start (fold shaded s xs).regions ps
shading_keeps_heap_stored classes start ps [] s st live = st
shading_keeps_heap_stored classes start ps (x ∷ xs) s st live = shading_keeps_heap_stored classes start ps xs (shaded s x) (stored_shaded classes start ps s x st (λ o e. live x o (list_has_its_head x xs) e))
    (λ y o c e. later y o (list_has_items_of_tail x xs y c) e ((shades_one s x).each y))
  where
    later : (y : ℕ) (o : Object) → Contains (x ∷ xs) y → object_of (shaded s x).regions y ≡ Some o → (object_of (shaded s x).regions y ≡ object_of s.regions y) ⊎ IsShadedAt s (shaded s x) y → o.live ≡ true
    later y o c e (inl p) = live y o c (sym p ∙ e)
    later y o c e (inr g) = let q : o ≡ as_marked g.0 = cc in ap (λ (z : Object). z.live) q ∙ live y g.0 c g.1
