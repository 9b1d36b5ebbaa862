-- Shading by the marker: one id after another, over the regions and the stack.
use Rattle.std.proofs.Common.{◌≡◌, ◌⊎◌, ℕ, ◌*◌, ◌<◌, ◌≤◌, Bool, true, false, not, List, [], ◌∷◌, length, refl, sym, ap, subst, ◌∙◌, Option, Some, None, IsSome, IfSome, Contains, arith}
use mathlib.Core.Logic.{inl, inr}
use Rattle.std.specs.Prelude.{nat_eq, if◌then◌else◌}
use Rattle.std.specs.Option.{option_map_or}
use Rattle.std.specs.List.{IsDistinct}
use Rattle.heap_class.specs.declared.ObjRef.{ObjRef}
use Rattle.heap_region.specs.Regions.{Object, Region, object_at, object_of, ref_of, with_mark}
use Rattle.heap_region.specs.Pool.{RegionPool}
use Rattle.heap_region.specs.Legal.{IsRegionPool}
use Rattle.heap_region.proofs.Ids.{null_names_none}
use Rattle.heap_region.proofs.ChangedLookups.{object_at_ref}
use Rattle.heap_region.proofs.References.{member_is_head_or_later}
use Rattle.heap_mark.specs.MarkSteps.{MarkState, is_white, with_mark_of, shaded}
use Rattle.heap_mark.specs.Marker.{MarkerState, at_work, after_work, NamesMarked, IsGraySound}
use Rattle.heap_mark.proofs.Shades.{IsWhite, IsShadedAt, as_marked, object_white, shades_one, gray_distinct_after_one_shade}
use Rattle.heap_mark.proofs.Room.{distinct_ids_fit_the_cells}

-- ---- one id

not_shaded : (s : MarkState) (x : ℕ) → is_white s.regions x ≡ false → shaded s x ≡ s
unfolding shaded
not_shaded s x e = ap (λ (b : Bool). if b then record s { regions = with_mark_of true x s.regions; gray = x ∷ s.gray } else s) e

-- null
pub shaded_null : (s : MarkState) → shaded s 0 ≡ s
unfolding is_white
shaded_null s = not_shaded s 0 (ap (λ (p : Option Object). option_map_or (λ (o : Object). not o.mark) p false) (null_names_none s.regions))

-- a marked object
pub shaded_marked : (s : MarkState) (x : ℕ) (o : Object) → object_of s.regions x ≡ Some o → o.mark ≡ true → shaded s x ≡ s
unfolding is_white
shaded_marked s x o e m = not_shaded s x (ap (λ (p : Option Object). option_map_or (λ (o : Object). not o.mark) p false) e ∙ ap not m)

-- an unmarked one
pub shaded_white : (s : MarkState) (x : ℕ) (at : ObjRef) → ref_of s.regions x ≡ Some at → IsWhite s.regions x → shaded s x ≡ record s { regions = with_mark true at s.regions; gray = x ∷ s.gray }
unfolding shaded with_mark_of
shaded_white s x at e white =
    ap (λ (b : Bool). if b then record s { regions = with_mark_of true x s.regions; gray = x ∷ s.gray } else s) (object_white s.regions x white)
    ∙ ap (λ (r : Option ObjRef). record s { regions = option_map_or (λ (at : ObjRef). with_mark true at s.regions) r s.regions; gray = x ∷ s.gray }) e

-- ---- the stack stays sound

pub no_gray_object_is_white : (regions : List Region) (m : MarkerState) → IsGraySound regions m → (y : ℕ) → Contains m.gray y → IsWhite regions y → ⊥
no_gray_object_is_white regions m h y c w = let n : NamesMarked regions y = h.marked y c in differ n.0 w.0 (n.1) w.1 n.2 w.2
  where
    differ : (o p : Object) → object_of regions y ≡ Some o → object_of regions y ≡ Some p → o.mark ≡ true → p.mark ≡ false → ⊥
    differ o p a b t f = let e : o ≡ p = cc in let m : p.mark ≡ true = ap (λ (q : Object). q.mark) (sym e) ∙ t in cc

pub sound_shaded : (regions : List Region) (m : MarkerState) (x : ℕ) → IsGraySound regions m → IsGraySound (shaded (at_work regions m) x).regions (after_work (shaded (at_work regions m) x) m)
sound_shaded regions m x h = record {
  distinct = gray_distinct_after_one_shade s x h.distinct (no_gray_object_is_white regions m h);
  marked = λ y c. named y ((shades_one s x).each y) ((shades_one s x).new_gray y c);
  ids = subst (λ n. 256 * n ≤ m.room) (sym (shades_one s x).count) h.ids;
}
  where
    s : MarkState
    s = at_work regions m

    t : MarkState
    t = shaded s x

    named : (y : ℕ) → (object_of t.regions y ≡ object_of s.regions y) ⊎ IsShadedAt s t y → Contains s.gray y ⊎ (Contains (x ∷ []) y × IsWhite s.regions y) → NamesMarked t.regions y
    named y (inr g) c = (as_marked g.0, g.3, refl)
    named y (inl e) (inl d) = let n : NamesMarked regions y = h.marked y d in (n.0, e ∙ n.1, n.2)
    named y (inl e) (inr d) = absurd ((shades_one s x).none_white y d.0 (d.1.0, e ∙ d.1.1, d.1.2))

-- there is room for an unmarked object
pub room_left : (p : RegionPool) (m : MarkerState) (x : ℕ) → IsRegionPool p → IsGraySound p.regions m → IsWhite p.regions x → length m.gray < m.room
unfolding shaded
room_left p m x legal h white =
    let few : length (x ∷ m.gray) ≤ 256 * length p.regions = distinct_ids_fit_the_cells p (x ∷ m.gray) legal distinct named in
    omega (arith, few, h.ids)
  where
    distinct : IsDistinct nat_eq (x ∷ m.gray)
    distinct = subst (IsDistinct nat_eq) gray (gray_distinct_after_one_shade (at_work p.regions m) x h.distinct (no_gray_object_is_white p.regions m h))
      where
        gray : (shaded (at_work p.regions m) x).gray ≡ x ∷ m.gray
        gray = ap (λ (b : Bool). (if b then record (at_work p.regions m) { regions = with_mark_of true x p.regions; gray = x ∷ m.gray } else at_work p.regions m).gray) (object_white p.regions x white)

    named : (y : ℕ) → Contains (x ∷ m.gray) y → IsSome (object_of p.regions y)
    named y c = elim (member_is_head_or_later x m.gray y c) [ inl e ↦ rw (e, white.1) refl | inr d ↦ rw (h.marked y d).1 refl ]

-- what an object's mark is, by what its place tells
pub told_mark : (regions : List Region) (x : ℕ) (at : ObjRef) (live mark : Bool) → ref_of regions x ≡ Some at → IsSome (object_of regions x) → IfSome (object_at regions at) (λ o. (live ≡ o.live) × (mark ≡ o.mark)) → (o : Object) × (object_of regions x ≡ Some o) × (mark ≡ o.mark)
told_mark regions x at live mark e named told = go (object_at regions at) (object_at_ref regions x at e) told
  where
    go : (v : Option Object) → object_of regions x ≡ v → IfSome v (λ o. (live ≡ o.live) × (mark ≡ o.mark)) → (o : Object) × (object_of regions x ≡ Some o) × (mark ≡ o.mark)
    go None k h = cc
    go (Some o) k h = (o, k, h.1)
