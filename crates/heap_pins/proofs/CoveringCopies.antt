-- Copies of regions that have all that others have.
use Rattle.std.proofs.Common.{◌≡◌, ℕ, List, Option, Some, None, refl, sym, subst, ◌∙◌}
use Rattle.std.specs.Prelude.{option_map}
use Rattle.heap_region.specs.Regions.{UsedRegion, Region, used_at}
use Rattle.heap_region.specs.RegionCopies.{Frozen, frozen, region_frozen}
use Rattle.heap_pins.specs.Covers.{HasAll, Covers}

pub copy_has_all_of_itself : (f : Frozen) → HasAll f f
copy_has_all_of_itself f = record { size = refl; count = refl; objects = λ cell o e. (o, e, refl, refl) }

pub copy_has_all_through_another : (f g h : Frozen) → HasAll f g → HasAll g h → HasAll f h
copy_has_all_through_another f g h a b = record {
  size = b.size ∙ a.size;
  count = b.count ∙ a.count;
  objects = λ cell o e. (let p = a.objects cell o e in let q = b.objects cell p.0 p.1 in (q.0, q.1, q.2 ∙ p.2, q.3 ∙ p.3));
}

pub same_copy_covers : (a b : Option Frozen) → b ≡ a → Covers a b
same_copy_covers a b same f e = (f, same ∙ e, copy_has_all_of_itself f)

pub absent_copy_is_covered : (a b : Option Frozen) → a ≡ None → Covers a b
absent_copy_is_covered a b none f e = absurd (clash (sym none ∙ e))
  where
    clash : None ≡ Some f → ⊥
    clash c = cc

pub copy_covers_through_another : (a b c : Option Frozen) → Covers a b → Covers b c → Covers a c
copy_covers_through_another a b c x y f e = let g = x f e in let h = y g.0 g.1 in (h.0, h.1, copy_has_all_through_another f g.0 h.0 g.2 h.2)

-- a region that is a change of another, which has all that the change has
pub changed_region_is_covered : (before after : List Region) (r : ℕ) (change : UsedRegion → UsedRegion) → used_at before r ≡ option_map change (used_at after r) → ((u : UsedRegion) → HasAll (frozen (change u)) (frozen u))
    → Covers (region_frozen before r) (region_frozen after r)
unfolding region_frozen
changed_region_is_covered before after r change same has = subst (λ (x : Option UsedRegion). Covers (option_map frozen x) (option_map frozen (used_at after r))) (sym same) (go (used_at after r))
  where
    go : (x : Option UsedRegion) → Covers (option_map frozen (option_map change x)) (option_map frozen x)
    go None f e = absent_copy_is_covered None None refl f e
    go (Some u) f e = (frozen u, refl, subst (λ g. HasAll g (frozen u)) (is e) (has u))
      where
        is : Some (frozen (change u)) ≡ Some f → frozen (change u) ≡ f
        is e = cc

-- what nothing covers is nothing
pub covered_by_none_is_none : (a b : Option Frozen) → b ≡ None → Covers a b → a ≡ None
covered_by_none_is_none None b e c = refl
covered_by_none_is_none (Some f) b e c = let g = c f refl in absurd (clash (sym e ∙ g.1))
  where
    clash : {g : Frozen} → None ≡ Some g → ⊥
    clash e = cc
