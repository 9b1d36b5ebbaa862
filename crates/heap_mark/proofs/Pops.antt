-- The top of the gray stack taken off.
use Rattle.std.proofs.Common.{◌≡◌, ℕ, zero, suc, subst, ◌<◌, ◌≤◌, List, [], ◌∷◌, ◌++◌, length, reverse, get_or, refl, sym, ap, ◌∙◌, arith, Option, Some, IsSome, Contains, false}
use Rattle.std.proofs.lemmas.List.{reverse-append}
use Rattle.std.specs.Option.{option_map_or}
use Rattle.heap_class.specs.declared.ObjRef.{ObjRef}
use Rattle.heap_region.specs.Regions.{object_of, ref_of, with_mark}
use Rattle.heap_region.specs.Pool.{RegionPool}
use Rattle.heap_region.proofs.References.{list_has_its_head, list_has_items_of_tail}
use Rattle.heap_mark.proofs.Marks.{only_marked}
use Rattle.heap_mark.proofs.ShadeWalks.{id_still_names_object_shaded}
use Rattle.heap_mark.specs.MarkSteps.{MarkState, unshaded, with_mark_of}
use Rattle.heap_mark.specs.Marker.{MarkerState, at_work, after_work}

-- what a pop leaves, and what it gave
pub reverse_after_pop : (xs ys : List ℕ) (x : ℕ) → xs ≡ ys ++ x ∷ [] → reverse xs ≡ x ∷ reverse ys
reverse_after_pop xs ys x e = ap reverse e ∙ reverse-append ys (x ∷ [])

-- one, and then the others
pub unshaded_more : (n : ℕ) (s : MarkState) → unshaded (suc n) s ≡ unshaded n (unshaded 1 s)
unfolding unshaded
unshaded_more n s = go n s.gray
  where
    go : (n : ℕ) (g : List ℕ) → unshaded (suc n) (record s { gray = g }) ≡ unshaded n (unshaded 1 (record s { gray = g }))
    go zero [] = refl
    go (suc n) [] = refl
    go n (x ∷ g) = refl

pub unshaded_none : (s : MarkState) → unshaded 0 s ≡ s
unfolding unshaded
unshaded_none s = refl

pub unshaded_top : (s : MarkState) (x : ℕ) (rest : List ℕ) → s.gray ≡ x ∷ rest → unshaded 1 s ≡ record s { regions = with_mark_of false x s.regions; gray = rest }
unfolding unshaded
unshaded_top s x rest e = ap (λ (g : List ℕ). unshaded 1 (record s { gray = g })) e

-- by a place
pub unshaded_at : (s : MarkState) (x : ℕ) (rest : List ℕ) (at : ObjRef) → s.gray ≡ x ∷ rest → ref_of s.regions x ≡ Some at → unshaded 1 s ≡ record s { regions = with_mark false at s.regions; gray = rest }
unfolding with_mark_of
unshaded_at s x rest at e place = unshaded_top s x rest e ∙ ap (λ (r : Option ObjRef). record s { regions = option_map_or (λ (at : ObjRef). with_mark false at s.regions) r s.regions; gray = rest }) place

-- ---- on the way

-- from the regions `before` and the marker `first` these came, and taking n off the stack leads to `s`
pub record IsUndoing (s : MarkState) (n : ℕ) (before now : RegionPool) (first m : MarkerState) : Type 0 where
  pub left : unshaded n (at_work now.regions m) ≡ s
  pub room : m.room ≡ first.room
  pub pool : now.pool ≡ before.pool
  pub area : now.area_start ≡ before.area_start
  pub within : n ≤ length m.gray
  pub names : (x : ℕ) → Contains m.gray x → IsSome (object_of now.regions x)

pub one_more_shade_undone : (s : MarkState) (n : ℕ) (before now after : RegionPool) (first m r : MarkerState) → IsUndoing s (suc n) before now first m → r ≡ after_work (unshaded 1 (at_work now.regions m)) m → after ≡ record now { regions = (unshaded 1 (at_work now.regions m)).regions } → IsUndoing s n before after first r
one_more_shade_undone s n before now after first m r h is pool = subst (λ (v : RegionPool). IsUndoing s n before v first r) (sym pool) (subst (λ (v : MarkerState). IsUndoing s n before (record now { regions = (unshaded 1 (at_work now.regions m)).regions }) first v) (sym is) (go m.gray refl))
  where
    t : MarkState
    t = unshaded 1 (at_work now.regions m)

    go : (g : List ℕ) → m.gray ≡ g → IsUndoing s n before (record now { regions = t.regions }) first (after_work t m)
    go [] e = absurd (omega (arith, ap length e, h.within))
    go (x ∷ rest) e = record {
      left = sym (unshaded_more n (at_work now.regions m)) ∙ h.left;
      room = h.room;
      pool = h.pool;
      area = h.area;
      within = omega (arith, ap length e, h.within, ap (λ (u : MarkState). length u.gray) (unshaded_top (at_work now.regions m) x rest e));
      names = λ y c. subst (λ (u : MarkState). IsSome (object_of u.regions y)) (sym (unshaded_top (at_work now.regions m) x rest e))
          (id_still_names_object_shaded (with_mark_of false x now.regions) now.regions y (only_marked false x now.regions)
          (h.names y (subst (λ (l : List ℕ). Contains l y) (sym e) (list_has_items_of_tail x rest y (subst (λ (u : MarkState). Contains u.gray y) (unshaded_top (at_work now.regions m) x rest e) c)))));
    }

pub all_shades_undone : (s : MarkState) (n : ℕ) (before now : RegionPool) (first m : MarkerState) → n ≡ 0 → IsUndoing s n before now first m → (m ≡ after_work s first) × (now ≡ record before { regions = s.regions })
all_shades_undone s n before now first m none h =
    let left : at_work now.regions m ≡ s = sym (unshaded_none (at_work now.regions m)) ∙ ap (λ (k : ℕ). unshaded k (at_work now.regions m)) (sym none) ∙ h.left in (
      λ i. record { gray = (left i).gray; room = h.room i; log = (left i).log; drained = (left i).drained; phase = (left i).phase },
      λ i. record { regions = (left i).regions; pool = h.pool i; area_start = h.area i },
    )

-- the top is on the stack
pub top_is : (xs : List ℕ) → 0 < length xs → Contains xs (get_or xs 0 0)
top_is [] h = absurd (omega (arith, h))
top_is (x ∷ xs) h = list_has_its_head x xs
