-- What was there before an object was changed.
use Rattle.std.proofs.Common.{◌≡◌, ◌≢◌, ◌⊎◌, ◌↔◌, ℕ, List, refl, sym, ap, subst, ◌∙◌, Option, Some, None, IfSome}
use mathlib.Core.Logic.{inl, inr}
use Rattle.std.specs.Prelude.{slice_get, option_map}
use Rattle.heap_class.specs.declared.ObjRef.{ObjRef}
use Rattle.heap_region.specs.Regions.{Object, UsedRegion, Region, Empty, InUse, used_at, object_at, updated, in_used, with_region, with_object}
use Rattle.heap_region.proofs.UpdatedLists.{updated_elsewhere, updated_there}
use Rattle.heap_region.proofs.Lookups.{object_elsewhere, object_after_its_change, used_region_after_other_change, used_region_after_its_change}
use Rattle.heap_region.proofs.ChangedLookups.{same_or_not}

option_before_a_map : {A : Type 0} (f : A → A) (p : Option A) (y : A) → option_map f p ≡ Some y → (x : A) × (p ≡ Some x) × (y ≡ f x)
option_before_a_map f None y h = cc
option_before_a_map f (Some x) y h = (x, refl, cc)

-- two places are one or not
pub places_equal_or_different : (a b : ObjRef) → (a ≡ b) ⊎ (a ≢ b)
places_equal_or_different a b = go (same_or_not a.region b.region) (same_or_not a.cell b.cell)
  where
    go : (a.region ≡ b.region) ⊎ (a.region ≢ b.region) → (a.cell ≡ b.cell) ⊎ (a.cell ≢ b.cell) → (a ≡ b) ⊎ (a ≢ b)
    go (inl p) (inl q) = inl (λ i. record { region = p i; cell = q i })
    go (inr n) q = inr (λ e. n (ap (λ (r : ObjRef). r.region) e))
    go (inl p) (inr n) = inr (λ e. n (ap (λ (r : ObjRef). r.cell) e))

-- the region that was changed
pub used_was_region : (f : UsedRegion → UsedRegion) (rs : List Region) (a r : ℕ) (v : UsedRegion) → used_at (with_region a f rs) r ≡ Some v
    → (u : UsedRegion) × (used_at rs r ≡ Some u) × (((r ≡ a) × (v ≡ f u)) ⊎ ((r ≢ a) × (v ≡ u)))
used_was_region f rs a r v h = go (same_or_not r a)
  where
    go : (r ≡ a) ⊎ (r ≢ a) → (u : UsedRegion) × (used_at rs r ≡ Some u) × (((r ≡ a) × (v ≡ f u)) ⊎ ((r ≢ a) × (v ≡ u)))
    go (inl e) =
        let p = option_before_a_map f (used_at rs a) v (sym (used_region_after_its_change a f rs) ∙ ap (used_at (with_region a f rs)) (sym e) ∙ h) in
        (p.0, ap (used_at rs) e ∙ p.1, inl (e, p.2))
    go (inr n) = (v, sym (used_region_after_other_change a r f rs (λ q. n (sym q))) ∙ h, inr (n, refl))

pub object_was : (f : Object → Object) (rs : List Region) (at b : ObjRef) (o' : Object) → object_at (with_object at f rs) b ≡ Some o'
    → (o : Object) × (object_at rs b ≡ Some o) × (((b ≡ at) × (o' ≡ f o)) ⊎ ((b ≢ at) × (o' ≡ o)))
object_was f rs at b o' h = go (places_equal_or_different b at)
  where
    go : (b ≡ at) ⊎ (b ≢ at) → (o : Object) × (object_at rs b ≡ Some o) × (((b ≡ at) × (o' ≡ f o)) ⊎ ((b ≢ at) × (o' ≡ o)))
    go (inl e) =
        let p = option_before_a_map f (object_at rs at) o' (sym (object_after_its_change at f rs) ∙ ap (object_at (with_object at f rs)) (sym e) ∙ h) in
        (p.0, ap (object_at rs) e ∙ p.1, inl (e, p.2))
    go (inr n) = (o', sym (object_elsewhere at b f rs (λ q. n (sym q))) ∙ h, inr (n, refl))

-- what holds of a region's number, whatever its cells, still holds
pub part_with_region : (Q : UsedRegion → Type 0) (f : UsedRegion → UsedRegion) → ((u : UsedRegion) → Q u → Q (f u)) → (rs : List Region) (a r : ℕ) → IfSome (used_at rs r) Q → IfSome (used_at (with_region a f rs) r) Q
part_with_region Q f keep rs a r h = go (same_or_not r a)
  where
    over : (p : Option UsedRegion) → IfSome p Q → IfSome (option_map f p) Q
    over None q = q
    over (Some u) q = keep u q

    go : (r ≡ a) ⊎ (r ≢ a) → IfSome (used_at (with_region a f rs) r) Q
    go (inl e) = subst (λ k. IfSome (used_at (with_region a f rs) k) Q) (sym e) (subst (λ p. IfSome p Q) (sym (used_region_after_its_change a f rs)) (over (used_at rs a) (subst (λ k. IfSome (used_at rs k) Q) e h)))
    go (inr n) = subst (λ p. IfSome p Q) (sym (used_region_after_other_change a r f rs (λ q. n (sym q)))) h

pub part_with_object : (Q : UsedRegion → Type 0) → ((u : UsedRegion) (cs : List (Option Object)) → Q u → Q (record u { cells = cs })) → (f : Object → Object) (rs : List Region) (at : ObjRef) (r : ℕ) → IfSome (used_at rs r) Q → IfSome (used_at (with_object at f rs) r) Q
unfolding with_object
part_with_object Q keep f rs at r h = part_with_region Q (λ u. record u { cells = updated at.cell (option_map f) u.cells }) (λ u q. keep u (updated at.cell (option_map f) u.cells) q) rs at.region r h

empty_map : (f : UsedRegion → UsedRegion) (p : Option Region) → (option_map (in_used f) p ≡ Some Empty) ↔ (p ≡ Some Empty)
unfolding in_used
empty_map f None = (λ h. h, λ h. h)
empty_map f (Some Empty) = (λ h. h, λ h. h)
empty_map f (Some (InUse u)) = (λ h. cc, λ h. cc)

-- a change of one place of a list leaves what the change maps alike
same_updated : {A : Type 0} (g : A → A) (x : A) → ((p : Option A) → (option_map g p ≡ Some x) ↔ (p ≡ Some x)) → (xs : List A) (a k : ℕ) → (slice_get (updated a g xs) k ≡ Some x) ↔ (slice_get xs k ≡ Some x)
same_updated g x alike xs a k = go (same_or_not k a)
  where
    go : (k ≡ a) ⊎ (k ≢ a) → (slice_get (updated a g xs) k ≡ Some x) ↔ (slice_get xs k ≡ Some x)
    go (inl e) =
        let here : slice_get (updated a g xs) k ≡ option_map g (slice_get xs k) = ap (slice_get (updated a g xs)) e ∙ updated_there a g xs ∙ ap (λ i. option_map g (slice_get xs i)) (sym e) in
        (λ h. (alike (slice_get xs k)).0 (sym here ∙ h), λ h. here ∙ (alike (slice_get xs k)).1 h)
    go (inr n) = (λ h. sym (updated_elsewhere a k g xs (λ q. n (sym q))) ∙ h, λ h. updated_elsewhere a k g xs (λ q. n (sym q)) ∙ h)

-- a change of a region leaves the same regions empty
pub empty_with_region : (f : UsedRegion → UsedRegion) (rs : List Region) (a r : ℕ) → (slice_get (with_region a f rs) r ≡ Some Empty) ↔ (slice_get rs r ≡ Some Empty)
unfolding with_region
empty_with_region f rs a r = same_updated (in_used f) Empty (empty_map f) rs a r

none_map : (f : Object → Object) (p : Option (Option Object)) → (option_map (option_map f) p ≡ Some None) ↔ (p ≡ Some None)
none_map f None = (λ h. cc, λ h. cc)
none_map f (Some None) = (λ h. refl, λ h. refl)
none_map f (Some (Some o)) = (λ h. cc, λ h. cc)

-- a change of an object leaves the same cells free, and with an object
pub free_with_object : (f : Object → Object) (cells : List (Option Object)) (c k : ℕ) → (slice_get (updated c (option_map f) cells) k ≡ Some None) ↔ (slice_get cells k ≡ Some None)
free_with_object f cells c k = same_updated (option_map f) None (none_map f) cells c k

pub inhabited_with_object : (f : Object → Object) (cells : List (Option Object)) (c k : ℕ) (o : Object) → slice_get cells k ≡ Some (Some o) → (p : Object) × (slice_get (updated c (option_map f) cells) k ≡ Some (Some p))
inhabited_with_object f cells c k o h = go (same_or_not k c)
  where
    go : (k ≡ c) ⊎ (k ≢ c) → (p : Object) × (slice_get (updated c (option_map f) cells) k ≡ Some (Some p))
    go (inl e) = (f o, ap (slice_get (updated c (option_map f) cells)) e ∙ updated_there c (option_map f) cells ∙ ap (λ i. option_map (option_map f) (slice_get cells i)) (sym e) ∙ ap (option_map (option_map f)) h)
    go (inr n) = (o, updated_elsewhere c k (option_map f) cells (λ q. n (sym q)) ∙ h)
