-- The id of an object that stays where it is, and what registers reached of it.
use Rattle.std.proofs.Common.{◌≡◌, ◌≢◌, ℕ, zero, suc, ◌+◌, ◌*◌, ◌<◌, ◌≤◌, List, length, Option, Some, None, IsSome, refl, sym, ap, ◌∙◌, subst, inl, inr, arith, add-one}
use Rattle.std.specs.Option.{option_map_or}
use Rattle.std.proofs.lemmas.Bool.{cases_eq, false≢true}
use Rattle.std.proofs.lemmas.Option.{none-some, same_Some}
use Rattle.heap_class.specs.declared.ObjRef.{ObjRef}
use Rattle.hprof_text.proofs.Loops.{item_of_list_within}
use Rattle.heap_region.specs.Regions.{Object, Region, UsedRegion, id_of, object_at, used_at}
use Rattle.heap_region.specs.RegionCopies.{region_frozen}
use Rattle.heap_region.proofs.ChangedLookups.{object_at_ref}
use Rattle.heap_world.specs.Legal.{IsLegal}
use Rattle.heap_world.specs.Reach.{IsObject, Reaches}
use Rattle.heap_world.specs.State.{HeapState}
use Rattle.heap_step.specs.declared.Event.{Event}
use Rattle.heap_step.specs.declared.Undo.{Undo}
use Rattle.heap_step.specs.declared.Undo.TheVariants.{Reclaim}
use Rattle.heap_step.specs.Laws.{IsStep}
use Rattle.heap_pins.specs.KeptCopies.{patched, touched}
use Rattle.heap_pins.specs.Covers.{Covers}
use Rattle.heap_pins.specs.Walk.{TellsBefore}
use Rattle.heap_pins.proofs.CoveringCopies.{same_copy_covers}
use Rattle.heap_pins.proofs.RecordCases.{by_patch}
use Rattle.heap_trail.specs.Laws.{IsTrail}
use Rattle.heap_trail.specs.Trail.{Trail, retained, state_ago}
use Rattle.heap_trail.proofs.RetainedRecords.{HasRecord, has_record}
use Rattle.heap_trail.proofs.RetainedStates.{as_many_records_as_states, recorded_state_is_legal}
use Rattle.heap_questions.specs.Losses.{StoodFor, UnreachedFor, id_now}
use Rattle.heap_questions.proofs.ImagePaths.{id_back}
use Rattle.heap_questions.proofs.Sizes.{covered_size, patched_size, same_regions, used_of}
use Rattle.heap_questions.proofs.ToldObjects.{reclaimed_none, step_tells_before}
use Rattle.heap_questions.proofs.UnreachedObjects.{stays_unreached}
use Rattle.heap_questions.proofs.Walk.{now_is}

-- ---- one step

-- the region is in use after a step too, with cells of the same size
abbrev StaysSized : HeapState → ℕ → UsedRegion → Type 0
StaysSized after r u = (v : UsedRegion) × (used_at after.regions r ≡ Some v) × (v.cell_size ≡ u.cell_size)

untouched_sized : (left : Undo) (before after : HeapState) (r : ℕ) (u : UsedRegion) → TellsBefore left before after → touched left ≢ Some r → used_at before.regions r ≡ Some u → StaysSized after r u
unfolding region_frozen
untouched_sized left before after r u t n e = covered_size (used_at before.regions r) (used_at after.regions r) u (t.others r n) e

none_touched : (left : Undo) (before after : HeapState) (r : ℕ) (u : UsedRegion) → touched left ≡ None → TellsBefore left before after → used_at before.regions r ≡ Some u → StaysSized after r u
none_touched left before after r u n t e = untouched_sized left before after r u t (λ z. none-some r (sym n ∙ z)) e

pub region_stays_sized : (left : Undo) (before after : HeapState) (r : ℕ) (u : UsedRegion) → TellsBefore left before after → ((storage : UsedRegion) → left ≡ Reclaim r storage → ⊥) → used_at before.regions r ≡ Some u → StaysSized after r u
unfolding touched region_frozen
region_stays_sized left before after r u t n e = by_patch (λ k. TellsBefore k before after → left ≡ k → StaysSized after r u)
    (λ k region p t is. elim (cases_eq r region) [
      | inl q ↦
          let covers = t.touched_region r (region_frozen after.regions r) (p.region ∙ ap Some (sym q)) (same_copy_covers _ _ refl) in
          patched_size (patched k) p.size (used_at before.regions r) (used_at after.regions r) u (subst (Covers (region_frozen before.regions r)) (p.walk (region_frozen after.regions r)) covers) e
      | inr q ↦ untouched_sized k before after r u t (λ z. q (sym (same_Some region r (sym p.region ∙ z)))) e
    ])
    (λ region storage t is. elim (cases_eq r region) [
      | inl q ↦ absurd (n storage (is ∙ ap (λ k. Reclaim k storage) (sym q)))
      | inr q ↦ untouched_sized (Reclaim region storage) before after r u t (λ z. q (sym (same_Some region r z))) e
    ])
    (λ k m t is. none_touched k before after r u m.none t e)
    left t refl

there_is : (regions : List Region) (at : ObjRef) → IsSome (object_at regions at) → (o : Object) × (object_at regions at ≡ Some o)
there_is regions at h = go (object_at regions at) refl h
  where
    go : (x : Option Object) → object_at regions at ≡ x → IsSome x → (o : Object) × (object_at regions at ≡ Some o)
    go None e s = absurd (false≢true s)
    go (Some o) e s = (o, e)

-- an object that stays where it is keeps its id
id_stays : (e : Event) (before after : HeapState) (left : Undo) (at : ObjRef) → IsStep e before after left → IsSome (object_at before.regions at) → IsSome (object_at after.regions at) → id_of before.regions at ≡ id_of after.regions at
unfolding id_of
id_stays e before after left at s b a =
    let o = there_is after.regions at a in
    let u = used_of before.regions at b in
    let v = region_stays_sized left before after at.region u.0 (step_tells_before e before after left s) (λ storage q. reclaimed_none e before after at.region storage at o.0 (subst (λ (l : Undo). IsStep e before after l) q s) refl o.1) u.1 in
    ap (λ n. 268435456 + 8 * (1024 * at.region + at.cell * n))
    (ap (λ (x : Option UsedRegion). option_map_or (λ (u : UsedRegion). u.cell_size) x 0) u.1 ∙ sym v.2 ∙ sym (ap (λ (x : Option UsedRegion). option_map_or (λ (u : UsedRegion). u.cell_size) x 0) v.1))

-- the id of an object that stands at a place names it
stands_object : (w : HeapState) (at : ObjRef) → IsLegal w → IsSome (object_at w.regions at) → IsObject w (id_of w.regions at)
stands_object w at legal h =
    let o = there_is w.regions at h in
    subst IsSome (sym (object_at_ref w.regions (id_of w.regions at) at (id_back w at o.0 legal o.1))) h

-- ---- the retained states

-- the step that led to the state of n steps ago
pub came_ago : (keep : ℕ) (t : Trail) (n : ℕ) → IsTrail keep t → n < retained t → (left : Undo) × HasRecord t n left
came_ago keep t n trail l =
    let left = item_of_list_within t.records n (omega (arith, l, as_many_records_as_states t.current t.past t.records trail.steps)) in
    (left.0, has_record keep t n left.0 trail left.1)

pub legal_ago : (keep : ℕ) (t : Trail) (n : ℕ) → IsTrail keep t → n ≤ retained t → IsLegal (state_ago n t)
legal_ago keep t zero trail l = subst IsLegal (sym (now_is t)) (recorded_state_is_legal t.current t.past t.records trail.steps)
legal_ago keep t (suc n) trail l = subst (λ k. IsLegal (state_ago k t)) (add-one n) (came_ago keep t n trail (omega (arith, l))).1.1.legal

-- the object had the id that it has now
id_ago : (keep : ℕ) (t : Trail) (at : ObjRef) (n : ℕ) → IsTrail keep t → n ≤ retained t → StoodFor t at (n + 1) → id_of (state_ago n t).regions at ≡ id_now t at
id_ago keep t at zero trail l s = ap (λ (w : HeapState). id_of w.regions at) (now_is t)
id_ago keep t at (suc n) trail l s =
    let c = came_ago keep t n trail (omega (arith, l)) in
    ap (λ k. id_of (state_ago k t).regions at) (sym (add-one n))
    ∙ id_stays c.1.0 (state_ago (n + 1) t) (state_ago n t) c.0 at c.1.1 (s (n + 1) (omega arith)) (s n (omega arith))
    ∙ id_ago keep t at n trail (omega (arith, l)) (λ m k. s m (omega (arith, k)))

-- an object that was unreached n steps ago has been since
pub unreached_since : (keep : ℕ) (t : Trail) (at : ObjRef) (n : ℕ) → IsTrail keep t → n ≤ retained t → StoodFor t at (n + 1) → ¬ Reaches (state_ago n t) (id_now t at) → UnreachedFor t at (n + 1)
unreached_since keep t at zero trail l s u m k = subst (λ j. ¬ Reaches (state_ago j t) (id_now t at)) (omega (arith, k)) u
unreached_since keep t at (suc n) trail l s u m k = elim (cases_eq m (suc n)) [
  | inl e ↦ subst (λ j. ¬ Reaches (state_ago j t) (id_now t at)) (sym e) u
  | inr d ↦
      let c = came_ago keep t n trail (omega (arith, l)) in
      let w = state_ago (n + 1) t in
      let id : id_of w.regions at ≡ id_now t at = id_ago keep t at (n + 1) trail (omega (arith, l)) (λ j z. s j (omega (arith, z))) in
      let there : IsObject w (id_now t at) = subst (IsObject w) id (stands_object w at c.1.1.legal (s (n + 1) (omega arith))) in
      let before : ¬ Reaches w (id_now t at) = subst (λ j. ¬ Reaches (state_ago j t) (id_now t at)) (sym (add-one n)) u in
      let after : ¬ Reaches (state_ago n t) (id_now t at) = subst (λ (v : HeapState). ¬ Reaches v (id_now t at)) (sym c.1.1.gave) (stays_unreached c.1.0 w c.1.1.legal c.1.1.accepted (id_now t at) there before) in
      unreached_since keep t at n trail (omega (arith, l)) (λ j z. s j (omega (arith, z))) after m (omega (arith, k, d))
]

-- each retained state has as many regions
pub regions_ago : (keep : ℕ) (t : Trail) (n : ℕ) → IsTrail keep t → n ≤ retained t → length (state_ago n t).regions ≡ length t.current.regions
regions_ago keep t zero trail l = ap (λ (w : HeapState). length w.regions) (now_is t)
regions_ago keep t (suc n) trail l =
    let c = came_ago keep t n trail (omega (arith, l)) in
    ap (λ k. length (state_ago k t).regions) (sym (add-one n))
    ∙ same_regions c.0 c.1.0 (state_ago (n + 1) t) (state_ago n t) c.1.1
    ∙ regions_ago keep t n trail (omega (arith, l))
