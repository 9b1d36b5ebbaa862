-- When registers lost an object.
use Rattle.std.proofs.Common.{◌≡◌, ℕ, Bool, false, ◌+◌, ◌-◌, ◌<◌, ◌≤◌, Option, Some, None, IsSome, refl, sym, ap, ◌∙◌, subst, inl, inr, arith}
use Rattle.std.specs.Prelude.{◌↔◌, IfSome, IfNone, IsTrue, is_some}
use Rattle.std.proofs.lemmas.Bool.{cases_lt, false≢true, true≢false}
use Rattle.heap_trail.specs.Image.{Image}
use Rattle.heap_class.specs.declared.ObjRef.{ObjRef}
use Rattle.heap_region.specs.Regions.{object_at}
use Rattle.heap_world.specs.Legal.{IsLegal}
use Rattle.heap_world.specs.Reach.{Reaches}
use Rattle.heap_world.specs.State.{HeapState}
use Rattle.heap_pins.specs.Images.{image_of}
use Rattle.heap_questions.specs.Graph.{IsPathTo, IsUnreached}
use Rattle.heap_questions.specs.declared.paths.Path.{Path}
use Rattle.heap_trail.specs.Laws.{IsTrail}
use Rattle.heap_trail.specs.Trail.{Trail, retained, state_ago}
use Rattle.heap_questions.specs.Changes.{IsBirth, IsOld}
use Rattle.heap_questions.specs.Hops.{slots_of}
use Rattle.heap_questions.specs.Losses.{HasStood, IsLostAt, IsNeverReached, IsNewest, LeavesOut, UnreachedFor, id_now}
use Rattle.heap_questions.proofs.ImagePaths.{path_is_reach}
use Rattle.heap_questions.proofs.PastIds.{unreached_since}
use Rattle.heap_questions.proofs.Walk.{now_is}

-- ---- a search of one state

pub told_by_path : (w : HeapState) (image : Image) (x : ℕ) (found : Option Path) → IsLegal w → image ≡ image_of w → IfSome found (λ p. IsPathTo image p.register (slots_of p.hops.items) x) → IfNone found (IsUnreached image x) → IsTrue (is_some found) ↔ Reaches w x
told_by_path w image x None legal e p n = (
  λ t. absurd (false≢true t),
  λ r. (let q = (path_is_reach w x legal).1 r in absurd (subst (λ (i : Image). IsUnreached i x) e n q.0 q.1 q.2)),
)
told_by_path w image x (Some p) legal e h n = (
  λ t. (path_is_reach w x legal).0 (p.register, slots_of p.hops.items, subst (λ (i : Image). IsPathTo i p.register (slots_of p.hops.items) x) e h),
  λ r. refl,
)

-- the search didn't reach it, under this name
pub not_reached : (w : HeapState) (x y : ℕ) (b : Bool) → (IsTrue b ↔ Reaches w x) → x ≡ y → b ≡ false → ¬ Reaches w y
not_reached w x y b told same missed r = true≢false (sym (told.1 (subst (Reaches w) (sym same) r)) ∙ missed)

-- ---- how long an object stood

pub stood_since : (keep : ℕ) (t : Trail) (at : ObjRef) (place : ℕ) → IsTrail keep t → IsBirth t at place → HasStood t at (t.place - place)
stood_since keep t at place trail b =
    let n : t.place - place ≡ b.ago = omega (arith, b.within, b.place_is, trail.placed) in
    subst (HasStood t at) (sym n) (record { within = omega (arith, b.within); stood = b.since; before = λ l. b.before })

pub stood_always : (t : Trail) (at : ObjRef) → IsOld t at → HasStood t at (retained t)
stood_always t at old = record { within = omega arith; stood = old; before = λ l. absurd (omega (arith, l)) }

-- ---- halving

pub unreached_more : (keep : ℕ) (t : Trail) (at : ObjRef) (oldest n : ℕ) → IsTrail keep t → HasStood t at oldest → n ≤ oldest → ¬ Reaches (state_ago n t) (id_now t at) → UnreachedFor t at (n + 1)
unreached_more keep t at oldest n trail h l u = unreached_since keep t at n trail (omega (arith, l, h.within)) (λ m k. h.stood m (omega (arith, k, l))) u

-- no state is left between what was unreached and what is left out
pub newest_left : (t : Trail) (at : ObjRef) (oldest last : ℕ) (newest : Option ℕ) → LeavesOut t at oldest last newest → UnreachedFor t at (last + 1) → IsNewest t at oldest newest
newest_left t at oldest last None e u = subst (λ k. UnreachedFor t at (k + 1)) e u
newest_left t at oldest last (Some n) e u = (e.1, e.2, subst (UnreachedFor t at) (sym e.0) u)

pub newest_here : (t : Trail) (at : ObjRef) (oldest n : ℕ) → n ≤ oldest → Reaches (state_ago n t) (id_now t at) → UnreachedFor t at n → IsNewest t at oldest (Some n)
newest_here t at oldest n l r u = (l, r, u)

pub left_out : (t : Trail) (at : ObjRef) (oldest n : ℕ) → 0 < n → n ≤ oldest → Reaches (state_ago n t) (id_now t at) → LeavesOut t at oldest (n - 1) (Some n)
left_out t at oldest n some l r = (omega (arith, some), l, r)

-- ---- the answer

pub reached_now : (t : Trail) (at : ObjRef) (oldest n : ℕ) → IsNewest t at oldest (Some n) → n ≡ 0 → Reaches t.current (id_now t at)
reached_now t at oldest n h e = subst (λ (w : HeapState). Reaches w (id_now t at)) (ap (λ k. state_ago k t) e ∙ now_is t) h.1

pub never_reached : (t : Trail) (at : ObjRef) (oldest : ℕ) → HasStood t at oldest → UnreachedFor t at (oldest + 1) → IsNeverReached t at
never_reached t at oldest h u k within stood m l = elim (cases_lt m (oldest + 1)) [
  | inl lt ↦ u m lt
  | inr ge ↦
      let none : object_at (state_ago (oldest + 1) t).regions at ≡ None = h.before (omega (arith, ge, l, within)) in
      absurd (false≢true (subst IsSome none (stood (oldest + 1) (omega (arith, ge, l)))))
]

pub lost_at : (t : Trail) (at : ObjRef) (oldest n place : ℕ) → HasStood t at oldest → IsNewest t at oldest (Some n) → 0 < n → place ≡ t.place - (n - 1) → IsLostAt t at place
lost_at t at oldest n place h r some e =
    let same : n - 1 + 1 ≡ n = omega (arith, some) in
    record {
      ago = n - 1;
      within = omega (arith, r.0, some, h.within);
      place_is = e;
      stood = λ m k. h.stood m (omega (arith, k, r.0, some));
      before = subst (λ k. Reaches (state_ago k t) (id_now t at)) (sym same) r.1;
      since = subst (UnreachedFor t at) (sym same) r.2;
    }
