-- A cycle finds all that the registers reached as it began.
use Rattle.std.proofs.Common.{◌≡◌, ◌⊎◌, ℕ, ◌≤◌, List, [], ◌∷◌, length, refl, sym, ap, subst, ◌∙◌, Option, Some, None, true, not}
use mathlib.Core.Logic.{inl, inr}
use Rattle.std.specs.Prelude.{find, cond}
use Rattle.heap_world.specs.Regions.{Object, object_of}
use Rattle.heap_world.specs.Phase.{Phase}
use Rattle.heap_world.specs.Phase.TheVariants.{Idle, Marking}
use Rattle.heap_world.specs.MarkSteps.{is_marking}
use Rattle.heap_world.specs.State.{HeapState}
use Rattle.heap_world.specs.Reach.{Reaches}
use Rattle.heap_world.specs.Legal.{IsLegal, IsMarked, Sheltered}
use Rattle.heap_world.proofs.Clauses.{legal_heap_has_clauses}
use Rattle.heap_world.proofs.CycleFindings.{reached_found, found_marked, found_live}
use Rattle.heap_world.proofs.Finish.{settled, finish_settles, finish_due}
use Rattle.heap_world.proofs.Shapes.{NamesLike, names_like_after_kept_shape}
use Rattle.heap_world.proofs.MarkerEvents.{snap_shape, snap_reaches}
use Rattle.heap_step.specs.declared.Event.{Event}
use Rattle.heap_step.specs.declared.Event.TheVariants.{Snap, Finish}
use Rattle.heap_step.specs.declared.Undo.{Undo}
use Rattle.heap_step.specs.Apply.{refusal_of, state_after}
use Rattle.heap_step.proofs.EventLaws.{keeps_legal, stays_found, each_event_keeps_shapes, has_run}
use Rattle.heap_trail.specs.Laws.{AreSteps, FindsSnapshot}

-- the id names a marked or sheltered object, of the kind and the number of words of this one
abbrev IsFoundLike : HeapState → Object → ℕ → Type 0
IsFoundLike w o x = (IsMarked w x ⊎ Sheltered w x) × NamesLike w o x

-- while a cycle runs, that stays so
found_object_stays_found : (e : Event) (w : HeapState) → IsLegal w → refusal_of e w ≡ None → w.phase ≡ Marking → (state_after e w).phase ≡ Marking → (o : Object) (x : ℕ) → IsFoundLike w o x → IsFoundLike (state_after e w) o x
found_object_stays_found e w l accepted before after o x f = (
  stays_found e w l accepted before after x f.0,
  names_like_after_kept_shape w (state_after e w) x o (each_event_keeps_shapes e w (legal_heap_has_clauses w l) accepted x (found_live w (legal_heap_has_clauses w l) x f.0)) f.1,
)

snap_shapes : (w : HeapState) (o : Object) (x : ℕ) → object_of w.regions x ≡ Some o → NamesLike (state_after Snap w) o x
unfolding state_after
snap_shapes w o x e = snap_shape w x o e

snap_reached : (w : HeapState) (x : ℕ) → Reaches w x → Reaches (state_after Snap w) x
unfolding state_after
snap_reached = snap_reaches

-- a cycle begins with all found that the registers reached before it
reached_objects_begin_found : (e : Event) (w : HeapState) → IsLegal w → refusal_of e w ≡ None → e ≡ Snap → (state_after e w).phase ≡ Marking → (o : Object) (x : ℕ) → Reaches w x → object_of w.regions x ≡ Some o → IsFoundLike (state_after e w) o x
reached_objects_begin_found e w l accepted is_snap after o x r h = (
  reached_found (state_after e w) ((keeps_legal e w l accepted).tricolour after) x (subst (λ a. Reaches (state_after a w) x) (sym is_snap) (snap_reached w x r)),
  subst (λ a. NamesLike (state_after a w) o x) (sym is_snap) (snap_shapes w o x h),
)

-- the newest state in which no cycle runs, by cases of the newest state
newest_idle : (v w : HeapState) (rest : Option HeapState) → cond (not (is_marking v.phase)) (Some v) rest ≡ Some w → ((v.phase ≡ Idle) × (v ≡ w)) ⊎ ((v.phase ≡ Marking) × (rest ≡ Some w))
newest_idle v w rest = go v.phase refl
  where
    go : (p : Phase) → v.phase ≡ p → cond (not (is_marking p)) (Some v) rest ≡ Some w → ((v.phase ≡ Idle) × (v ≡ w)) ⊎ ((v.phase ≡ Marking) × (rest ≡ Some w))
    go Idle e f = inl (e, cc)
    go Marking e f = inr (e, f)

-- in a state in which a cycle runs, all is found that was reached in the newest state before it in which none ran
since_snapshot : (c : HeapState) (vs : List HeapState) (rs : List Undo) → AreSteps c vs rs → c.phase ≡ Marking → (w : HeapState) → find (λ v. not (is_marking v.phase)) vs ≡ Some w → (x : ℕ) (o : Object) → Reaches w x → object_of w.regions x ≡ Some o → IsFoundLike c o x
since_snapshot c [] rs s running w f x o reached h = cc
since_snapshot c (v ∷ vs) [] s running w f x o reached h = absurd s
since_snapshot c (v ∷ vs) (r ∷ rs) s running w f x o reached h = subst (λ u. IsFoundLike u o x) (sym s.0.1.gave) (go (newest_idle v w _ f) (λ before g. since_snapshot v vs rs s.1 before w g x o reached h))
  where
    e : Event
    e = s.0.0

    legal : IsLegal v
    legal = s.0.1.legal

    after : (state_after e v).phase ≡ Marking
    after = ap (λ (u : HeapState). u.phase) (sym s.0.1.gave) ∙ running

    first : v.phase ≡ Idle → (e ≡ Snap) ⊎ (v.phase ≡ Marking) → e ≡ Snap
    first idle (inl q) = q
    first idle (inr q) = let c : Idle ≡ Marking = sym idle ∙ q in cc

    go : ((v.phase ≡ Idle) × (v ≡ w)) ⊎ ((v.phase ≡ Marking) × (find (λ v. not (is_marking v.phase)) vs ≡ Some w)) → (v.phase ≡ Marking → find (λ v. not (is_marking v.phase)) vs ≡ Some w → IsFoundLike v o x) → IsFoundLike (state_after e v) o x
    go (inl q) rest = reached_objects_begin_found e v legal s.0.1.accepted (first q.0 (has_run e v after)) after o x (subst (λ u. Reaches u x) (sym q.1) reached) (ap (λ (u : HeapState). object_of u.regions x) q.1 ∙ h)
    go (inr q) rest = found_object_stays_found e v legal s.0.1.accepted q.0 after o x (rest q.0 q.1)

-- an accepted finish leaves it, and live
pub finds_snapshot : (c : HeapState) (past : List HeapState) (records : List Undo) → AreSteps c past records → refusal_of Finish c ≡ None → FindsSnapshot past (state_after Finish c)
unfolding refusal_of state_after
finds_snapshot c past records steps accepted w f x o r h =
    (settled p.0, finish_settles c x p.0 p.1, (p.2, p.3, marked))
  where
    due : (c.phase ≡ Marking) × (length c.gray ≡ 0) × (length c.log ≤ c.drained)
    due = finish_due c accepted

    found : IsFoundLike c o x
    found = since_snapshot c past records steps due.0 w f x o r h

    p : NamesLike c o x
    p = found.1

    marked : p.0.mark ≡ true
    marked = let m = found_marked c x due.1 due.2 found.0 in let q : p.0 ≡ m.0 = (let a = m.1 in let b = p.1 in cc) in ap (λ (z : Object). z.mark) q ∙ m.2
