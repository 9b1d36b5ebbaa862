-- What an event or a rewind makes of the trail, and what it is answered, doesn't depend on the pins; a dumper's action leaves the
-- trail.
use Rattle.std.proofs.Common.{◌≡◌, ◌+◌, ◌≤◌, true, false, refl, sym, ap, ◌∙◌, arith}
use Rattle.std.specs.Prelude.{◌≢◌}
use Rattle.heap_class.specs.declared.IdSize.{IdSize}
use Rattle.heap_class.specs.declared.Refusal.TheVariants.{NoMemory}
use Rattle.heap_trail.specs.declared.Action.{Action}
use Rattle.heap_trail.specs.declared.Action.TheVariants.{Step, Rewind, OpenPin, NextPiece, ClosePin}
use Rattle.heap_trail.specs.declared.Reply.{Reply}
use Rattle.heap_trail.specs.declared.Reply.TheVariants.{Refused}
use Rattle.heap_trail.specs.Trail.{Trail}
use Rattle.heap_trail.specs.Machine.{Machine, Allocation, Granted, Denied, LosesPins, acted, acted_under, is_dump_action}
use Rattle.heap_trail.proofs.Alone.{Core, core, bared, action_alike_when_bared, acted_core}

-- what an action that is answered, or refused for another reason than memory, leaves and replies
pub acts_alike : (ids : IdSize) (m m' : Machine) (a : Action) (allocation : Allocation) (r : Reply) → is_dump_action a ≡ false → acted_under m (a, allocation) ≡ (m', r) → r ≢ Refused NoMemory
    → (m'.trail ≡ (acted (bared ids m) a).0.trail) × (r ≡ (acted (bared ids m) a).1) × (m'.keep ≡ m.keep) × (m'.ids ≡ m.ids)
unfolding acted_under
acts_alike ids m m' a Granted r deed is ne =
    let t = action_alike_when_bared ids m a deed in (
      sym (ap (λ (x : Machine × Reply). x.0.trail) is) ∙ t.0,
      sym (ap (λ (x : Machine × Reply). x.1) is) ∙ t.1,
      sym (ap (λ (x : Machine × Reply). x.0.keep) is) ∙ t.2,
      sym (ap (λ (x : Machine × Reply). x.0.ids) is) ∙ t.3,
    )
acts_alike ids m m' a Denied r deed is ne = absurd (ne (sym (ap (λ (x : Machine × Reply). x.1) is)))
acts_alike ids m m' a (LosesPins pins) r deed is ne =
    let t = action_alike_when_bared ids m a deed in (
      sym (ap (λ (x : Machine × Reply). x.0.trail) is) ∙ t.0,
      sym (ap (λ (x : Machine × Reply). x.1) is) ∙ t.1,
      sym (ap (λ (x : Machine × Reply). x.0.keep) is) ∙ t.2,
      sym (ap (λ (x : Machine × Reply). x.0.ids) is) ∙ t.3,
    )

-- ---- the dumper's actions

-- the same trail, keep and ids
abbrev LeavesTrailKeepIds : Machine → Machine → Type 0
LeavesTrailKeepIds m m' = (m'.trail ≡ m.trail) × (m'.keep ≡ m.keep) × (m'.ids ≡ m.ids)

of_core : (m m' : Machine) → core m' ≡ core m → LeavesTrailKeepIds m m'
of_core m m' e = (ap (λ (c : Core). c.2) e, ap (λ (c : Core). c.0) e, ap (λ (c : Core). c.1) e)

dump_leaves : (m : Machine) (a : Action) → is_dump_action a ≡ true → LeavesTrailKeepIds m (acted m a).0
dump_leaves m (Step e) dump = absurd (cc dump)
dump_leaves m (Rewind n) dump = absurd (cc dump)
dump_leaves m (OpenPin at) dump = of_core m (acted m (OpenPin at)).0 (acted_core m (OpenPin at))
dump_leaves m (NextPiece pin time) dump = of_core m (acted m (NextPiece pin time)).0 (acted_core m (NextPiece pin time))
dump_leaves m (ClosePin pin) dump = of_core m (acted m (ClosePin pin)).0 (acted_core m (ClosePin pin))

-- a dumper's action leaves the trail, how many records are kept, and the size of ids
pub dumps_leave : (m m' : Machine) (a : Action) (allocation : Allocation) (r : Reply) → is_dump_action a ≡ true → acted_under m (a, allocation) ≡ (m', r) → LeavesTrailKeepIds m m'
unfolding acted_under
dumps_leave m m' a Granted r dump is =
    let t = dump_leaves m a dump in
    (sym (ap (λ (x : Machine × Reply). x.0.trail) is) ∙ t.0, sym (ap (λ (x : Machine × Reply). x.0.keep) is) ∙ t.1, sym (ap (λ (x : Machine × Reply). x.0.ids) is) ∙ t.2)
dumps_leave m m' a Denied r dump is =
    (sym (ap (λ (x : Machine × Reply). x.0.trail) is), sym (ap (λ (x : Machine × Reply). x.0.keep) is), sym (ap (λ (x : Machine × Reply). x.0.ids) is))
dumps_leave m m' a (LosesPins pins) r dump is =
    let t = dump_leaves m a dump in
    (sym (ap (λ (x : Machine × Reply). x.0.trail) is) ∙ t.0, sym (ap (λ (x : Machine × Reply). x.0.keep) is) ∙ t.1, sym (ap (λ (x : Machine × Reply). x.0.ids) is) ∙ t.2)

-- no action raises the place by more than one
pub place_rises_at_most_one : (m : Machine) (a : Action) → (acted m a).0.trail.place ≤ m.trail.place + 1
place_rises_at_most_one m (Step e) = (action_alike_when_bared m.ids m (Step e) refl).4
place_rises_at_most_one m (Rewind n) = (action_alike_when_bared m.ids m (Rewind n) refl).4
place_rises_at_most_one m (OpenPin at) = omega (arith, ap (λ (t : Trail). t.place) (dump_leaves m (OpenPin at) refl).0)
place_rises_at_most_one m (NextPiece pin time) = omega (arith, ap (λ (t : Trail). t.place) (dump_leaves m (NextPiece pin time) refl).0)
place_rises_at_most_one m (ClosePin pin) = omega (arith, ap (λ (t : Trail). t.place) (dump_leaves m (ClosePin pin) refl).0)
