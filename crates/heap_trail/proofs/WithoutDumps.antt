-- Steps and rewinds of a list are answered as without its dumps.
use Rattle.std.proofs.Common.{◌≡◌, false, List, [], ◌∷◌, refl, sym, ap, ◌∙◌}
use Rattle.heap_step.specs.Apply.{event_may_grow}
use Rattle.heap_trail.specs.declared.Action.{Action}
use Rattle.heap_trail.specs.declared.Action.TheVariants.{Step, Rewind, OpenPin, NextPiece, ClosePin}
use Rattle.heap_trail.specs.Machine.{Machine, Allocation, Granted, Denied, LosesPins, acted, acted_under, replies_of, is_dump_action, without_dumps, may_grow, is_accepted, MayStand, AreAllocations}
use Rattle.heap_trail.specs.Headline.{replies_beside_dumps, GoesAsWithoutDumps}
use Rattle.heap_trail.proofs.Alone.{Core, core, bare, action_alike_when_bared, core_after, under_core, leaves_trail}

-- ---- one action of two machines that differ in their pins alone

acted_reply : (m n : Machine) (a : Action) → is_dump_action a ≡ false → core m ≡ core n → (acted m a).1 ≡ (acted n a).1
acted_reply m n a deed e = (action_alike_when_bared m.ids m a deed).1 ∙ ap (λ (c : Core). (acted (bare c) a).1) e ∙ sym (action_alike_when_bared n.ids n a deed).1

same_reply : (m n : Machine) (a : Action) (k : Allocation) → is_dump_action a ≡ false → core m ≡ core n → (acted_under m (a, k)).1 ≡ (acted_under n (a, k)).1
unfolding acted_under
same_reply m n a Granted deed e = acted_reply m n a deed e
same_reply m n a Denied deed e = refl
same_reply m n a (LosesPins pins) deed e = acted_reply m n a deed e

same_core : (m n : Machine) (a : Action) (k : Allocation) → core m ≡ core n → core (acted_under m (a, k)).0 ≡ core (acted_under n (a, k)).0
same_core m n a k e = under_core m a k ∙ ap (λ (c : Core). core_after c (a, k)) e ∙ sym (under_core n a k)

same_growth : (m n : Machine) (a : Action) → core m ≡ core n → may_grow a m ≡ may_grow a n
unfolding may_grow
same_growth m n (Step event) e = ap (λ (c : Core). event_may_grow event c.2.current) e
same_growth m n (Rewind k) e = refl
same_growth m n (OpenPin at) e = refl
same_growth m n (NextPiece pin time) e = refl
same_growth m n (ClosePin pin) e = refl

same_standing : (m n : Machine) (a : Action) (k : Allocation) → is_dump_action a ≡ false → core m ≡ core n → MayStand m (a, k) → MayStand n (a, k)
same_standing m n a Granted deed e s = tt
same_standing m n a Denied deed e s = (sym (same_growth m n a e) ∙ s.0, sym (ap is_accepted (acted_reply m n a deed e)) ∙ s.1)
same_standing m n a (LosesPins pins) deed e s = (s.0, sym (ap is_accepted (acted_reply m n a deed e)) ∙ s.1)

-- ---- a list

-- with the dumps from m, and without them from n
pub replies_alike : (m n : Machine) (actions : List (Action × Allocation)) → core m ≡ core n → replies_beside_dumps m actions ≡ replies_of n (without_dumps actions)
unfolding replies_beside_dumps replies_of without_dumps
replies_alike m n [] e = refl
replies_alike m n ((Step event, k) ∷ more) e = λ i. same_reply m n (Step event) k refl e i ∷ replies_alike (acted_under m (Step event, k)).0 (acted_under n (Step event, k)).0 more (same_core m n (Step event) k e) i
replies_alike m n ((Rewind by, k) ∷ more) e = λ i. same_reply m n (Rewind by) k refl e i ∷ replies_alike (acted_under m (Rewind by, k)).0 (acted_under n (Rewind by, k)).0 more (same_core m n (Rewind by) k e) i
replies_alike m n ((OpenPin at, k) ∷ more) e = replies_alike (acted_under m (OpenPin at, k)).0 n more (under_core m (OpenPin at) k ∙ e)
replies_alike m n ((NextPiece pin time, k) ∷ more) e = replies_alike (acted_under m (NextPiece pin time, k)).0 n more (under_core m (NextPiece pin time) k ∙ e)
replies_alike m n ((ClosePin pin, k) ∷ more) e = replies_alike (acted_under m (ClosePin pin, k)).0 n more (under_core m (ClosePin pin) k ∙ e)

allocations_alike_without_dumps : (m n : Machine) (actions : List (Action × Allocation)) → core m ≡ core n → AreAllocations m actions → AreAllocations n (without_dumps actions)
unfolding without_dumps
allocations_alike_without_dumps m n [] e s = tt
allocations_alike_without_dumps m n ((Step event, k) ∷ more) e s = (same_standing m n (Step event) k refl e s.0, allocations_alike_without_dumps (acted_under m (Step event, k)).0 (acted_under n (Step event, k)).0 more (same_core m n (Step event) k e) s.1)
allocations_alike_without_dumps m n ((Rewind by, k) ∷ more) e s = (same_standing m n (Rewind by) k refl e s.0, allocations_alike_without_dumps (acted_under m (Rewind by, k)).0 (acted_under n (Rewind by, k)).0 more (same_core m n (Rewind by) k e) s.1)
allocations_alike_without_dumps m n ((OpenPin at, k) ∷ more) e s = allocations_alike_without_dumps (acted_under m (OpenPin at, k)).0 n more (under_core m (OpenPin at) k ∙ e) s.1
allocations_alike_without_dumps m n ((NextPiece pin time, k) ∷ more) e s = allocations_alike_without_dumps (acted_under m (NextPiece pin time, k)).0 n more (under_core m (NextPiece pin time) k ∙ e) s.1
allocations_alike_without_dumps m n ((ClosePin pin, k) ∷ more) e s = allocations_alike_without_dumps (acted_under m (ClosePin pin, k)).0 n more (under_core m (ClosePin pin) k ∙ e) s.1

pub goes_as_without_dumps : (m : Machine) (actions : List (Action × Allocation)) → GoesAsWithoutDumps m actions
goes_as_without_dumps m actions = (replies_alike m m actions refl, leaves_trail m actions, allocations_alike_without_dumps m m actions refl)
