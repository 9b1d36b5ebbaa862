-- A list of actions, one after the other.
use Rattle.std.proofs.Common.{◌≡◌, List, [], ◌∷◌, ◌++◌, map, refl, sym, ap, subst, ◌∙◌}
use Rattle.heap_trail.specs.declared.Action.{Action}
use Rattle.heap_trail.specs.declared.Reply.{Reply}
use Rattle.heap_trail.specs.Machine.{Machine, Allocation, MayStand, AreAllocations, MayReply, MayDrive, acted_under, machine_after, replies_of}

pub driven_none : (m : Machine) → MayDrive m [] [] m
unfolding replies_of machine_after
driven_none m = ([], refl, tt, refl, refl)

actions_more : (paired : List (Action × Allocation)) (a : Action × Allocation) → map (λ a. a.0) (paired ++ a ∷ []) ≡ map (λ a. a.0) paired ++ a.0 ∷ []
actions_more [] a = refl
actions_more (x ∷ paired) a = ap (λ l. x.0 ∷ l) (actions_more paired a)

allocations_with_one_action_more : (m : Machine) (paired : List (Action × Allocation)) (a : Action × Allocation) → AreAllocations m paired → MayStand (machine_after m paired) a → AreAllocations m (paired ++ a ∷ [])
unfolding machine_after
allocations_with_one_action_more m [] a h s = (s, tt)
allocations_with_one_action_more m (x ∷ paired) a h s = (h.0, allocations_with_one_action_more (acted_under m x).0 paired a h.1 s)

replies_with_one_action_more : (m : Machine) (paired : List (Action × Allocation)) (a : Action × Allocation) → replies_of m (paired ++ a ∷ []) ≡ replies_of m paired ++ (acted_under (machine_after m paired) a).1 ∷ []
unfolding replies_of machine_after
replies_with_one_action_more m [] a = refl
replies_with_one_action_more m (x ∷ paired) a = ap (λ l. (acted_under m x).1 ∷ l) (replies_with_one_action_more (acted_under m x).0 paired a)

machine_after_one_action_more : (m : Machine) (paired : List (Action × Allocation)) (a : Action × Allocation) → machine_after m (paired ++ a ∷ []) ≡ (acted_under (machine_after m paired) a).0
unfolding machine_after
machine_after_one_action_more m [] a = refl
machine_after_one_action_more m (x ∷ paired) a = machine_after_one_action_more (acted_under m x).0 paired a

-- one action more
pub driven_more : (m : Machine) (actions : List Action) (replies : List Reply) (n k : Machine) (a : Action) (r : Reply) → MayDrive m actions replies n → MayReply n a k r → MayDrive m (actions ++ a ∷ []) (replies ++ r ∷ []) k
driven_more m actions replies n k a r d s =
    let last : Action × Allocation = (a, s.0) in
    let reached : acted_under (machine_after m d.0) last ≡ (k, r) = ap (λ (x : Machine). acted_under x last) (sym d.4) ∙ s.2 in (
      d.0 ++ last ∷ [],
      actions_more d.0 last ∙ ap (λ l. l ++ a ∷ []) d.1,
      allocations_with_one_action_more m d.0 last d.2 (subst (λ (x : Machine). MayStand x last) d.4 s.1),
      (λ i. d.3 i ++ (sym reached i).1 ∷ []) ∙ sym (replies_with_one_action_more m d.0 last),
      (λ i. (sym reached i).0) ∙ sym (machine_after_one_action_more m d.0 last),
    )
