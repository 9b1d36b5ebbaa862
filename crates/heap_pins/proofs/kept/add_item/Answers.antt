use Rattle.std.proofs.Common.{◌≡◌, ◌+◌, ◌++◌, ◌∷◌, [], None, length, sym, subst, arith, refl}
use Rattle.std.specs.Prelude.{slice_set}
use Rattle.std.specs.Vec.{vec_capacity}
use Rattle.heap_pins.specs.declared.kept.KeptRegion.{KeptRegion}
use Rattle.heap_pins.specs.Slots.{AreSlots, IsSlotFor}
use Rattle.heap_pins.proofs.SlotTables.{added_slots_are_slots, free_number_is_small, free_number_leaves_room, item_is_added}
use Rattle.heap_pins.proofs.kept.add_item.Goals as goal

pub push_reserved-requires : goal.push_reserved-requires
push_reserved-requires c =
    omega (arith, free_number_leaves_room c.args.slots.now c.args.kept.now.items (vec_capacity c.args.kept.now) c.args.region c.requires.table c.requires.region c.requires.none, c.args.kept.now.ok.0)

pub overflow_cast-slot : goal.overflow_cast-slot
overflow_cast-slot c =
    omega (arith, free_number_is_small c.args.slots.now c.args.kept.now.items (vec_capacity c.args.kept.now) c.args.region c.requires.table c.requires.region c.requires.none, c.len-slot.ensures, c.args.kept.now.ok.0)

pub overflow_add-slot : goal.overflow_add-slot
overflow_add-slot c =
    omega (arith, free_number_is_small c.args.slots.now c.args.kept.now.items (vec_capacity c.args.kept.now) c.args.region c.requires.table c.requires.region c.requires.none, c.len-slot.ensures, c.args.kept.now.ok.0)

pub returns-clause-table : goal.returns-clause-table
returns-clause-table c =
    let slots = c.args.slots.now in
    let kept = c.args.kept.now.items in
    let k : KeptRegion = record { copy = None; cells = c.blank.result } in
    let count : length kept ≡ c.len-slot.result = omega (arith, c.len-slot.ensures, c.args.kept.now.ok.0) in
    subst (λ l. AreSlots l c.push_reserved.new.self.items (vec_capacity c.push_reserved.new.self)) (sym c.set.ensures)
    (subst (λ n. AreSlots (slice_set slots c.args.region (n + 1)) c.push_reserved.new.self.items (vec_capacity c.push_reserved.new.self)) count
    (subst (λ ks. AreSlots (slice_set slots c.args.region (length kept + 1)) ks (vec_capacity c.push_reserved.new.self)) (sym c.push_reserved.ensures.items)
    (subst (λ n. AreSlots (slice_set slots c.args.region (length kept + 1)) (kept ++ k ∷ []) n) (sym c.push_reserved.ensures.capacity)
    (added_slots_are_slots slots kept (vec_capacity c.args.kept.now) c.args.region k c.requires.table c.requires.region c.requires.none))))

pub returns-clause-slot : goal.returns-clause-slot
returns-clause-slot c =
    let slots = c.args.slots.now in
    let kept = c.args.kept.now.items in
    let k : KeptRegion = record { copy = None; cells = c.blank.result } in
    let count : length kept ≡ c.len-slot.result = omega (arith, c.len-slot.ensures, c.args.kept.now.ok.0) in
    subst (λ l. IsSlotFor slots kept l c.push_reserved.new.self.items c.args.region c.len-slot.result) (sym c.set.ensures)
    (subst (λ n. IsSlotFor slots kept (slice_set slots c.args.region (n + 1)) c.push_reserved.new.self.items c.args.region n) count
    (subst (λ ks. IsSlotFor slots kept (slice_set slots c.args.region (length kept + 1)) ks c.args.region (length kept)) (sym c.push_reserved.ensures.items)
    (item_is_added slots kept (vec_capacity c.args.kept.now) c.args.region k c.requires.table c.requires.region c.requires.none refl c.blank.ensures)))
