use Rattle.std.proofs.Common.{◌≡◌, ◌∙◌, false, map, replicate, sym, subst, arith}
use Rattle.std.specs.Prelude.{is_some}
use Rattle.std.specs.Vec.{vec_capacity}
use Rattle.heap_pins.specs.Slots.{AreSlots, bytes_in, copy_in}
use Rattle.heap_pins.proofs.SlotTables.{no_flags_at_first, no_slots_are_slots, nothing_is_kept_at_first}
use Rattle.heap_pins.proofs.kept.KeptRegions.new.Goals as goal

pub invariant_of-result : goal.invariant_of-result
invariant_of-result c =
    let flags : c.in_ok-copied.copied.items ≡ replicate c.args.count false = c.in_ok-copied.ensures.items_if_clones_equal (search) in
    let zeros : c.in_ok-slots.slots ≡ replicate c.args.count 0 = c.in_ok-slots.ensures in
    let capacity = vec_capacity c.in_ok-kept.kept in
    record {
      table = subst (λ l. AreSlots l c.in_ok-kept.kept.items capacity) (sym zeros)
          (subst (λ ks. AreSlots (replicate c.args.count 0) ks capacity) (sym c.in_ok-kept.ensures.items)
          (no_slots_are_slots c.args.count capacity (omega (arith, c.requires)) (omega (arith, c.in_ok-kept.ensures.capacity))));
      flags = flags ∙ no_flags_at_first c.args.count ∙ (λ j. map is_some (map (copy_in (sym c.in_ok-kept.ensures.items j)) (sym zeros j)));
    }

pub returns-clause-made : goal.returns-clause-made
returns-clause-made c =
    let zeros : c.in_ok-slots.slots ≡ replicate c.args.count 0 = c.in_ok-slots.ensures in
    (λ j. record { copies = map (copy_in (c.in_ok-kept.ensures.items j)) (zeros j); cells = map (bytes_in (c.in_ok-kept.ensures.items j)) (zeros j) })
    ∙ nothing_is_kept_at_first c.args.count
