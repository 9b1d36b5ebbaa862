use Rattle.std.proofs.Common.{◌≡◌, ◌++◌, length, take, drop, map, ap, ◌∙◌, arith}
use Rattle.std.proofs.lemmas.List.{take_at, length-map}
use Rattle.heap_trail.specs.Pins.{after_rewind}
use Rattle.heap_trail.specs.Machine.{Machine}
use Rattle.heap_trail.specs.OpenPins.{pins_of, slot_after_rewind}
use Rattle.heap_trail.specs.Records.{machine_with}
use Rattle.heap_trail.proofs.PinnedRewinds.{pins_lost, pinning_lost}
use Rattle.heap_trail.proofs.Machine.lose.Goals as goal

pub invariant_of-self : goal.invariant_of-self
invariant_of-self c =
    let i = c.self.inside in
    let new : c.lose_above.new.pins ≡ map (slot_after_rewind c.args.to) i.pins.items = c.lose_above.ensures ∙ ap (map (slot_after_rewind c.args.to)) c.deref_mut.ensures.value in
    let items : take i.pins.len (c.lose_above.new.pins ++ drop (length c.lose_above.new.pins) i.pins.items) ≡ c.lose_above.new.pins
    = take_at c.lose_above.new.pins (drop (length c.lose_above.new.pins) i.pins.items) i.pins.len (omega (arith, ap length new, length-map i.pins.items (slot_after_rewind c.args.to), i.pins.ok.0)) in
    let room = c.self.invariant.2 in
    rw (items, new) (c.self.invariant.0, pinning_lost i.ids i.world i.records i.place i.next c.args.to i.pins.items c.self.invariant.1, room)

pub returns : goal.returns
returns c =
    let i = c.self.inside in
    let new : c.lose_above.new.pins ≡ map (slot_after_rewind c.args.to) i.pins.items = c.lose_above.ensures ∙ ap (map (slot_after_rewind c.args.to)) c.deref_mut.ensures.value in
    let items : take i.pins.len (c.lose_above.new.pins ++ drop (length c.lose_above.new.pins) i.pins.items) ≡ c.lose_above.new.pins
    = take_at c.lose_above.new.pins (drop (length c.lose_above.new.pins) i.pins.items) i.pins.len (omega (arith, ap length new, length-map i.pins.items (slot_after_rewind c.args.to), i.pins.ok.0)) in
    ap (λ ss. machine_with i.ids i.world i.records i.place i.keep (pins_of i.world i.next ss)) (items ∙ new)
    ∙ ap (machine_with i.ids i.world i.records i.place i.keep) (pins_lost i.world c.args.to i.next i.pins.items)
    ∙ ap (λ (m : Machine). record m { pins = after_rewind c.args.to m.pins }) c.self.view_is
