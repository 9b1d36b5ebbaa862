use Rattle.std.proofs.Common.{◌≡◌, ◌∙◌, ◌<◌, ◌≤◌, Some, length, get_or, sym, ap, arith}
use Rattle.std.specs.Prelude.{option_map, slice_get}
use Rattle.std.proofs.lemmas.Bool.{ltb-true}
use Rattle.heap_trail.specs.Listings.{listed_pin}
use Rattle.heap_trail.specs.Machine.{Machine}
use Rattle.heap_trail.proofs.Listings.{none_listed, slot_listed}
use Rattle.heap_trail.proofs.Machine.nth_pin.Goals as goal

pub returns-in-Some-clause-value : goal.returns-in-Some-clause-value
returns-in-Some-clause-value c =
    let i = c.self.inside in
    let same = c.deref.ensures.value in
    let h = c.in-Some.ensures.lookup in
    let at : c.in-Some.pin.now ≡ get_or i.pins.items c.args.index c.in-Some.pin.now
    = h.1 ∙ ap (λ l. get_or l c.args.index c.in-Some.pin.now) same in
    let within : c.args.index < length i.pins.items = omega (arith, ap length same, ltb-true _ _ (sym h.0)) in
    ap Some c.describe.ensures
    ∙ slot_listed i.world i.next c.args.index i.pins.items c.in-Some.pin.now within at
    ∙ ap (λ (m : Machine). option_map listed_pin (slice_get m.pins.open_pins c.args.index)) c.self.view_is

pub returns-in-None-clause-value : goal.returns-in-None-clause-value
returns-in-None-clause-value c =
    let i = c.self.inside in
    let past : length i.pins.items ≤ c.args.index = omega (arith, ap length c.deref.ensures.value, c.in-None.ensures.lookup.3) in
    none_listed i.world i.next c.args.index i.pins.items past
    ∙ ap (λ (m : Machine). option_map listed_pin (slice_get m.pins.open_pins c.args.index)) c.self.view_is

pub returns-in-Some-clause-limit : goal.returns-in-Some-clause-limit
returns-in-Some-clause-limit c =
    let i = c.self.inside in
    let within : c.args.index < length i.pins.items = omega (arith, ap length c.deref.ensures.value, ltb-true _ _ (sym c.in-Some.ensures.lookup.0)) in
    omega (arith, within, c.self.invariant.1.few)
