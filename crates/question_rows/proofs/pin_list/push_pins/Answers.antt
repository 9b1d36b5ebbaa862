use Rattle.std.proofs.Common.{◌≡◌, ◌∙◌, ◌++◌, List, Some, ap, arith, map, sym, take}
use Rattle.std.specs.Prelude.{flat_map, option_map, slice_get}
use Rattle.std.proofs.lemmas.List.{flat_map_more}
use Rattle.heap_trail.specs.declared.listing.ListedPin.{ListedPin}
use Rattle.heap_trail.specs.Listings.{listed_pin}
use Rattle.question_rows.specs.PinLists.{pin_text}
use Rattle.question_rows.proofs.PinRows.{pins_more}
use Rattle.question_rows.proofs.pin_list.push_pins.Goals as goal

pub loop-pin-preserved : goal.loop-pin-preserved
loop-pin-preserved c =
    let pins = c.args.machine.now.pins.open_pins in
    let i = c.loop-pin.count in
    let first = c.args.text.now.items in
    let pin = c.in-Some.pin in
    let h : option_map listed_pin (slice_get pins i) ≡ Some pin = sym c.nth_pin.ensures.value ∙ c.in-Some.is in
    let more = pins_more pins i pin h in
    record {
      lines = c.in_ok-push_pin.ensures
          ∙ ap (λ t. t ++ pin_text pin) c.loop-pin.invariant.lines
          ∙ flat_map_more pin_text first (map listed_pin (take i pins)) pin
          ∙ ap (λ (ps : List ListedPin). first ++ flat_map pin_text ps) (sym more.1);
      few = omega (arith, more.0);
    }
