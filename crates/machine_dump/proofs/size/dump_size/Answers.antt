use Rattle.std.proofs.Common.{◌∙◌, ap, length, [], ◌∷◌}
use Rattle.hprof_text.specs.Segments.{dump_text}
use Rattle.heap_pins.specs.Pin.{pin_image}
use Rattle.heap_pins.specs.View.{PinShown}
use Rattle.heap_pins.proofs.ShownImages.{image_is}
use Rattle.heap_pins.proofs.RecordWalks.{walked_pin_holds_its_state}
use Rattle.machine_dump.proofs.size.dump_size.Goals as goal

pub new-view-requires : goal.new-view-requires
new-view-requires c =
    let w = c.args.world.now in
    let h = walked_pin_holds_its_state c.in-Ok.pin w 0 (w ∷ []) (c.in-Ok.ensures.opened []) in
    (w, h.pin, h.shows)

pub returns-in-Ok : goal.returns-in-Ok
returns-in-Ok c time =
    let w = c.args.world.now in
    let h = walked_pin_holds_its_state c.in-Ok.pin w 0 (w ∷ []) (c.in-Ok.ensures.opened []) in
    c.text_len.ensures time ∙ ap (λ (v : PinShown). length (dump_text v.ids (pin_image v.pin v.state) time)) c.new-view.ensures ∙ ap (λ image. length (dump_text c.args.ids image time)) (image_is c.in-Ok.pin w w h.pin h.shows)
