use Rattle.std.proofs.Common.{◌≡◌, Some, sym, ap, ◌∙◌}
use Rattle.std.proofs.lemmas.Option.{same_Some}
use Rattle.heap_history.specs.Packs.{event_pack}
use Rattle.heap_history.proofs.EventPacks.{equal_packs_have_equal_events}
use Rattle.heap_history.proofs.same.is_same_event.Goals as goal

pub returns-in-Some-pack_event : goal.returns-in-Some-pack_event
returns-in-Some-pack_event c =
    let one : event_pack c.args.a.now ≡ Some c.in-Some.one = sym c.pack_event.ensures ∙ c.in-Some.is in
    let other : event_pack c.args.b.now ≡ Some c.in-Some-pack_event.other = sym c.pack_event-in-Some.ensures ∙ c.in-Some-pack_event.is in (
      (λ t. equal_packs_have_equal_events c.args.a.now c.args.b.now c.in-Some.one one (other ∙ ap Some (sym (c.is_same_deed.ensures.0 t)))),
      (λ e. c.is_same_deed.ensures.1 (same_Some _ _ (sym one ∙ ap event_pack e ∙ other))),
    )
