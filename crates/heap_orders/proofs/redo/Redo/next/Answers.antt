use Rattle.std.proofs.Common.{◌∙◌, ◌-◌, ap, arith, sym}
use Rattle.std.specs.Option.{option_copied}
use Rattle.heap_orders.specs.Redos.{Redo, next_undone}
use Rattle.heap_orders.proofs.RetakenSteps.{event_there, none_is_past}
use Rattle.heap_orders.proofs.redo.Redo.next.Goals as goal

pub unreachable-requires : goal.unreachable-requires
unreachable-requires c =
    let past = none_is_past (c.self.inside.ahead - 1) c.self.inside.events.items (sym c.nth_front.ensures ∙ ap option_copied c.in-None.is) in
    let ahead = ap (λ (r : Redo). r.ahead) c.self.view_is in
    omega (arith, past, ahead, c.self.invariant, c.requires)

pub returns : goal.returns
returns c =
    let ahead = ap (λ (r : Redo). r.ahead) c.self.view_is in
    ap next_undone (sym c.self.view_is) ∙ event_there c.self.inside.ahead c.self.inside.events.items c.in-Some.event.now (omega (arith, ahead, c.requires)) (sym c.nth_front.ensures ∙ ap option_copied c.in-Some.is)
