use Rattle.std.proofs.Common.{[], sym, subst}
use Rattle.std.specs.Prelude.{slice_index_or}
use Rattle.heap_pins.specs.Pin.{PinContents}
use Rattle.heap_pins.specs.States.{AreSettled}
use Rattle.heap_pins.proofs.AddedCopies.{live_states_are_settled, states_are_settled}
use Rattle.heap_pins.proofs.pin.Pin.settle.Goals as goal

pub returns-in-Some : goal.returns-in-Some
returns-in-Some c = subst (λ (p : PinContents). AreSettled p.ended (slice_index_or p.cells c.args.region []) c.args.states.now c.settle_states.new.states) c.self.view_is
    (subst (λ l. AreSettled c.self.inside.ended l c.args.states.now c.settle_states.new.states) (sym c.in-Some.ensures) c.settle_states.ensures)

pub returns-then-self : goal.returns-then-self
returns-then-self c = subst (λ (p : PinContents). AreSettled p.ended (slice_index_or p.cells c.args.region []) c.args.states.now c.make_live.new.bytes) c.self.view_is
    (live_states_are_settled _ _ c.args.states.now c.make_live.new.bytes c.if-self.true c.in-None.ensures c.make_live.ensures.count c.make_live.ensures.bytes)

pub returns-else-self : goal.returns-else-self
returns-else-self c = subst (λ (p : PinContents). AreSettled p.ended (slice_index_or p.cells c.args.region []) c.args.states.now c.args.states.now) c.self.view_is
    (states_are_settled _ _ c.args.states.now c.if-self.false c.in-None.ensures)
