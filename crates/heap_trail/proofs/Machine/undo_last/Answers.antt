use Rattle.std.proofs.Common.{◌≡◌, vec_capacity, ◌-◌, ◌≤◌, sym, ap, subst, ◌∙◌}
use Rattle.circular_buffer.specs.Buffer.{Buffer}
use Rattle.heap_world.specs.declared.Limits.{Limits}
use Rattle.heap_step.specs.declared.Undo.{Undo}
use Rattle.heap_trail.specs.Trail.{rewound}
use Rattle.heap_trail.specs.Machine.{Machine}
use Rattle.heap_trail.specs.OpenPins.{AreAllBelow}
use Rattle.heap_trail.specs.Records.{IsWholeMachine, machine_of}
use Rattle.heap_trail.proofs.RewoundMachines.{popped, recorded_step_was_made, kept_after_undo, limits_before}
use Rattle.heap_trail.proofs.PinnedRewinds.{undone_pinned}
use Rattle.heap_trail.proofs.Machine.undo_last.Goals as goal

pub undo-requires : goal.undo-requires
undo-requires c = recorded_step_was_made c.self.inside.world c.self.inside.records.items c.in-Some.left c.self.invariant.0.recorded (sym c.in-Some.ensures.value)

pub invariant_of-self : goal.invariant_of-self
invariant_of-self c =
    let i = c.self.inside in
    let below = subst (λ (m : Machine). AreAllBelow m.trail.place m.pins) (sym c.self.view_is) c.requires.below in
    subst (λ (r : Buffer Undo). IsWholeMachine c.self.inside.ids c.undo.new.world r (i.place - 1) i.keep i.next i.pins.items (vec_capacity i.pins)) (sym c.in-Some.ensures.items) (
      kept_after_undo i.world c.undo.new.world c.in-Some.left i.records i.place i.keep c.self.invariant.0 (sym c.in-Some.ensures.value) c.undo.ensures,
      (undone_pinned i.ids i.world c.undo.new.world c.in-Some.left i.records i.place i.keep i.next i.pins.items c.self.invariant.0 c.self.invariant.1 (sym c.in-Some.ensures.value) c.undo.ensures below).0,
      subst (λ (l : Limits). l.pins ≤ vec_capacity i.pins) (sym (limits_before i.world c.undo.new.world c.in-Some.left i.records.items c.self.invariant.0.recorded (sym c.in-Some.ensures.value) c.undo.ensures)) c.self.invariant.2,
    )

pub returns : goal.returns
returns c =
    let i = c.self.inside in
    let below = subst (λ (m : Machine). AreAllBelow m.trail.place m.pins) (sym c.self.view_is) c.requires.below in
    ap (λ (r : Buffer Undo). machine_of c.self.inside.ids c.undo.new.world r (i.place - 1) i.keep i.next i.pins.items) c.in-Some.ensures.items
    ∙ subst (λ (m : Machine). machine_of c.self.inside.ids c.undo.new.world (popped i.records) (i.place - 1) i.keep i.next i.pins.items ≡ record m { trail = rewound 1 m.trail }) c.self.view_is
    (undone_pinned i.ids i.world c.undo.new.world c.in-Some.left i.records i.place i.keep i.next i.pins.items c.self.invariant.0 c.self.invariant.1 (sym c.in-Some.ensures.value) c.undo.ensures below).1
