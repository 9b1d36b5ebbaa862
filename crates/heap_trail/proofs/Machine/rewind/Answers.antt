use Rattle.std.proofs.Common.{◌≡◌, ◌+◌, ◌-◌, ◌<◌, ◌≤◌, sym, ap, subst, ◌∙◌, arith}
use Rattle.heap_class.specs.declared.Refusal.TheVariants.{TooFar}
use Rattle.heap_trail.specs.declared.Reply.TheVariants.{Place, Refused}
use Rattle.heap_trail.specs.Trail.{retained, rewound}
use Rattle.heap_trail.specs.Pins.{after_rewind}
use Rattle.heap_trail.specs.Machine.{Machine}
use Rattle.heap_trail.specs.OpenPins.{AreAllBelow}
use Rattle.heap_trail.proofs.LostPins.{pins_after_rewind_are_below, pins_below_a_higher_place}
use Rattle.heap_trail.proofs.RewoundMachines.{rewound_none, rewound_more, rewound_place, rewound_trail_retains_more, rewind_done, machine_refuses_far_rewind}
use Rattle.heap_trail.proofs.Machine.rewind.Goals as goal

pub returns-then-n-retained-clause-refused : goal.returns-then-n-retained-clause-refused
returns-then-n-retained-clause-refused c =
    machine_refuses_far_rewind c.args.self.now c.args.n (subst (λ k. k < c.args.n) c.retained_count-retained.ensures c.if-n-retained.true)
    ∙ ap (λ k. (c.args.self.now, Refused (TooFar c.args.n k))) (sym c.retained_count-retained.ensures)

pub loop-done-init : goal.loop-done-init
loop-done-init c = ap (λ t. record c.lose.new.self { trail = t }) (sym (rewound_none c.lose.new.self.trail))

pub undo_last-requires-clause-some : goal.undo_last-requires-clause-some
undo_last-requires-clause-some c =
    let s = c.args.self.now in
    let left : c.loop-done._done < retained s.trail = omega (arith, c.loop-done-test.true, c.if-n-retained.false, c.retained_count-retained.ensures) in
    let e = c.loop-done.invariant ∙ ap (λ (m : Machine). record m { trail = rewound c.loop-done._done m.trail }) c.lose.ensures in
    subst (λ (m : Machine). 0 < retained m.trail) (sym e) (rewound_trail_retains_more c.loop-done._done s.trail left)

pub undo_last-requires-clause-below : goal.undo_last-requires-clause-below
undo_last-requires-clause-below c =
    let s = c.args.self.now in
    let e = c.loop-done.invariant ∙ ap (λ (m : Machine). record m { trail = rewound c.loop-done._done m.trail }) c.lose.ensures in
    let up : c.place.result - c.args.n + 1 ≤ (rewound c.loop-done._done s.trail).place
    = omega (arith, rewound_place c.loop-done._done s.trail, c.place.ensures.value, c.place.ensures.trail.placed, c.retained_count-retained.ensures, c.if-n-retained.false, c.loop-done-test.true) in
    subst (λ (m : Machine). AreAllBelow m.trail.place m.pins) (sym e)
    (pins_below_a_higher_place (c.place.result - c.args.n + 1) (rewound c.loop-done._done s.trail).place (after_rewind (c.place.result - c.args.n) s.pins) up (pins_after_rewind_are_below (c.place.result - c.args.n) s.pins))

pub loop-done-preserved : goal.loop-done-preserved
loop-done-preserved c =
    let t = c.lose.new.self.trail in
    let same : retained t ≡ retained c.args.self.now.trail = ap (λ (m : Machine). retained m.trail) c.lose.ensures in
    let left : c.loop-done._done < retained t = omega (arith, c.loop-done-test.true, c.if-n-retained.false, c.retained_count-retained.ensures, same) in
    c.undo_last.ensures
    ∙ ap (λ (m : Machine). record m { trail = rewound 1 m.trail }) c.loop-done.invariant
    ∙ ap (λ u. record c.lose.new.self { trail = u }) (rewound_more c.loop-done._done t left)

pub returns-clause-done : goal.returns-clause-done
returns-clause-done c =
    let s = c.args.self.now in
    let within : c.args.n ≤ retained s.trail = omega (arith, c.if-n-retained.false, c.retained_count-retained.ensures) in
    let all : c.loop-done._done ≡ c.args.n = omega (arith, c.loop-done-test.false, c.loop-done.auto._done-end) in
    let to : c.place.result - c.args.n ≡ (rewound c.args.n s.trail).place = omega (arith, c.place.ensures.value, rewound_place c.args.n s.trail) in
    let e : c.loop-done.self ≡ record s { trail = rewound c.args.n s.trail; pins = after_rewind (rewound c.args.n s.trail).place s.pins }
    = c.loop-done.invariant ∙ ap (λ (m : Machine). record m { trail = rewound c.loop-done._done m.trail }) c.lose.ensures ∙ (λ i. record s { trail = rewound (all i) s.trail; pins = after_rewind (to i) s.pins }) in
    rewind_done s c.args.n within
    ∙ ap (λ (m : Machine). (m, Place m.trail.place)) (sym e)
    ∙ ap (λ p. (c.loop-done.self, Place p)) (sym c.place-2.ensures.value)
