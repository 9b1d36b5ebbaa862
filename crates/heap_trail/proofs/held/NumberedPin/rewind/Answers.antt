use Rattle.std.proofs.Common.{sym, ap, ◌∙◌, arith}
use Rattle.heap_trail.specs.declared.held.NumberedPin.{NumberedPin}
use Rattle.heap_trail.proofs.PinCalls.{boolean_not_true_and_false, pin_above_place_is_lost, pin_below_place_stays, lost_pin_stays_after_rewind}
use Rattle.heap_trail.proofs.held.NumberedPin.rewind.Goals.{in-Kept, in-Lost}
use Rattle.heap_trail.proofs.held.NumberedPin.rewind.Goals as goal

pub returns-then-lost : goal.returns-then-lost
returns-then-lost c = elim c.match-self.branch [
  | in-Kept w ↦ pin_above_place_is_lost c.args.self.now c.match-self.self.number c.args.to w.in-Kept.place w.in-Kept.pin w.in-Kept.cursor w.in-Kept.given (ap (λ (s : NumberedPin). s.number) w.self-is) w.in-Kept.is c.place-place.result c.place-place.ensures
      (let t = sym w.lost-is ∙ c.if-lost.true in grind (arith, t))
  | in-Lost w ↦ boolean_not_true_and_false c.match-self.lost w.lost-is c.if-lost.true
]

pub returns-else-lost : goal.returns-else-lost
returns-else-lost c = elim c.match-self.branch [
  | in-Kept w ↦ pin_below_place_stays c.args.self.now c.match-self.self c.args.to w.in-Kept.place w.in-Kept.pin w.in-Kept.cursor w.in-Kept.given w.self-is w.in-Kept.is c.place-place.result c.place-place.ensures
      (let t = sym w.lost-is ∙ c.if-lost.false in grind (arith, t))
  | in-Lost w ↦ lost_pin_stays_after_rewind c.args.self.now c.match-self.self c.args.to w.in-Lost.place w.in-Lost.cause w.self-is w.in-Lost.is
]
