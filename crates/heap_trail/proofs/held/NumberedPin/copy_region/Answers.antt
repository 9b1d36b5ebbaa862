use Rattle.std.proofs.Common.{sym, ap, ◌∙◌}
use Rattle.heap_trail.specs.declared.held.NumberedPin.{NumberedPin}
use Rattle.heap_trail.proofs.PinCalls.{property_at_an_ok, boolean_not_true_and_false, pin_without_memory_is_lost, kept_pin_keeps_its_need, lost_pin_stays_after_step}
use Rattle.heap_trail.proofs.held.NumberedPin.copy_region.Goals.{in-Kept, in-Lost}
use Rattle.heap_trail.proofs.held.NumberedPin.copy_region.Goals as goal

pub returns-then-lost-clause-kept : goal.returns-then-lost-clause-kept
returns-then-lost-clause-kept c = elim c.match-self.branch [
  | in-Kept w ↦ pin_without_memory_is_lost c.args.left.now c.args.world.now c.args.self.now c.match-self.self.number w.in-Kept.place w.in-Kept.pin w.in-Kept.cursor w.in-Kept.given (ap (λ (s : NumberedPin). s.number) w.self-is) w.in-Kept.is
      c.requires.needed c.place-place.result c.place-place.ensures
  | in-Lost w ↦ boolean_not_true_and_false c.match-self.lost w.lost-is c.if-lost.true
]

pub returns-else-lost-clause-kept : goal.returns-else-lost-clause-kept
returns-else-lost-clause-kept c = elim c.match-self.branch [
  | in-Kept w ↦ kept_pin_keeps_its_need c.args.left.now c.args.world.now c.args.self.now c.match-self.self w.in-Kept.place w.in-Kept.pin w.keep.new.self w.in-Kept.cursor w.in-Kept.given w.self-is w.in-Kept.is
      (property_at_an_ok w.keep.result (sym w.is_err-lost.ensures.value ∙ sym w.lost-is ∙ c.if-lost.false) w.keep.ensures.kept)
  | in-Lost w ↦ lost_pin_stays_after_step c.args.left.now c.args.world.now c.args.self.now c.match-self.self w.in-Lost.place w.in-Lost.cause w.self-is w.in-Lost.is
]
