use Rattle.std.proofs.Common.{sym, ap, ◌∙◌, arith}
use Rattle.dump_pipe.specs.declared.start_side.StartSide.TheVariants.{Both}
use Rattle.dump_pipe.specs.Starts.{StartState, told_to}
use Rattle.dump_pipe.proofs.StartSteps.{begin_and_wait_sides_join, both_side_compares}
use Rattle.dump_pipe.proofs.start.Start.settle.Goals as goal

pub join_seat-requires : goal.join_seat-requires
join_seat-requires c =
    let b = c.beginner.inside.seat.me.0 in
    let w = c.waiter.inside.seat.me.0 in (
      ap (λ (s : StartState). s.start) c.beginner.view_is ∙ c.requires.beginner ∙ sym c.self.view_is,
      ap (λ (s : StartState). s.start) c.waiter.view_is ∙ c.requires.waiter ∙ sym c.self.view_is,
      ap (λ m. m.1) c.waiter.invariant,
      omega (arith, c.self.invariant),
      begin_and_wait_sides_join _ _ b w (told_to b) (told_to w) (ap (λ m. m.0) c.beginner.invariant) (ap (λ m. m.0) c.waiter.invariant),
    )

pub load-requires : goal.load-requires
load-requires c =
    let x = told_to c.beginner.inside.seat.me.0 in
    let y = told_to c.waiter.inside.seat.me.0 in
    let j = c.join_seat.ensures in
    (j.0 ∙ ap (λ (s : StartState). s.start) c.beginner.view_is ∙ c.requires.beginner ∙ sym c.self.view_is, omega (arith, c.self.invariant), both_side_compares _ _ x y _ (j.2 ∙ (λ k. (Both x y, (c.beginner.invariant k).1))))
