use Rattle.std.proofs.Common.{Bool, sym, ap, ◌∙◌, subst, arith}
use Rattle.dump_pipe.specs.declared.meter_side.MeterSide.TheVariants.{Met}
use Rattle.dump_pipe.specs.Meters.{IsSettled}
use Rattle.dump_pipe.specs.Seats.{SeatState, flag}
use Rattle.dump_pipe.proofs.MeterSteps.{feed_and_ask_sides_join, met_side_settles_cancel}
use Rattle.dump_pipe.proofs.cancel.Word+Marks.settle.Goals as goal

pub join_seat-requires : goal.join_seat-requires
join_seat-requires c =
    let f = c.feed.inside.seat.me.0 in
    let a = c.asker.inside.seat.me.0 in (
      ap (λ (s : SeatState Bool). s.meter) c.feed.view_is ∙ c.requires.feed ∙ sym c.self.view_is,
      ap (λ (s : SeatState Bool). s.meter) c.asker.view_is ∙ c.requires.asker ∙ sym c.self.view_is,
      ap (λ m. m.1) c.asker.invariant,
      omega (arith, c.self.invariant),
      feed_and_ask_sides_join _ _ f a (flag f) (flag a) (ap (λ m. m.0) c.feed.invariant) (ap (λ m. m.0) c.asker.invariant),
    )

pub load-requires : goal.load-requires
load-requires c =
    let f = flag c.feed.inside.seat.me.0 in
    let a = flag c.asker.inside.seat.me.0 in
    let j = c.join_seat.ensures in
    (j.0 ∙ ap (λ (s : SeatState Bool). s.meter) c.feed.view_is ∙ c.requires.feed ∙ sym c.self.view_is, omega (arith, c.self.invariant), met_side_settles_cancel _ _ f a _ (j.2 ∙ (λ k. (Met f a, (c.feed.invariant k).1))))

pub returns : goal.returns
returns c =
    let told = subst IsSettled (ap (λ m. m.0) c.join_seat.ensures.2) c.load.ensures.2 in
    λ found. sym (ap (λ (s : SeatState Bool). s.known) c.asker.view_is) ∙ told (ap (λ (s : SeatState Bool). s.known) c.feed.view_is ∙ found)
