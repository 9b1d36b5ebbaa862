use Rattle.std.proofs.Common.{◌≡◌, ◌++◌, List, ℕ, take, length, sym, ap, ◌∙◌, arith}
use Rattle.dump_pipe.specs.Seats.{SeatState}
use Rattle.dump_pipe.proofs.DrainSteps.{drain_has_room_for_part, draining_goes_past_part, draining_ends_at_failed_put}
use Rattle.dump_pipe.proofs.drainer.drain_pipe.Goals as goal

pub overflow_add-total : goal.overflow_add-total
overflow_add-total g c =
    let r = drain_has_room_for_part _ _ _ _ _ c.in-Part.piece c.loop.invariant.5 c.in-Part.ensures.room in
    record { fits = omega (arith, r, c.put_all-put.ensures.0, ap (λ (l : List ℕ). length l) c.as_slice.ensures) }

pub add-requires : goal.add-requires
add-requires g c =
    let r = drain_has_room_for_part _ _ _ _ _ c.in-Part.piece c.loop.invariant.5 c.in-Part.ensures.room in
    omega (arith, r, c.requires.room, c.loop.invariant.4, c.put_all-put.ensures.0, ap (λ (l : List ℕ). length l) c.as_slice.ensures)

pub returns-then-put-size-clause-drained : goal.returns-then-put-size-clause-drained
returns-then-put-size-clause-drained g c =
    let p = c.put_all-put.ensures in
    let a = ap (λ (l : List ℕ). length l) c.as_slice.ensures in
    let z = ap (λ (l : List ℕ). length l) c.as_slice-size.ensures in
    draining_ends_at_failed_put _ _ _ _ _ _ _ _ c.in-Part.piece c.put_all-put.result c.loop.invariant.5 c.in-Part.ensures.got (omega (arith, p.0, a))
    (p.1 ∙ ap (λ l. (g.O.Outlet.seen c.loop.outlet).out ++ take c.put_all-put.result l) c.as_slice.ensures)
    (p.3 (omega (arith, c.if-put-size.true, a, z)))
    c.skip.ensures.skipped

pub loop-preserved : goal.loop-preserved
loop-preserved g c =
    let p = c.put_all-put.ensures in
    let a = ap (λ (l : List ℕ). length l) c.as_slice.ensures in
    let z = ap (λ (l : List ℕ). length l) c.as_slice-size.ensures in
    let all : c.put_all-put.result ≡ length c.in-Part.piece.bytes = omega (arith, p.0, c.if-put-size.false, a, z) in (
      tt,
      tt,
      c.in-Part.ensures.end,
      ap (λ (s : SeatState ℕ). s.meter) c.add.ensures ∙ c.loop.invariant.3,
      omega (arith, ap (λ (s : SeatState ℕ). s.known) c.add.ensures, c.loop.invariant.4),
      draining_goes_past_part _ _ _ _ _ _ _ c.in-Part.piece c.put_all-put.result c.loop.invariant.5 c.in-Part.ensures.got all
          (p.1 ∙ ap (λ l. (g.O.Outlet.seen c.loop.outlet).out ++ take c.put_all-put.result l) c.as_slice.ensures)
          (p.2 (all ∙ sym a)),
    )
