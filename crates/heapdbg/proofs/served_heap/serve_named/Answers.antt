use Rattle.std.proofs.Common.{refl, sym, subst, ◌∙◌}
use Rattle.session_text.specs.Limits.{session_limits}
use Rattle.heap_server.specs.LockStates.{SeatModel}
use Rattle.private_tasks.specs.Explorations.{has_area}
use Rattle.heapdbg.specs.ServedHeaps.{IsSeatLoaded}
use Rattle.heapdbg.proofs.LoadedSeats.{used_seats_served}
use Rattle.heapdbg.proofs.served_heap.serve_named.Goals as goal

pub returns-in-Ok-serve_staff-clause-served : goal.returns-in-Ok-serve_staff-clause-served
returns-in-Ok-serve_staff-clause-served g c =
    let s = c.args.request.settings in
    let first = c.seats_for-seat.result.0 in
    let staff = c.seats_for-seat.result.1 in
    used_seats_served s c.args.service c.args.blank c.args.terms g.L.Heap.config g.L.Heap.tables _ _ _ staff.marker staff.sweeper first staff.users c.requires.named
    (sym c.open-shared.ensures ∙ c.seats_for-seat.ensures.seats) (
      c.into_unnamed-first.ensures.seat,
      subst (λ (m : SeatModel). IsSeatLoaded (session_limits s.wide) (has_area s) g.L.Heap.config c.args.service.origin s.time first m) (sym c.into_unnamed-first.ensures.seat_model) c.in-Ok.ensures.loaded,
    )
    c.in-Ok-serve_staff.ensures.workers c.in-Ok-serve_staff.ensures.sessions c.of-made.ensures refl
