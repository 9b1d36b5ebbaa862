use Rattle.std.proofs.Common.{◌∙◌}
use Rattle.heap_server.specs.Tending.{AreStaff}
use Rattle.heap_server.proofs.UserSeats.{result_seats_of_roles_hold, staff_seats}
use Rattle.heap_server.proofs.tended.workers_and_users.Goals as goal

pub returns-clause-seats : goal.returns-clause-seats
returns-clause-seats c =
    result_seats_of_roles_hold (AreStaff c.args.sessions) c.new.result (λ b. b.seats) c.as_slice.result.now c.new.ensures.seats
    (staff_seats c.as_slice.result.now c.args.sessions (c.as_slice.ensures.value ∙ c.in-Ok.ensures))
