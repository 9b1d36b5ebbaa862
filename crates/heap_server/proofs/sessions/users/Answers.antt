use Rattle.std.proofs.Common.{◌≡◌, ◌∙◌}
use Rattle.std.specs.Prelude.{length}
use Rattle.heap_server.specs.SessionSeats.{AreUsers}
use Rattle.heap_server.proofs.UserSeats.{result_seats_of_roles_hold, user_seats}
use Rattle.heap_server.proofs.sessions.users.Goals as goal

pub returns-clause-seats : goal.returns-clause-seats
returns-clause-seats c =
    result_seats_of_roles_hold (λ s. AreUsers s × (length s ≡ c.args.sessions)) c.new.result (λ b. b.seats) c.as_slice.result.now c.new.ensures.seats
    (user_seats c.as_slice.result.now c.args.sessions (c.as_slice.ensures.value ∙ c.in-Ok.ensures.items_if_clones_equal (λ y h. h)))
