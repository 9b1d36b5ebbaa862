use Rattle.std.proofs.Common.{◌≡◌, length}
use Rattle.std.specs.Prelude.{All}
use Rattle.dump_pipe.specs.Seats.{knows}
use Rattle.dump_pipe.proofs.meter.new_readers.Given as goal

abbrev pub invariant-loop : goal.invariant-loop
invariant-loop l = (l.out.table_id ≡ l.initial.out.table_id) × (l.out.me ≡ l.initial.out.me) × (length l.seats.items ≡ l.counter) × All (λ s. s ≡ knows l.table.table_id 0) l.seats.items
