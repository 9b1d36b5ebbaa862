use Rattle.std.proofs.Common.{Some}
use Rattle.shared_dump.proofs.dump.dump_pin.Given as goal

abbrev pub ghosts-stream_asking : goal.ghosts-stream_asking
ghosts-stream_asking g a = record { meter = Some a.seats.meter.now; guard = Some a.to.guard }
