use Rattle.std.proofs.Common.{◌≡◌}
use Rattle.heap_save.proofs.save.dump_last.Given as goal

abbrev pub ghosts-dump_late : goal.ghosts-dump_late
ghosts-dump_late g a = record { was = λ p. p ≡ a.dump.target }
