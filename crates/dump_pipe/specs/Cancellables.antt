-- The supply of a cancellable source.
use Rattle.std.specs.Prelude.{Bool, Some, if◌then◌else◌}
use Rattle.dump_pump.specs.declared.source.SourceEnd.TheVariants.{Cancelled}
use Rattle.dump_pump.specs.Sources.{Supply}

-- the supply of a cancellable source: it ended by a cancelling if one was found, else as its own source
abbrev pub cancellable : Supply → Bool → Supply
cancellable s found =
    record { told = s.told; ended = if found then Some Cancelled else s.ended; left = s.left }
