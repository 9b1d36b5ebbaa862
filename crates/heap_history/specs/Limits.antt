-- How long a history may be, and how much of it is kept.
use Rattle.std.specs.Prelude.{ℕ, Bool, true, false}
use Rattle.heap_trail.specs.Limits.{last_place}

-- entries of a chronicle that are kept at most
abbrev pub chronicle_limit : ℕ
chronicle_limit = 1000000

-- entries that are dropped together
abbrev pub block_limit : ℕ
block_limit = 500000

-- entries of a chronicle at most, which drops the oldest ones or refuses new ones
abbrev pub entry_limit : Bool → ℕ
entry_limit true = last_place
entry_limit false = chronicle_limit
