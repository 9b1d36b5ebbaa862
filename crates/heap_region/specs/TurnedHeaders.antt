-- For proofs: the headers that kept ones show.
use Rattle.std.specs.Prelude.{◌≡◌, ◌≤◌, ℕ, length, Bool, true, false, not, List, map, Option, Some, None, is_some, option_map, count_by, if◌then◌else◌}
use Rattle.heap_region.specs.Limits.{cell_limit}
use Rattle.heap_region.specs.declared.cell.Bit.{Bit}
use Rattle.heap_region.specs.declared.cell.Bit.TheVariants.{Live, Mark}
use Rattle.heap_region.specs.declared.cell.Header.{Header}
use Rattle.heap_region.specs.declared.counts.Counts.{Counts}
use Rattle.heap_region.specs.declared.turn.Turn.{Turn}

-- a bit or its opposite
abbrev pub flipped : Bool → Bool → Bool
flipped true bit = not bit
flipped false bit = bit

-- the header that a kept one shows at a turn
abbrev pub shown_header : Turn → Header → Header
shown_header t h =
    record h {
      live = flipped t.live_flipped (if t.swapped then h.mark else h.live);
      mark = flipped t.mark_flipped (if t.swapped then h.live else h.mark);
    }

-- the headers that kept ones show at a turn
abbrev pub shown_headers : Turn → List (Option Header) → List (Option Header)
shown_headers t hs = map (option_map (shown_header t)) hs

-- a header after a turn: live if it was marked, and marked if it wasn't live
abbrev pub turned_header : Header → Header
turned_header h = record h { live = h.mark; mark = not h.live }

-- a header before a turn
abbrev pub turned_back_header : Header → Header
turned_back_header h = record h { live = not h.mark; mark = h.live }

-- whether there is a header, of an unmarked object
abbrev pub header_unmarked : Option Header → Bool
header_unmarked None = false
header_unmarked (Some h) = not h.mark

-- whether there is a header, of an object that isn't live
abbrev pub header_dead : Option Header → Bool
header_dead None = false
header_dead (Some h) = not h.live

-- 1 or 0
abbrev pub one_if : Bool → ℕ
one_if b = if b then 1 else 0

-- 1 if an object is counted as unmarked by this value of this bit
abbrev pub mark_counted : Bit → Bool → ℕ
mark_counted Live b = 0
mark_counted Mark b = one_if (not b)

-- 1 if an object is counted as not live by this value of this bit
abbrev pub live_counted : Bit → Bool → ℕ
live_counted Live b = one_if (not b)
live_counted Mark b = 0

-- these are the numbers of the objects with these headers, of those that aren't marked, and of those that aren't live; there
-- are at most 256 cells
pub record IsCounted (hs : List (Option Header)) (c : Counts) : Type 0 where
  pub objects : c.objects ≡ count_by is_some hs
  pub unmarked : c.unmarked ≡ count_by header_unmarked hs
  pub dead : c.dead ≡ count_by header_dead hs
  pub few : length hs ≤ cell_limit
