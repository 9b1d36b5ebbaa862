-- The objects of the first cells of a region, counted one cell after another.
use Rattle.std.proofs.Common.{◌≡◌, ℕ, ◌+◌, ◌<◌, Bool, true, false, List, Option, Some, None, get_or, length, refl, take}
use Rattle.std.specs.Prelude.{count_by, not, option_map}
use Rattle.std.proofs.lemmas.List.Sums.{count_by_more_no, count_by_more_yes}
use Rattle.heap_region.specs.Live.{is_dead, is_live}
use Rattle.heap_region.specs.Regions.{Object}

-- what the bit of a cell's object tells
live_told : (c : Option Object) (b : Bool) → option_map (λ (o : Object). o.live) c ≡ Some b → is_live c ≡ b
live_told None b e = cc
live_told (Some o) b e = cc

dead_told : (c : Option Object) (b : Bool) → option_map (λ (o : Object). o.live) c ≡ Some b → is_dead c ≡ not b
dead_told None b e = cc
dead_told (Some o) b e = cc

no_live : (c : Option Object) → option_map (λ (o : Object). o.live) c ≡ None → is_live c ≡ false
no_live None e = refl
no_live (Some o) e = cc

no_dead : (c : Option Object) → option_map (λ (o : Object). o.live) c ≡ None → is_dead c ≡ false
no_dead None e = refl
no_dead (Some o) e = cc

-- one cell more with a live object
pub one_live : (cells : List (Option Object)) (n : ℕ) → n < length cells → option_map (λ (o : Object). o.live) (get_or cells n None) ≡ Some true
    → (count_by is_live (take (n + 1) cells) ≡ count_by is_live (take n cells) + 1) × (count_by is_dead (take (n + 1) cells) ≡ count_by is_dead (take n cells))
one_live cells n lt e = (count_by_more_yes is_live cells n None lt (live_told (get_or cells n None) true e), count_by_more_no is_dead cells n None lt (dead_told (get_or cells n None) true e))

-- one with an object that isn't live
pub one_dead : (cells : List (Option Object)) (n : ℕ) → n < length cells → option_map (λ (o : Object). o.live) (get_or cells n None) ≡ Some false
    → (count_by is_live (take (n + 1) cells) ≡ count_by is_live (take n cells)) × (count_by is_dead (take (n + 1) cells) ≡ count_by is_dead (take n cells) + 1)
one_dead cells n lt e = (count_by_more_no is_live cells n None lt (live_told (get_or cells n None) false e), count_by_more_yes is_dead cells n None lt (dead_told (get_or cells n None) false e))

-- one without an object
pub no_object : (cells : List (Option Object)) (n : ℕ) → n < length cells → option_map (λ (o : Object). o.live) (get_or cells n None) ≡ None
    → (count_by is_live (take (n + 1) cells) ≡ count_by is_live (take n cells)) × (count_by is_dead (take (n + 1) cells) ≡ count_by is_dead (take n cells))
no_object cells n lt e = (count_by_more_no is_live cells n None lt (no_live (get_or cells n None) e), count_by_more_no is_dead cells n None lt (no_dead (get_or cells n None) e))
