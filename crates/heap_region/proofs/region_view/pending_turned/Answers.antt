use Rattle.std.proofs.Common.{◌≡◌, Bool, true, false, not, refl, sym, ap, ◌∙◌}
use Rattle.heap_region.specs.Turns.{turned_by, turned_region, turned_back_region}
use Rattle.heap_region.proofs.region_view.pending_turned.Goals as goal

flag_flipped_twice : (b : Bool) → b ≡ not (not b)
flag_flipped_twice true = refl
flag_flipped_twice false = refl

pub returns-in-Zero : goal.returns-in-Zero
unfolding turned_by
returns-in-Zero c u is = rw c.in-Zero.is (sym is)

pub returns-in-One : goal.returns-in-One
unfolding turned_by turned_region
returns-in-One c u is = rw c.in-One.is (ap not (sym is))

pub returns-in-Two : goal.returns-in-Two
unfolding turned_by turned_region
returns-in-Two c u is = rw c.in-Two.is (sym is ∙ flag_flipped_twice u.pending)

pub returns-in-Three : goal.returns-in-Three
unfolding turned_by turned_back_region
returns-in-Three c u is = rw c.in-Three.is (ap not (sym is))
