use Rattle.std.proofs.Common.{◌+◌, ◌≤◌, ◌/◌, ◌-◌, ap, arith, length, subst, sym}
use Rattle.heap_region.specs.Pool.{RegionPool}
use Rattle.heap_region.specs.Regions.{object_base}
use Rattle.heap_trail.specs.Trail.{retained}
use Rattle.heap_world.specs.State.{HeapState}
use Rattle.heap_questions.specs.Lives.{AreLives}
use Rattle.heap_questions.proofs.PastLives.{no_lives, none_in_region}
use Rattle.heap_questions.proofs.past.lives.lives_of.Goals as goal

pub returns-then-region-count-clause-lives : goal.returns-then-region-count-clause-lives
returns-then-region-count-clause-lives c =
    let t = c.args.machine.now.trail in
    let far : length t.current.regions ≤ (c.args.id - object_base) / 8 / 1024 = omega (
      arith,
      c.if-region-count.true,
      c.count.ensures.value,
      ap (λ (s : RegionPool). length s.regions) c.regions.ensures,
      ap (λ (v : HeapState). length v.regions) c.world.ensures.value,
      c.saturating_sub.ensures,
    ) in
    subst (AreLives t c.args.id (retained t + 1)) (sym c.new.ensures.items)
    (no_lives t c.args.id (retained t + 1) (λ k l. none_in_region c.args.machine.now.keep t c.args.id k c.place-place.ensures.trail far (omega (arith, l))))
