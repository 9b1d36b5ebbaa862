use Rattle.std.proofs.Common.{arith, sym, ◌∙◌, inl}
use Rattle.heap_region.proofs.Allocation.{full_heap_refuses_object, large_object_has_no_place, large_object_takes_run, object_too_large_is_refused}
use Rattle.heap_region.proofs.BlockSizes.{regions_for_some}
use Rattle.heap_region.proofs.Regions.alloc_large.Goals as goal

pub returns-then-len-gt-LARGE_LIMIT-clause-answered : goal.returns-then-len-gt-LARGE_LIMIT-clause-answered
returns-then-len-gt-LARGE_LIMIT-clause-answered c = inl (object_too_large_is_refused c.args.len c.args.self.now (omega arith))

pub first_run-requires : goal.first_run-requires
first_run-requires c = (omega (arith, c.regions_for.ensures.value, regions_for_some c.args.len (omega arith)), c.regions_for.ensures.limit)

pub returns-in_default-clause-answered : goal.returns-in_default-clause-answered
returns-in_default-clause-answered c =
    inl (full_heap_refuses_object c.args.len c.args.self.now (omega arith) (large_object_has_no_place c.args.len c.args.self.now (omega arith) (rw c.regions_for.ensures.value at (sym c.first_run.ensures.value ∙ c.in_default.is))))

pub alloc_fresh-requires-clause-place : goal.alloc_fresh-requires-clause-place
alloc_fresh-requires-clause-place c =
    large_object_takes_run c.args.len c.args.self.now c.in-Some.region (omega arith) (sym (rw c.regions_for.ensures.value at c.in-Some.ensures.value))
