use Rattle.heap_region.proofs.region_classes.RegionClasses.set.Goals as goal

pub returns-then-was-class : goal.returns-then-was-class
returns-then-was-class c = c.change.ensures
