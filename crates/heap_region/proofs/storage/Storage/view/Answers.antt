use Rattle.heap_region.specs.declared.quarter.Quarter.TheVariants.{Zero}
use Rattle.heap_region.proofs.LateTurns.{settled_shows}
use Rattle.heap_region.proofs.storage.Storage.view.Goals as goal

pub returns : goal.returns
returns c = settled_shows Zero c.args.self.now
