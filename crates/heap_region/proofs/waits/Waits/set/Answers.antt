use Rattle.std.proofs.Common.{arith, ap, ◌∙◌, set, map}
use Rattle.std.proofs.lemmas.List.{length-map, map-set}
use Rattle.heap_region.specs.Waits.{wait_turned}
use Rattle.heap_region.proofs.AllTurned.{wait_read}
use Rattle.heap_region.proofs.waits.Waits.set.Goals as goal

pub set-requires : goal.set-requires
set-requires c =
    let i = c.self.inside in
    omega (arith, rw (← c.self.view_is) at c.requires, length-map i.classes (wait_turned i.odd))

pub returns : goal.returns
returns c =
    let i = c.self.inside in
    rw (← c.self.view_is, c.set.ensures, c.class_read.ensures.value) (map-set (wait_turned i.odd) i.classes c.args.region (wait_turned i.odd c.args.class) ∙ ap (set (map (wait_turned i.odd) i.classes) c.args.region) (wait_read i.odd c.args.class))
