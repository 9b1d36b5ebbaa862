use Rattle.std.proofs.Common.{subst}
use Rattle.heap_trail.specs.Laws.{IsTrail}
use Rattle.heap_trail.specs.Machine.{Machine}
use Rattle.heap_trail.specs.OpenPins.{pins_of}
use Rattle.heap_trail.proofs.RecordedPast.{is_trail}
use Rattle.heap_trail.proofs.Machine.place.Goals as goal

pub returns-clause-trail : goal.returns-clause-trail
returns-clause-trail c =
    let i = c.self.inside in
    subst (λ (m : Machine). IsTrail m.keep m.trail) c.self.view_is (is_trail i.ids i.world i.records i.place i.keep (pins_of i.world i.next i.pins.items) c.self.invariant.0)
