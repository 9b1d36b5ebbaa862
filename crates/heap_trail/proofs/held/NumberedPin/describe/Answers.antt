use Rattle.std.proofs.Common.{sym, ap, ◌∙◌}
use Rattle.heap_trail.specs.declared.listing.ListedPin.{ListedPin}
use Rattle.heap_trail.specs.declared.listing.PinStatus.{PinStatus}
use Rattle.heap_trail.specs.Listings.{held_status, listed_slot}
use Rattle.heap_trail.proofs.held.NumberedPin.describe.Goals.{in-Kept, in-Lost}
use Rattle.heap_trail.proofs.held.NumberedPin.describe.Goals as goal

pub returns : goal.returns
unfolding listed_slot held_status
returns c = ap (λ (t : PinStatus). (let r : ListedPin = record { number = c.args.self.now.number; status = t } in r)) (elim c.match-self.branch [
  | in-Kept w ↦ w.status-is ∙ sym (ap held_status w.in-Kept.is)
  | in-Lost w ↦ w.status-is ∙ sym (ap held_status w.in-Lost.is)
])
