-- The laws of lists of actions, together.
use Rattle.std.proofs.Common.{List}
use Rattle.heap_trail.specs.declared.Action.{Action}
use Rattle.heap_trail.specs.Machine.{Machine, Allocation, machine_after}
use Rattle.heap_trail.specs.Headline.{Headline}
use Rattle.heap_trail.proofs.Rewinds.{undoes_step, rewinds_retained, rewinds_in_parts}
use Rattle.heap_trail.proofs.RewindsOver.{rewinds_over}
use Rattle.heap_trail.proofs.OpenedPins.{opens_pin}
use Rattle.heap_trail.proofs.WithoutDumps.{goes_as_without_dumps}
use Rattle.heap_trail.proofs.GivenText.{gives_text}
use Rattle.heap_trail.proofs.KeptPins.{keeps_pin}

pub headline_of_machines : (m : Machine) (actions : List (Action × Allocation)) → Headline m actions
headline_of_machines m actions = record {
  undone = undoes_step (machine_after m actions);
  rewound = (rewinds_retained (machine_after m actions), rewinds_in_parts (machine_after m actions));
  recalled = rewinds_over (machine_after m actions);
  alike = goes_as_without_dumps m actions;
  pinned = opens_pin (machine_after m actions);
  text = gives_text m actions;
  kept = keeps_pin m actions;
}
