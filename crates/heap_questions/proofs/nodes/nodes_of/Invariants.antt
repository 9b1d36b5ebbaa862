use Rattle.std.proofs.Common.{◌≡◌, ◌≤◌, ◌-◌, length, map, take}
use Rattle.std.specs.Prelude.{slice_get}
use Rattle.heap_questions.proofs.nodes.nodes_of.Given as goal

abbrev pub invariant-loop-here : goal.invariant-loop-here
invariant-loop-here g l = record {
  here : l.here ≡ slice_get (g.V.View.places l.view) (length l.nodes.items);
  ids : map (λ n. n.id) l.nodes.items ≡ map (λ o. o.id) (take (length l.nodes.items) (g.V.View.image l.view).objects);
  places : map (λ n. n.at) l.nodes.items ≡ take (length l.nodes.items) (g.V.View.places l.view);
  passed : length l.nodes.items ≤ length (g.V.View.places l.view);
}

abbrev pub decreases-loop-here : goal.decreases-loop-here
decreases-loop-here g l = length (g.V.View.places l.view) - length l.nodes.items
