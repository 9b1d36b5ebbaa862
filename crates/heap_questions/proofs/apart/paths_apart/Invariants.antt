use Rattle.std.proofs.Common.{◌≡◌, ℕ, ◌-◌, ◌≤◌, length, map, take}
use Rattle.std.specs.Prelude.{All, slice_get, Some}
use Rattle.heap_questions.specs.Hops.{TellsIds}
use Rattle.heap_questions.specs.PathsApart.{IsNextPath, Route, route_of}
use Rattle.heap_questions.proofs.apart.paths_apart.Given as goal

abbrev pub invariant-loop-known : goal.invariant-loop-known
invariant-loop-known g l =
    record {
      next : (k : ℕ) (p : Route) → slice_get (map route_of l.paths.items) k ≡ Some p → IsNextPath (g.V.View.image l.view) (take k (map route_of l.paths.items)) l.id p;
      few : length l.paths.items ≤ l.most;
      ids : All (TellsIds (g.V.View.image l.view)) l.paths.items;
    }

abbrev pub decreases-loop-known : goal.decreases-loop-known
decreases-loop-known g l = l.most - length l.paths.items
