use Rattle.std.proofs.Common.{◌≡◌, map, take}
use Rattle.std.specs.Prelude.{filter, not}
use Rattle.heap_questions.specs.Garbage.{is_reached}
use Rattle.heap_questions.specs.ObjectLists.{listed_object}
use Rattle.heap_questions.specs.Wanted.{is_wanted}
use Rattle.heap_questions.proofs.object_list.list_nodes.Given as goal

abbrev pub invariant-loop-node : goal.invariant-loop-node
invariant-loop-node g l =
    l.all.items ≡ map (listed_object (λ o. not (is_reached l.nodes l.seen o.id))) (filter (λ o. is_wanted l.wanted o.kind o.words) (take l.node (g.V.View.image l.view).objects))
