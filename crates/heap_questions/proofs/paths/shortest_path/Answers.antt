use Rattle.std.proofs.Common.{sym, ◌∙◌}
use Rattle.heap_questions.proofs.FoundPaths.{no_node_unreached}
use Rattle.heap_questions.proofs.paths.shortest_path.Goals as goal

pub path_to-requires-clause-goal : goal.path_to-requires-clause-goal
path_to-requires-clause-goal g c = sym c.find.ensures ∙ c.in-Some.is

pub returns-clause-none : goal.returns-clause-none
returns-clause-none g c =
    let v = c.args.view.now in
    no_node_unreached (g.V.View.image v) (g.V.View.places v) c.in_ok-nodes.nodes c.args.id c.in_ok-nodes.ensures.nodes (sym c.find.ensures ∙ c.in-None.is)
