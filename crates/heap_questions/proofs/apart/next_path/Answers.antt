use Rattle.std.proofs.Common.{map, sym, ◌∙◌}
use Rattle.heap_questions.specs.PathsApart.{route_of}
use Rattle.heap_questions.proofs.PathStarts.{none_left_of_none}
use Rattle.heap_questions.proofs.apart.next_path.Goals as goal

pub next_path_to-requires-clause-goal : goal.next_path_to-requires-clause-goal
next_path_to-requires-clause-goal g c = sym c.find.ensures ∙ c.in-Some.is

pub returns-in-None-clause-none : goal.returns-in-None-clause-none
returns-in-None-clause-none g c =
    let v = c.args.view.now in
    none_left_of_none (g.V.View.image v) (g.V.View.places v) c.args.nodes.now (map route_of c.args.paths.now) c.args.id c.requires.nodes (sym c.find.ensures ∙ c.in-None.is)
