use Rattle.std.proofs.Common.{sym, ◌∙◌}
use Rattle.hprof_text.proofs.ViewedObjects.{is_there}
use Rattle.heap_questions.proofs.NamedObjects.{no_node, node_kind, node_placed}
use Rattle.heap_questions.proofs.registers.kind_with.Goals as goal

pub kind-requires : goal.kind-requires
kind-requires g c =
    let v = c.args.view.now in
    let found = sym c.find.ensures ∙ c.in-Some.is in
    let at = node_placed (g.V.View.image v) (g.V.View.places v) c.args.nodes.now c.args.id c.in-Some.node c.place.result c.requires found c.place.ensures in
    is_there (g.V.View.places v) c.in-Some.node c.place.result at

pub returns-in-Some : goal.returns-in-Some
returns-in-Some g c =
    let v = c.args.view.now in
    let found = sym c.find.ensures ∙ c.in-Some.is in
    let at = node_placed (g.V.View.image v) (g.V.View.places v) c.args.nodes.now c.args.id c.in-Some.node c.place.result c.requires found c.place.ensures in
    node_kind (g.V.View.image v) (g.V.View.places v) c.args.nodes.now c.args.id c.in-Some.node c.kind.result c.requires found (c.kind.ensures c.in-Some.node at)

pub returns-in-None : goal.returns-in-None
returns-in-None g c =
    let v = c.args.view.now in
    no_node (g.V.View.image v) (g.V.View.places v) c.args.nodes.now c.args.id c.requires (sym c.find.ensures ∙ c.in-None.is)
