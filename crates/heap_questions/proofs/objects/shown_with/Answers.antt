use Rattle.std.proofs.Common.{sym, ◌∙◌}
use Rattle.heap_questions.proofs.NamedObjects.{no_object, node_listed, node_object, node_placed}
use Rattle.heap_questions.proofs.objects.shown_with.Goals as goal

pub object-requires : goal.object-requires
object-requires g c = node_listed (g.V.View.image c.args.view.now) _ c.args.nodes.now c.args.id c.in-Some.node c.place.result c.requires (sym c.find.ensures ∙ c.in-Some.is) c.place.ensures

pub returns-in-Some : goal.returns-in-Some
returns-in-Some g c =
    let v = c.args.view.now in
    let found = sym c.find.ensures ∙ c.in-Some.is in
    let at = node_placed (g.V.View.image v) (g.V.View.places v) c.args.nodes.now c.args.id c.in-Some.node c.place.result c.requires found c.place.ensures in
    node_object (g.V.View.image v) (g.V.View.places v) c.args.nodes.now c.args.id c.in-Some.node c.object.result c.requires found (c.object.ensures c.in-Some.node at)

pub returns-in-None : goal.returns-in-None
returns-in-None g c =
    let v = c.args.view.now in
    no_object (g.V.View.image v) (g.V.View.places v) c.args.nodes.now c.args.id c.requires (sym c.find.ensures ∙ c.in-None.is)
