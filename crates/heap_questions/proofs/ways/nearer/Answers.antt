use Rattle.std.proofs.Common.{sym, ◌∙◌}
use Rattle.heap_questions.specs.Distances.{distance_by}
use Rattle.heap_questions.proofs.KnownDistances.{known_object, nearer_named, nearer_none}
use Rattle.heap_questions.proofs.ways.nearer.Goals as goal

pub nearer_along-requires-clause-known : goal.nearer_along-requires-clause-known
nearer_along-requires-clause-known g c = known_object (g.V.View.image c.args.view.now) c.classes-classes.result c.args.id c.in-Some.object c.classes-classes.ensures.limits c.classes-classes.ensures.value (sym c.shown_with.ensures ∙ c.in-Some.is)

pub returns-in-Some : goal.returns-in-Some
returns-in-Some g c =
    nearer_named (distance_by c.args.nodes.now c.args.table.now) (g.V.View.image c.args.view.now) c.classes-classes.result c.args.id c.args.left c.in-Some.object c.nearer_along.result (sym c.shown_with.ensures ∙ c.in-Some.is) c.classes-classes.ensures.value c.nearer_along.ensures

pub returns-in-None : goal.returns-in-None
returns-in-None g c = nearer_none (distance_by c.args.nodes.now c.args.table.now) (g.V.View.image c.args.view.now) c.args.id c.args.left (sym c.shown_with.ensures ∙ c.in-None.is)
