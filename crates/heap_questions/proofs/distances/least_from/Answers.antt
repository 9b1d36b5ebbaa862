use Rattle.std.proofs.Common.{sym, ◌∙◌}
use Rattle.heap_questions.specs.Distances.{distance_by}
use Rattle.heap_questions.proofs.KnownDistances.{known_object, least_named, least_none}
use Rattle.heap_questions.proofs.distances.least_from.Goals as goal

pub least_along-requires : goal.least_along-requires
least_along-requires g c = known_object (g.V.View.image c.args.view.now) c.classes-classes.result c.args.id c.in-Some.object c.classes-classes.ensures.limits c.classes-classes.ensures.value (sym c.shown_with.ensures ∙ c.in-Some.is)

pub returns-in-Some : goal.returns-in-Some
returns-in-Some g c =
    least_named (distance_by c.args.nodes.now c.args.table.now) (g.V.View.image c.args.view.now) c.classes-classes.result c.args.id c.in-Some.object c.least_along.result (sym c.shown_with.ensures ∙ c.in-Some.is) c.classes-classes.ensures.value c.least_along.ensures

pub returns-in-None : goal.returns-in-None
returns-in-None g c = least_none (distance_by c.args.nodes.now c.args.table.now) (g.V.View.image c.args.view.now) c.args.id (sym c.shown_with.ensures ∙ c.in-None.is)
