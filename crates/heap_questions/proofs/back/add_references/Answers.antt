use Rattle.std.proofs.Common.{sym, ◌∙◌}
use Rattle.heap_questions.proofs.KnownDistances.{known_object}
use Rattle.heap_questions.proofs.back.add_references.Goals as goal

pub named_along-requires-clause-known : goal.named_along-requires-clause-known
named_along-requires-clause-known g c = known_object (g.V.View.image c.args.view.now) c.classes-classes.result c.id.result c.in-Some.object c.classes-classes.ensures.limits c.classes-classes.ensures.value (sym c.shown_with.ensures ∙ c.in-Some.is)
