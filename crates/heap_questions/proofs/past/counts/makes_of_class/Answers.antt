use Rattle.std.proofs.Common.{◌∙◌, sym}
use Rattle.heap_questions.proofs.CountedObjects.{made_written}
use Rattle.heap_questions.proofs.past.counts.makes_of_class.Goals as goal

pub kind_at-requires : goal.kind_at-requires
kind_at-requires c = c.requires c.in-Some.at (made_written c.args.left.now c.in-Some.at (sym c.made_place.ensures ∙ c.in-Some.is))
