use Rattle.std.proofs.Common.{◌≡◌, length}
use Rattle.question_text.specs.ShownChains.{end_of}
use Rattle.question_text.proofs.shown_chain.end_along.Given as goal

abbrev pub decreases-loop-word : goal.decreases-loop-word
decreases-loop-word g l = length l.fields

abbrev pub invariant-loop-word : goal.invariant-loop-word
invariant-loop-word g l = end_of l.index l.fields l.here ≡ end_of l.index l.fn.fields l.id
