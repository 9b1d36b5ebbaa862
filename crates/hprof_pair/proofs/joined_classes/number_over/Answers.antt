use Rattle.std.proofs.lemmas.Result.{IfOk-weaker}
use Rattle.hprof_pair.specs.JoinedClasses.{over}
use Rattle.hprof_pair.proofs.JoinedLines.{defined_over, found_over}
use Rattle.hprof_pair.proofs.joined_classes.number_over.Goals as goal

pub returns-in-Some : goal.returns-in-Some
returns-in-Some c = λ first s x are there.
    found_over c.args.limits first c.args.joined.now s (over x c.args.sup) c.in_ok-line.line c.in-Some.number are (c.in_ok-line.ensures x there) (rw c.as_slice.ensures.value at c.in-Some.ensures)

pub returns : goal.returns
returns c = λ first s x are there.
    IfOk-weaker c.define_class.result _ _ (λ o h. defined_over c.args.limits first c.args.joined.now s (over x c.args.sup) c.in_ok-line.line _ o _ are (c.in_ok-line.ensures x there) (rw c.as_slice.ensures.value at c.in-None.ensures) h) (c.define_class.ensures first s x are there)
