use Rattle.std.proofs.Common.{refl, sym}
use Rattle.hprof_pair.proofs.JoinedLines.{bare_over, joined_with, joined_without, super_told}
use Rattle.hprof_pair.proofs.joined_classes.join_class.Goals as goal

pub number_over-requires-clause-bare : goal.number_over-requires-clause-bare
number_over-requires-clause-bare c = bare_over c.args.second.now c.args.k c.as_slice.result.now c.in-Some.sup _ c.requires.number c.len-number.ensures.table c.sup.ensures.value (sym c.in-Some.ensures)

pub returns-in_ok-push-in-Some : goal.returns-in_ok-push-in-Some
returns-in_ok-push-in-Some c = λ first s x are there.
    joined_with c.args.limits first s x c.in-Some.sup c.in_ok-number-in-Some.number _ _ _ (super_told first c.args.joined.now s c.args.second.now c.args.k x _ _ _ are there c.as_slice.ensures.value c.sup.ensures.value c.in-Some.ensures)
    (c.in_ok-number-in-Some.ensures first s x are there) refl refl refl c.in_ok-push-in-Some.ensures.items

pub returns-in_ok-push-in-None : goal.returns-in_ok-push-in-None
returns-in_ok-push-in-None c = λ first s x are there.
    joined_without c.args.limits first s x c.args.joined.now _ are (super_told first c.args.joined.now s c.args.second.now c.args.k x _ _ _ are there c.as_slice.ensures.value c.sup.ensures.value c.in-None.ensures) refl refl refl c.in_ok-push-in-None.ensures.items
