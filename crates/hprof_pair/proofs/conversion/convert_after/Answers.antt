use Rattle.std.proofs.Common.{ℕ, inl, refl, subst}
use Rattle.std.proofs.lemmas.Result.{err_from_is_err_and}
use Rattle.hprof_session.specs.Walks.{left}
use Rattle.hprof_pair.specs.KnownPairs.{IsKnown}
use Rattle.hprof_pair.proofs.conversion.convert_after.Goals as goal

pub convert_known-requires-clause-second : goal.convert_known-requires-clause-second
convert_known-requires-clause-second g c = subst (λ (n : ℕ). IsKnown n (left c.args.walks.1) c.in_ok-second.second) c.elements_with.ensures c.in_ok-second.ensures

pub returns-in_err-second : goal.returns-in_err-second
returns-in_err-second g c =
    let e = err_from_is_err_and c.from_residual.result c.from_residual.ensures.1 in
    rw (e.1, e.2) (inl refl)
