use Rattle.std.proofs.Common.{ℕ, inl, refl, subst}
use Rattle.std.proofs.lemmas.Result.{err_from_is_err_and}
use Rattle.hprof_session.specs.Walks.{left}
use Rattle.hprof_pair.specs.KnownPairs.{IsKnown}
use Rattle.hprof_pair.proofs.conversion.convert_walks.Goals as goal

pub convert_after-requires : goal.convert_after-requires
convert_after-requires g c = subst (λ (n : ℕ). IsKnown n (left c.args.before) c.in_ok-first.first) c.elements_with.ensures c.in_ok-first.ensures

pub returns-in_err-first : goal.returns-in_err-first
returns-in_err-first g c =
    let e = err_from_is_err_and c.from_residual.result c.from_residual.ensures.1 in
    rw (e.1, e.2) (inl refl)
