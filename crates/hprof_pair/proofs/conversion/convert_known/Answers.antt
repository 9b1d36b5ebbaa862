use Rattle.std.proofs.Common.{ℕ, inl, refl, subst, sym}
use Rattle.std.proofs.lemmas.Result.{err_from_is_err_and}
use Rattle.heap_class.specs.Limits.{widest_classes}
use Rattle.hprof_plan.specs.Plans.{IsPlan}
use Rattle.hprof_pair.proofs.conversion.convert_known.Goals as goal

pub know_both-requires-clause-first : goal.know_both-requires-clause-first
know_both-requires-clause-first g c = subst (λ (n : ℕ). IsPlan widest_classes n c.args.first.now.found c.args.first.now.plan) (sym c.elements_with.ensures) c.requires.first.planned

pub know_both-requires-clause-second : goal.know_both-requires-clause-second
know_both-requires-clause-second g c = subst (λ (n : ℕ). IsPlan widest_classes n c.args.second.now.found c.args.second.now.plan) (sym c.elements_with.ensures) c.requires.second.planned

pub put_known-requires : goal.put_known-requires
put_known-requires g c = record {
  first = c.requires.first;
  second = c.requires.second;
  ways = c.in_ok-both.ensures.ways;
  found = c.in_ok-both.ensures.found;
  joined = c.in_ok-both.ensures.joined;
}

pub returns-in_err-both : goal.returns-in_err-both
returns-in_err-both g c =
    let e = err_from_is_err_and c.from_residual.result c.from_residual.ensures.1 in
    rw (e.1, e.2) (inl refl)
