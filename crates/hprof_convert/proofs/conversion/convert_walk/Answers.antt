use Rattle.std.proofs.Common.{inl, inr, refl}
use Rattle.std.proofs.lemmas.Result.{err_from_is_err_and}
use Rattle.hprof_convert.proofs.Endings.{all_is_a_part, found_makes_a_session, found_whole}
use Rattle.hprof_convert.proofs.conversion.convert_walk.Goals as goal

pub returns-in_err-found : goal.returns-in_err-found
returns-in_err-found g c =
    let e = err_from_is_err_and c.from_residual.result c.from_residual.ensures.1 in
    rw (e.1, e.2) (inl refl)

pub returns-in_err-plan : goal.returns-in_err-plan
returns-in_err-plan g c =
    let e = err_from_is_err_and c.from_residual-in_err-plan.result c.from_residual-in_err-plan.ensures.1 in
    rw (e.1, e.2) (inl refl)

pub returns-in_err-write_session : goal.returns-in_err-write_session
returns-in_err-write_session g c =
    let finds = c.in_ok-found.ensures in
    let e = err_from_is_err_and c.from_residual-in_err-write_session.result c.from_residual-in_err-write_session.ensures.1 in
    let put = rw c.as_slice-roots.ensures.value at (c.in_err-write_session.ensures finds.list (found_whole _ c.in_ok-found.found finds)) in
    rw (e.1, e.2) (inr (_, found_makes_a_session _ _ c.in_ok-found.found finds c.in_ok-plan.plan (rw c.elements_with.ensures at c.in_ok-plan.ensures), put))

pub returns-then-not-branch : goal.returns-then-not-branch
returns-then-not-branch g c =
    let finds = c.in_ok-found.ensures in
    let put = rw (c.as_slice-roots.ensures.value, c.if-not-branch.true) at (c.in_ok-write_session.ensures finds.list (found_whole _ c.in_ok-found.found finds)) in
    (_, found_makes_a_session _ _ c.in_ok-found.found finds c.in_ok-plan.plan (rw c.elements_with.ensures at c.in_ok-plan.ensures), put)

pub returns-in_err-left : goal.returns-in_err-left
returns-in_err-left g c =
    let finds = c.in_ok-found.ensures in
    let e = err_from_is_err_and c.from_residual-in_err-left.result c.from_residual-in_err-left.ensures.1 in
    let put = rw (c.as_slice-roots.ensures.value, c.if-not-branch.false) at (c.in_ok-write_session.ensures finds.list (found_whole _ c.in_ok-found.found finds)) in
    rw (e.1, e.2) (inr (_, found_makes_a_session _ _ c.in_ok-found.found finds c.in_ok-plan.plan (rw c.elements_with.ensures at c.in_ok-plan.ensures), all_is_a_part _ _ _ put))

pub returns : goal.returns
returns g c =
    let finds = c.in_ok-found.ensures in
    let put = rw (c.as_slice-roots.ensures.value, c.if-not-branch.false) at (c.in_ok-write_session.ensures finds.list (found_whole _ c.in_ok-found.found finds)) in
    (_, found_makes_a_session _ _ c.in_ok-found.found finds c.in_ok-plan.plan (rw c.elements_with.ensures at c.in_ok-plan.ensures), put)
