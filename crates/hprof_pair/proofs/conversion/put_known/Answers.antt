use Rattle.std.proofs.Common.{inr}
use Rattle.std.proofs.lemmas.Result.{err_from_is_err_and}
use Rattle.hprof_convert.proofs.Endings.{all_is_a_part, found_whole}
use Rattle.hprof_pair.proofs.PairSessions.{known_makes_a_session}
use Rattle.hprof_pair.proofs.conversion.put_known.Goals as goal

pub returns-in_err-write_pair : goal.returns-in_err-write_pair
returns-in_err-write_pair g c =
    let finds = c.requires.first.finds in
    let e = err_from_is_err_and c.from_residual.result c.from_residual.ensures.1 in
    rw (e.1, e.2) (inr (_, known_makes_a_session _ _ _ c.args.known.now c.requires _ c.pair-pair.ensures.told, c.in_err-write_pair.ensures finds.list (found_whole _ _ finds)))

pub returns-then-not-branch : goal.returns-then-not-branch
returns-then-not-branch g c =
    let finds = c.requires.first.finds in
    (_, known_makes_a_session _ _ _ c.args.known.now c.requires _ c.pair-pair.ensures.told, rw c.if-not-branch.true at (c.in_ok-write_pair.ensures finds.list (found_whole _ _ finds)))

pub returns-in_err-count_both : goal.returns-in_err-count_both
returns-in_err-count_both g c =
    let finds = c.requires.first.finds in
    let e = err_from_is_err_and c.from_residual-in_err-count_both.result c.from_residual-in_err-count_both.ensures.1 in
    rw (e.1, e.2) (inr (_, known_makes_a_session _ _ _ c.args.known.now c.requires _ c.pair-pair.ensures.told, all_is_a_part _ _ _ (rw c.if-not-branch.false at (c.in_ok-write_pair.ensures finds.list (found_whole _ _ finds)))))

pub returns : goal.returns
returns g c =
    let finds = c.requires.first.finds in
    (_, known_makes_a_session _ _ _ c.args.known.now c.requires _ c.pair-pair.ensures.told, rw c.if-not-branch.false at (c.in_ok-write_pair.ensures finds.list (found_whole _ _ finds)))
