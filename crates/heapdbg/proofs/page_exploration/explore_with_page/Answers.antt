use Rattle.std.proofs.Common.{refl, inr}
use Rattle.std.proofs.lemmas.Result.{err_from_is_err_and}
use Rattle.heapdbg.proofs.PageHindrances.{page_hinders}
use Rattle.heapdbg.proofs.page_exploration.explore_with_page.Goals as goal

pub returns-in_err-page : goal.returns-in_err-page
returns-in_err-page g c =
    let p = err_from_is_err_and c.from_residual-in_err-page.result c.from_residual-in_err-page.ensures.1 in
    inr (_, page_hinders c.args.origin _ c.in_err-page.ensures, rw (p.1, p.2) refl, refl, refl)
