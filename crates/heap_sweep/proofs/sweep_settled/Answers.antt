use Rattle.std.proofs.Common.{true, false, inl, inr, sym, ap, ◌∙◌}
use Rattle.std.proofs.lemmas.Result.{err_from_is_err_and}
use Rattle.heap_region.specs.Regions.{used_at}
use Rattle.heap_region.specs.Pool.{RegionPool}
use Rattle.heap_region.specs.Changes.{with_pending}
use Rattle.heap_sweep.specs.declared.Reclaimed.TheVariants.{Swept, Emptied}
use Rattle.heap_sweep.proofs.Ready.{is_some_used, region_stays_used_when_cleared, pending_told, sweep_of_settled_region_refused, sweep_of_pending_region_accepted, pending_used, swept_whole, cleared_and_settled_is_swept, reclaimed_whole, reclaimed_kept, sweep_copies_its_dead}
use Rattle.heap_sweep.proofs.sweep_settled.Goals as goal

pub returns-then-not-unwrap_or-clause-answered : goal.returns-then-not-unwrap_or-clause-answered
returns-then-not-unwrap_or-clause-answered c = inl (sweep_of_settled_region_refused c.args.region c.args.regions.now (pending_told c.args.region c.args.regions.now c.pending.result false c.pending.ensures c.if-not-unwrap_or.ensures))

pub returns-then-not-has_live-clause-answered : goal.returns-then-not-has_live-clause-answered
returns-then-not-has_live-clause-answered c = sweep_of_pending_region_accepted c.args.region c.args.regions.now (pending_told c.args.region c.args.regions.now c.pending.result true c.pending.ensures c.if-not-unwrap_or.ensures)

pub returns-then-not-has_live-clause-swept : goal.returns-then-not-has_live-clause-swept
returns-then-not-has_live-clause-swept c = c.release-storage.ensures.state ∙ sym (swept_whole c.args.region c.args.regions.now c.if-not-has_live.ensures)

pub returns-then-not-has_live-clause-reclaimed : goal.returns-then-not-has_live-clause-reclaimed
returns-then-not-has_live-clause-reclaimed c =
    ap (λ n. Emptied n c.release-storage.result c.count_dead-dead.result) c.region_number-here.ensures ∙ ap (Emptied c.args.region c.release-storage.result) c.count_dead-dead.ensures ∙ sym (reclaimed_whole c.args.region c.args.regions.now c.release-storage.result c.if-not-has_live.ensures c.release-storage.ensures.storage)

pub returns-in_err-cells-clause-answered : goal.returns-in_err-cells-clause-answered
returns-in_err-cells-clause-answered c =
    let s = c.args.regions.now in
    let accepted = sweep_of_pending_region_accepted c.args.region s (pending_told c.args.region s c.pending.result true c.pending.ensures c.if-not-unwrap_or.ensures) in
    let p = err_from_is_err_and c.from_residual.result c.from_residual.ensures.1 in
    rw (p.1, p.2) (inr (accepted, sweep_copies_its_dead c.args.region s c.if-not-has_live.ensures c.in_err-cells.ensures.refused.1, c.in_err-cells.ensures.refused.0))

pub set_pending-requires : goal.set_pending-requires
set_pending-requires c =
    let s = c.args.regions.now in
    let here = pending_used c.args.region s (sweep_of_pending_region_accepted c.args.region s (pending_told c.args.region s c.pending.result true c.pending.ensures c.if-not-unwrap_or.ensures)) in
    rw c.free_dead.ensures (region_stays_used_when_cleared c.args.region s.regions (is_some_used (used_at s.regions c.args.region) here.0 here.1))

pub returns-clause-answered : goal.returns-clause-answered
returns-clause-answered c = sweep_of_pending_region_accepted c.args.region c.args.regions.now (pending_told c.args.region c.args.regions.now c.pending.result true c.pending.ensures c.if-not-unwrap_or.ensures)

pub returns-clause-swept : goal.returns-clause-swept
returns-clause-swept c =
    c.set_pending.ensures.state
    ∙ (ap (λ (t : RegionPool). record t { regions = with_pending false c.args.region t.regions }) c.free_dead.ensures ∙ cleared_and_settled_is_swept c.args.region c.args.regions.now c.if-not-has_live.ensures)

pub returns-clause-reclaimed : goal.returns-clause-reclaimed
returns-clause-reclaimed c = ap (λ n. Swept n c.in_ok-cells.cells.items) c.region_number-here.ensures ∙ ap (Swept c.args.region) c.in_ok-cells.ensures.copied ∙ sym (reclaimed_kept c.args.region c.args.regions.now c.if-not-has_live.ensures)
