use Rattle.heap_step.proofs.Steps.{put_record_slot_within_object, store_within, store_entry, store_undone_is_legal, new_undone_is_legal, snap_before, mark_undone_is_legal, drain_begun, drain_undone_is_legal, finish_before, finish_undone_is_legal, sweep_before, reclaim_inhabited, reclaim_legal}
use Rattle.heap_step.proofs.step.undo.Goals as goal

pub unput-requires-clause-within : goal.unput-requires-clause-within
unput-requires-clause-within c = put_record_slot_within_object c.requires.0 c.requires.1 _ _ c.requires.2 c.in-Put.at c.in-Put.slot c.in-Put.old c.in-Put.is

pub unstore-requires-clause-within : goal.unstore-requires-clause-within
unstore-requires-clause-within c = store_within c.requires.0 c.requires.1 _ _ c.requires.2 c.in-Store.at c.in-Store.slot c.in-Store.old c.in-Store.logged c.in-Store.is

pub unstore-requires-clause-entry : goal.unstore-requires-clause-entry
unstore-requires-clause-entry c = store_entry c.requires.0 c.requires.1 _ _ c.requires.2 c.in-Store.at c.in-Store.slot c.in-Store.old c.in-Store.logged c.in-Store.is

pub unstore-requires-clause-legal : goal.unstore-requires-clause-legal
unstore-requires-clause-legal c = store_undone_is_legal c.requires.0 c.requires.1 _ _ c.requires.2 c.in-Store.at c.in-Store.slot c.in-Store.old c.in-Store.logged c.in-Store.is

pub unmake-requires-clause-legal : goal.unmake-requires-clause-legal
unmake-requires-clause-legal c = new_undone_is_legal c.requires.0 c.requires.1 _ _ c.requires.2 c.in-New.at c.in-New.fresh c.in-New.m c.in-New.r c.in-New.old c.in-New.is

pub unsnap-requires : goal.unsnap-requires
unsnap-requires c = record { snapped = snap_before c.requires.0 c.requires.1 _ _ c.requires.2 c.in-Snap.is }

pub unmark-requires-clause-legal : goal.unmark-requires-clause-legal
unmark-requires-clause-legal c = mark_undone_is_legal c.requires.0 c.requires.1 _ _ c.requires.2 c.in-Mark.parent c.in-Mark.pushed c.in-Mark.is

pub undrain-requires-clause-drained : goal.undrain-requires-clause-drained
undrain-requires-clause-drained c = drain_begun c.requires.0 c.requires.1 _ _ c.requires.2 c.in-Drain.pushed c.in-Drain.is

pub undrain-requires-clause-legal : goal.undrain-requires-clause-legal
undrain-requires-clause-legal c = drain_undone_is_legal c.requires.0 c.requires.1 _ _ c.requires.2 c.in-Drain.pushed c.in-Drain.is

pub unfinish-requires-clause-legal : goal.unfinish-requires-clause-legal
unfinish-requires-clause-legal c = finish_undone_is_legal c.requires.0 c.requires.1 _ _ c.requires.2 c.in-Finish.log c.in-Finish.is

pub unfinish-requires-clause-finished : goal.unfinish-requires-clause-finished
unfinish-requires-clause-finished c = finish_before c.requires.0 c.requires.1 _ _ c.requires.2 c.in-Finish.log c.in-Finish.is

pub unsweep-requires : goal.unsweep-requires
unsweep-requires c = record { swept = sweep_before c.requires.0 c.requires.1 _ _ c.requires.2 c.in-Sweep.region c.in-Sweep.dead c.in-Sweep.is }

pub unreclaim-requires-clause-inhabited : goal.unreclaim-requires-clause-inhabited
unreclaim-requires-clause-inhabited c = reclaim_inhabited c.requires.0 c.requires.1 _ _ c.requires.2 c.in-Reclaim.region c.in-Reclaim.storage c.in-Reclaim.is

pub unreclaim-requires-clause-legal : goal.unreclaim-requires-clause-legal
unreclaim-requires-clause-legal c = reclaim_legal c.requires.0 c.requires.1 _ _ c.requires.2 c.in-Reclaim.region c.in-Reclaim.storage c.in-Reclaim.is
