use Rattle.std.proofs.Common.{sym, ◌∙◌}
use Rattle.heap_history.proofs.LongDeeds.{packed_event_is_kept}
use Rattle.heap_history.proofs.long.long_event.Goals as goal

pub returns-in-Some : goal.returns-in-Some
returns-in-Some c = packed_event_is_kept c.args.event.now c.in-Some.deed (sym c.pack_event.ensures ∙ c.in-Some.is)
