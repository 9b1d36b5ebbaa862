use Rattle.std.proofs.Common.{sym, ap, ◌∙◌}
use Rattle.heap_history.specs.declared.pack.DeedPack.{DeedPack}
use Rattle.heap_history.specs.Kept.{is_kept_action}
use Rattle.heap_history.specs.Packs.{action_by, action_in, long_action}
use Rattle.heap_history.proofs.long.long_deed.Goals as goal

pub returns-in-Rewind : goal.returns-in-Rewind
unfolding action_in long_action
returns-in-Rewind c = (ap is_kept_action c.in-Rewind.is, ap (λ (d : DeedPack). action_by d) c.deed_pack.ensures ∙ sym c.in-Rewind.is)
