use Rattle.std.proofs.Common.{sym, ap, ◌∙◌}
use Rattle.heap_history.specs.declared.pack.DeedPack.{DeedPack}
use Rattle.heap_history.specs.Packs.{action_by, action_in}
use Rattle.heap_history.proofs.packing.pack_action.Goals as goal

pub returns-in-Rewind : goal.returns-in-Rewind
unfolding action_in
returns-in-Rewind c = ap (λ (d : DeedPack). action_by d) c.deed_pack.ensures ∙ sym c.in-Rewind.is
