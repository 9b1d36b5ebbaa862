use Rattle.heap_history.specs.History.{entry}
use Rattle.heap_history.specs.Packs.{long_entry}
use Rattle.heap_history.proofs.long.long_of.Goals as goal

pub returns : goal.returns
unfolding long_entry
returns c =
    let told = c.in_ok-deed.ensures in
    (told.0, λ i. entry c.args.entry.now.seat (told.1 i) (c.pack_outcome.ensures i))
