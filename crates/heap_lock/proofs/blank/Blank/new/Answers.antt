use Rattle.heap_lock.proofs.LedgerSideSteps.{full_side_begins_ledger}
use Rattle.heap_lock.proofs.blank.Blank.new.Goals as goal

pub new-requires : goal.new-requires
new-requires c = full_side_begins_ledger
