use Rattle.hprof_text.proofs.Ids.{ids_are_equal_as_bytes}
use Rattle.hprof_text.proofs.equal_ids.Goals as goal

pub returns : goal.returns
returns c = ids_are_equal_as_bytes
