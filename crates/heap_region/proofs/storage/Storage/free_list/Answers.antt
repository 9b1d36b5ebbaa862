use Rattle.heap_region.proofs.CellChanges.{sound_storage_is_walked}
use Rattle.heap_region.proofs.storage.Storage.free_list.Goals as goal

pub invariant_of-result : goal.invariant_of-result
invariant_of-result c = rw (c.words.ensures, c.len.ensures.value, c.headers.ensures) (sound_storage_is_walked _ _ _ _ c.self.invariant)
