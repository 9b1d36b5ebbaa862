use Rattle.heap_history.proofs.EventPacks.{event_without_pack_defines_class}
use Rattle.heap_runtime.proofs.copies.copy_definition.Goals as goal

pub unreachable-requires : goal.unreachable-requires
unreachable-requires c = event_without_pack_defines_class c.args.event.now c.requires c.in_default.not-Class c.in_default.not-ArrayClass
