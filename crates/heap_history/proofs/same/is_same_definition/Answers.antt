use Rattle.heap_history.proofs.EventPacks.{event_without_pack_defines_class}
use Rattle.heap_history.proofs.same.is_same_definition.Goals as goal

pub unreachable-requires : goal.unreachable-requires
unreachable-requires c = event_without_pack_defines_class c.args.a.now c.requires c.in_default.not-Class c.in_default.not-ArrayClass
