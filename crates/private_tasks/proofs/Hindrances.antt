-- Why a session doesn't begin.
use Rattle.std.proofs.Common.{◌≡◌, inl}
use Rattle.heapdbg_options.specs.declared.settings.Origin.{Origin}
use Rattle.heapdbg_options.specs.declared.settings.Origin.TheVariants.{Fresh, Lines, Dump, Dumps}
use Rattle.private_tasks.specs.declared.failure.Fault.{Fault}
use Rattle.private_tasks.specs.declared.failure.Fault.TheVariants.{Memory}
use Rattle.private_tasks.specs.Explorations.{IsHindrance}

-- there is no memory, whatever is run first
pub no_memory_hinders : (origin : Origin) (f : Fault) → f ≡ Memory → IsHindrance origin f
no_memory_hinders Fresh f none = none
no_memory_hinders Lines f none = inl none
no_memory_hinders Dump f none = inl none
no_memory_hinders Dumps f none = inl none
