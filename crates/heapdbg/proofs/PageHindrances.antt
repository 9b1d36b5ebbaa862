-- Why a session doesn't begin.
use Rattle.std.proofs.Common.{◌≡◌, ◌⊎◌, inl, inr}
use Rattle.heapdbg_options.specs.declared.settings.Origin.{Origin}
use Rattle.private_tasks.specs.declared.failure.Fault.{Fault}
use Rattle.private_tasks.specs.declared.failure.Fault.TheVariants.{Listen, Memory}
use Rattle.private_tasks.proofs.Hindrances.{no_memory_hinders}
use Rattle.heapdbg.specs.PageExplorations.{IsPageHindrance}

-- there is no memory, or the port of the page can't be listened on
pub page_hinders : (origin : Origin) (f : Fault) → (f ≡ Memory) ⊎ (f ≡ Listen) → IsPageHindrance origin f
page_hinders origin f (inl none) = inl (no_memory_hinders origin f none)
page_hinders origin f (inr taken) = inr taken
