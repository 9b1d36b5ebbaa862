use Rattle.std.proofs.Common.{◌≡◌, Option, sym, ◌∙◌, subst}
use Rattle.std.specs.Prelude.{IfSome}
use Rattle.heap_lock.specs.Action.TheVariants.{Step}
use Rattle.heap_history.specs.declared.pack.DeedPack.{DeedPack}
use Rattle.heap_history.specs.Packs.{action_by}
use Rattle.heap_history.proofs.EventPacks.{pack_tells}
use Rattle.heap_runtime.proofs.copies.step_of.Goals as goal

pub returns-in-Some : goal.returns-in-Some
returns-in-Some c =
    c.action_in.ensures ∙ subst (λ (o : Option DeedPack). IfSome o (λ d. action_by d ≡ Step c.args.event.now)) (sym c.pack_event.ensures ∙ c.in-Some.is) (pack_tells c.args.event.now)
