use Rattle.std.proofs.Common.{◌∷◌, [], ◌++◌, ◌∙◌}
use Rattle.heap_lock.specs.Action.TheVariants.{Step}
use Rattle.heap_runtime.proofs.OwnClaims.{act_adds_claim_and_entry}
use Rattle.heap_runtime.proofs.actor.claim.Goals as goal

pub returns-clause-claims : goal.returns-clause-claims
returns-clause-claims g c =
    c.push_reserved.ensures.items
    ∙ (λ i. c.reserve.ensures.items i ++ (c.requires.action i, c.in_ok-receipt.receipt) ∷ [])

pub returns-clause-own : goal.returns-clause-own
returns-clause-own g c =
    act_adds_claim_and_entry c.args.claims.now.items c.push_reserved.new.self.items c.args.seat.now c.act.new.seat (Step c.args.event) c.in_ok-receipt.receipt c.requires.own c.in_ok-receipt.ensures.receipt
    (c.push_reserved.ensures.items ∙ (λ i. c.reserve.ensures.items i ++ (c.requires.action i, c.in_ok-receipt.receipt) ∷ []))
