use Rattle.std.proofs.Common.{◌≡◌, ◌+◌, List, ◌∷◌, drop, length, refl, sym, ap, ◌∙◌, subst, arith}
use Rattle.std.proofs.lemmas.List.{drop_more}
use Rattle.heap_trail.specs.declared.Action.{Action}
use Rattle.heap_history.specs.declared.receipt.Receipt.{Receipt}
use Rattle.heap_history.specs.Audits.{AuditsKept}
use Rattle.heap_history.specs.Chronicles.{dropped_of}
use Rattle.heap_history.proofs.audits.all_agree.Goals as goal

pub loop-claim-init : goal.loop-claim-init
loop-claim-init c = (λ h. h, λ h. h)

pub agrees-requires : goal.agrees-requires
agrees-requires c = omega arith

pub loop-claim-preserved : goal.loop-claim-preserved
loop-claim-preserved c =
    let claims = c.args.claims.now in
    let at = c.loop-claim.claim-index in
    let claim = c.claim-item.result in
    let es = c.args.chronicle.now.entries in
    let kept = λ (l : List (Action × Receipt)). AuditsKept (dropped_of c.args.chronicle.now.rolls (length es)) es c.loop-claim.last l in
    let one : drop at claims ≡ claim ∷ drop (at + 1) claims = drop_more claims at claim c.loop-claim-test.true ∙ ap (λ (x : Action × Receipt). x ∷ drop (at + 1) claims) (sym c.claim-item.is) in (
      (λ h. (subst kept one (c.loop-claim.invariant.0 h)).2),
      (λ h. c.loop-claim.invariant.1 (subst kept (sym one) (c.if-claim-last.false, c.if-not-agrees.ensures.0 refl, h))),
    )
