use Rattle.std.proofs.Common.{◌≡◌, sym, ap, ◌∙◌}
use Rattle.heap_history.specs.declared.entry.Outcome.TheVariants.{Refused as Denied}
use Rattle.heap_history.specs.declared.pack.Told.{Told}
use Rattle.heap_history.specs.Details.{refusal_from}
use Rattle.heap_history.specs.Packs.{outcome_in}
use Rattle.heap_history.proofs.Refusals.{refusal_back_from_its_number}
use Rattle.heap_history.proofs.packing.pack_refusal.Goals.{then-second-eq0, else-second-eq0}
use Rattle.heap_history.proofs.packing.pack_refusal.Goals as goal

pub returns : goal.returns
unfolding outcome_in
returns c =
    let d = c.details-first.result in
    let n = c.number.result in
    let whole : refusal_from n d.0 d.1 ≡ c.args.refusal
    = (λ i. refusal_from (c.number.ensures i) (c.details-first.ensures i).0 (c.details-first.ensures i).1) ∙ refusal_back_from_its_number c.args.refusal in
    elim c.if-second-eq0.branch [
      | then-second-eq0 w ↦ ap (λ (t : Told). outcome_in t n d.0 d.1) w.result-is ∙ ap Denied (ap (refusal_from n d.0) (sym w.if-second-eq0.true) ∙ whole)
      | else-second-eq0 w ↦ ap (λ (t : Told). outcome_in t n d.0 d.1) w.result-is ∙ ap Denied whole
    ]
