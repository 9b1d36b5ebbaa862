use Rattle.std.proofs.Common.{◌≡◌, ℕ, ◌-◌, ◌+◌, suc, refl, ap, arith}
use Rattle.heap_mark.specs.MarkSteps.{unshaded}
use Rattle.heap_mark.specs.Marker.{at_work}
use Rattle.heap_mark.proofs.Pops.{one_more_shade_undone, all_shades_undone, top_is}
use Rattle.heap_mark.proofs.marker.Marker.unshade.Goals as goal

pub unshade_top-requires-clause-within : goal.unshade_top-requires-clause-within
unshade_top-requires-clause-within c = omega (arith, c.loop-step.invariant.within)

pub unshade_top-requires-clause-names : goal.unshade_top-requires-clause-names
unshade_top-requires-clause-names c = c.loop-step.invariant.names _ (top_is c.loop-step.self.gray (omega (arith, c.loop-step.invariant.within)))

pub loop-step-init : goal.loop-step-init
loop-step-init c =
    let all : c.args.count - 0 ≡ c.args.count = omega arith in
    record {
      left = ap (λ (n : ℕ). unshaded n (at_work c.args.regions.now.regions c.args.self.now)) all;
      room = refl;
      pool = refl;
      area = refl;
      within = omega (arith, c.requires.within);
      names = c.requires.names;
    }

pub loop-step-preserved : goal.loop-step-preserved
loop-step-preserved c =
    let n : ℕ = c.args.count - (c.loop-step._step + 1) in
    let more : c.args.count - c.loop-step._step ≡ suc n = omega arith in
    one_more_shade_undone _ n _ _ _ _ _ _ (rw more at c.loop-step.invariant) c.unshade_top.ensures.marker c.unshade_top.ensures.regions

pub returns-clause-marker : goal.returns-clause-marker
returns-clause-marker c = (all_shades_undone _ (c.args.count - c.loop-step._step) _ _ _ _ (omega arith) c.loop-step.invariant).0

pub returns-clause-regions : goal.returns-clause-regions
returns-clause-regions c = (all_shades_undone _ (c.args.count - c.loop-step._step) _ _ _ _ (omega arith) c.loop-step.invariant).1
