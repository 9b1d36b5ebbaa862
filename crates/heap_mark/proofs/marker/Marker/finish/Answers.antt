use Rattle.std.proofs.Common.{◌≡◌, ℕ, List, Vec, Global, ◌+◌, ◌-◌, ◌<◌, ◌≤◌, inl, sym, ap, ◌∙◌, reverse, length, arith}
use Rattle.std.proofs.lemmas.List.{length-reverse}
use Rattle.std.specs.Prelude.{vec_capacity}
use Rattle.heap_mark.specs.declared.Phase.TheVariants.{Idle}
use Rattle.heap_mark.specs.MarkSteps.{finished}
use Rattle.heap_mark.specs.Marker.{MarkerState, at_work}
use Rattle.heap_region.specs.Regions.{Region}
use Rattle.heap_mark.proofs.TurnedRegions.{turn_ends}
use Rattle.heap_mark.proofs.Finishes.{finish_idle, finish_undone, finish_unswept, finish_free}
use Rattle.heap_mark.proofs.marker.Marker.finish.Goals as goal
use Rattle.heap_mark.proofs.marker.Marker.finish.Goals.{then-gray-gt0-via-then-gray-gt0, then-gray-gt0-via-else-gray-gt0+then-undrained-gt0}

pub returns-then-not-is_marking-clause-answered : goal.returns-then-not-is_marking-clause-answered
returns-then-not-is_marking-clause-answered c = inl (finish_idle (at_work c.args.regions.now.regions c.args.self.now) (rw (← c.self.view_is) (sym c.if-not-is_marking.ensures)))

pub returns-then-gray-gt0-clause-answered : goal.returns-then-gray-gt0-clause-answered
returns-then-gray-gt0-clause-answered c =
    let i = c.self.inside in
    let gray : c.len-gray.result ≡ length c.args.self.now.gray = rw (← c.self.view_is) (omega (arith, c.len-gray.ensures, length-reverse i.gray.items, i.gray.ok.0)) in
    let undrained : c.len.result - i.drained ≡ length c.args.self.now.log - c.args.self.now.drained = rw (← c.self.view_is) (omega (arith, c.len.ensures, i.log.ok.0)) in
    let left : 0 < c.len-gray.result + (c.len.result - i.drained) = elim c.then-gray-gt0.branch [
      | then-gray-gt0-via-then-gray-gt0 w ↦ omega (arith, w.if-gray-gt0.true)
      | then-gray-gt0-via-else-gray-gt0+then-undrained-gt0 w ↦ omega (arith, w.if-undrained-gt0.true)
    ] in
    inl (finish_undone (at_work c.args.regions.now.regions c.args.self.now) c.len-gray.result (c.len.result - i.drained) (rw (← c.self.view_is) (sym c.if-not-is_marking.ensures)) gray undrained left)

pub returns-in-Some-clause-answered : goal.returns-in-Some-clause-answered
returns-in-Some-clause-answered c =
    let i = c.self.inside in
    let done : length (reverse i.gray.items) + (length i.log.items - i.drained) ≤ 0 = omega (arith, c.if-gray-gt0.false, c.if-undrained-gt0.false, c.len-gray.ensures, c.len.ensures, length-reverse i.gray.items, i.gray.ok.0, i.log.ok.0) in
    inl (finish_unswept (at_work c.args.regions.now.regions c.args.self.now) c.in-Some.region (rw (← c.self.view_is) (sym c.if-not-is_marking.ensures)) (rw (← c.self.view_is) done) c.in-Some.ensures)

pub returns-clause-answered : goal.returns-clause-answered
returns-clause-answered c =
    let i = c.self.inside in
    let done : length (reverse i.gray.items) + (length i.log.items - i.drained) ≤ 0 = omega (arith, c.if-gray-gt0.false, c.if-undrained-gt0.false, c.len-gray.ensures, c.len.ensures, length-reverse i.gray.items, i.gray.ok.0, i.log.ok.0) in
    finish_free (at_work c.args.regions.now.regions c.args.self.now) (rw (← c.self.view_is) (sym c.if-not-is_marking.ensures)) (rw (← c.self.view_is) done) c.in_default.ensures

pub returns-clause-marker : goal.returns-clause-marker
unfolding finished
returns-clause-marker c =
    let i = c.self.inside in
    let with_log : List ℕ → MarkerState = λ l. record { gray = reverse i.gray.items; room = vec_capacity i.gray; log = l; drained = 0; phase = Idle } in
    let emptied = ap (λ (v : Vec ℕ Global). v.items) c.replace-ids.ensures.after ∙ c.new.ensures.items in
    rw (← c.self.view_is) (ap with_log emptied)

pub returns-clause-regions : goal.returns-clause-regions
returns-clause-regions c =
    c.turn_all-condemned.ensures.regions
    ∙ ap (λ (l : List Region). record c.args.regions.now { regions = l }) (turn_ends (at_work c.args.regions.now.regions c.args.self.now) (returns-clause-answered c) (c.requires (returns-clause-answered c)))
