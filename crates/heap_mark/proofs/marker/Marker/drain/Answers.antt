use Rattle.std.proofs.Common.{◌≡◌, ◌∷◌, [], ◌<◌, ◌+◌, inl, sym, ap, ◌∙◌, reverse, length, arith, get_or}
use Rattle.std.proofs.lemmas.List.{length-reverse, get_or_default}
use Rattle.heap_mark.specs.MarkSteps.{drained_once}
use Rattle.heap_mark.specs.Marker.{MarkerState, at_work}
use Rattle.heap_mark.proofs.Calls.{drain_idle, drain_none, drain_free, stack_grows}
use Rattle.heap_mark.proofs.marker.Marker.drain.Goals as goal

pub returns-then-not-is_marking-clause-answered : goal.returns-then-not-is_marking-clause-answered
returns-then-not-is_marking-clause-answered c = inl (drain_idle (at_work c.args.regions.now.regions c.args.self.now) (rw (← c.self.view_is) (sym c.if-not-is_marking.ensures)))

pub returns-then-self-len-clause-answered : goal.returns-then-self-len-clause-answered
returns-then-self-len-clause-answered c =
    let i = c.self.inside in
    inl (drain_none (at_work c.args.regions.now.regions c.args.self.now) (rw (← c.self.view_is) (sym c.if-not-is_marking.ensures)) (rw (← c.self.view_is) (omega (arith, c.if-self-len.true, c.len.ensures, i.log.ok.0))))

pub shade-requires-clause-names : goal.shade-requires-clause-names
shade-requires-clause-names c some =
    let i = c.self.inside in
    let within : i.drained < length i.log.items = omega (arith, c.if-self-len.false, c.len.ensures, i.log.ok.0) in
    (rw (← c.self.view_is) at c.requires.entries) c.index-id.result.now (i.drained, within, sym c.index-id.ensures)

pub overflow_sub-result : goal.overflow_sub-result
overflow_sub-result c =
    let i = c.self.inside in
    let grown = stack_grows (c.index-id.result.now ∷ []) (at_work c.args.regions.now.regions (record { gray = reverse i.gray.items; room = 0; log = i.log.items; drained = i.drained + 1; phase = i.phase })) in
    omega (arith, grown, c.len-before.ensures, c.len-2.ensures, ap (λ (m : MarkerState). length m.gray) (c.self-2.view_is ∙ c.shade.ensures.marker), length-reverse c.self-2.inside.gray.items, c.self-2.inside.gray.ok.0, length-reverse i.gray.items, i.gray.ok.0)

pub returns-clause-answered : goal.returns-clause-answered
returns-clause-answered c =
    let i = c.self.inside in
    drain_free (at_work c.args.regions.now.regions c.args.self.now) (rw (← c.self.view_is) (sym c.if-not-is_marking.ensures)) (rw (← c.self.view_is) (omega (arith, c.if-self-len.false, c.len.ensures, i.log.ok.0)))

pub returns-clause-marker : goal.returns-clause-marker
unfolding drained_once
returns-clause-marker c =
    let is : c.index-id.result.now ≡ get_or c.self.inside.log.items c.self.inside.drained 0 = c.index-id.ensures ∙ get_or_default c.self.inside.log.items c.self.inside.drained c.index-id.result.now 0 (omega (arith, c.if-self-len.false, c.len.ensures, c.self.inside.log.ok.0)) in
    rw (← c.self.view_is, ← is) c.shade.ensures.marker

pub returns-clause-regions : goal.returns-clause-regions
unfolding drained_once
returns-clause-regions c =
    let is : c.index-id.result.now ≡ get_or c.self.inside.log.items c.self.inside.drained 0 = c.index-id.ensures ∙ get_or_default c.self.inside.log.items c.self.inside.drained c.index-id.result.now 0 (omega (arith, c.if-self-len.false, c.len.ensures, c.self.inside.log.ok.0)) in
    rw (← c.self.view_is, ← is) c.shade.ensures.regions
