use Rattle.std.proofs.Common.{◌+◌, sym, ap, ◌∙◌, subst}
use Rattle.heap_lock.specs.Event.{Event}
use Rattle.heap_lock.specs.Action.TheVariants.{Step}
use Rattle.heap_lock.specs.LockStates.{Stands, with_entry}
use Rattle.heap_work.specs.declared.Stage.{Stage}
use Rattle.heap_work.proofs.WorkerTurns.{IsMarking, gate_lets_one_more_begin, marking_goes, marking_ends_at_receipt, marking_asks_for_one_more, marking_asks_for_last_act, receipt_end_is_no_stop}
use Rattle.heap_work.proofs.mark_from.Goals as goal

pub returns-in-Some-clause-work : goal.returns-in-Some-clause-work
returns-in-Some-clause-work g c =
    let r = c.in-Ok.receipt in
    let asked = c.event_of_stage.ensures in
    marking_ends_at_receipt c.args.first g.L.Heap.config c.args.seat.now c.loop-turn.seat c.act.new.seat c.loop-turn.stage c.loop-turn.turn c.args.turns r c.in-Some.end c.loop-turn.invariant.0 c.loop-turn-test.true
    c.in-Ok.ensures.receipt.0
    (c.in-Ok.ensures.receipt.1 ∙ ap (λ (e : Event). with_entry r.turn (Step e) r.answer c.loop-turn.seat) asked)
    (subst (λ (e : Event). Stands g.L.Heap.config c.act.new.seat r.turn (Step e) r.answer) asked c.in-Ok.ensures.stands)
    (sym c.end_of_receipt.ensures ∙ c.in-Some.is)

pub loop-turn-preserved : goal.loop-turn-preserved
loop-turn-preserved g c =
    let r = c.in-Ok.receipt in
    let goes = marking_goes c.args.first c.args.seat.now c.loop-turn.seat c.act.new.seat c.loop-turn.stage c.loop-turn.turn r c.loop-turn.invariant.0
    c.in-Ok.ensures.receipt.0
    (c.in-Ok.ensures.receipt.1 ∙ ap (λ (e : Event). with_entry r.turn (Step e) r.answer c.loop-turn.seat) c.event_of_stage.ensures)
    (sym c.end_of_receipt.ensures ∙ c.in_default.is) in (
      subst (λ (stage : Stage). IsMarking c.args.first c.args.seat.now c.act.new.seat stage (c.loop-turn.turn + 1)) (sym c.next-stage.ensures) goes,
      gate_lets_one_more_begin g.G.Gate.says c.loop-turn.turn c.args.gate.now c.loop-turn.gate c.pass.new.self c.loop-turn.invariant.1 c.if-not-pass.ensures,
    )

pub returns-in-Some-clause-stops : goal.returns-in-Some-clause-stops
returns-in-Some-clause-stops g c = receipt_end_is_no_stop g.G.Gate.says c.args.seat.now c.act.new.seat c.pass.new.self c.in-Ok.receipt c.in-Some.end (sym c.end_of_receipt.ensures ∙ c.in-Some.is)

pub returns-in-Some-clause-asks : goal.returns-in-Some-clause-asks
returns-in-Some-clause-asks g c =
    let r = c.in-Ok.receipt in
    marking_asks_for_last_act g.G.Gate.says c.args.first c.args.seat.now c.loop-turn.seat c.act.new.seat c.loop-turn.stage c.loop-turn.turn c.args.gate.now c.loop-turn.gate c.pass.new.self r c.in-Some.end c.loop-turn.invariant.0
    (c.in-Ok.ensures.receipt.1 ∙ ap (λ (e : Event). with_entry r.turn (Step e) r.answer c.loop-turn.seat) c.event_of_stage.ensures)
    c.loop-turn.invariant.1 c.if-not-pass.ensures (sym c.end_of_receipt.ensures ∙ c.in-Some.is)

pub returns-in-Err-clause-asks : goal.returns-in-Err-clause-asks
returns-in-Err-clause-asks g c =
    marking_asks_for_one_more g.G.Gate.says c.args.first c.args.seat.now c.loop-turn.seat c.act.new.seat c.loop-turn.stage c.loop-turn.turn c.args.gate.now c.loop-turn.gate c.pass.new.self c.loop-turn.invariant.0 c.in-Err.ensures.refused.0
    c.loop-turn.invariant.1 c.if-not-pass.ensures
