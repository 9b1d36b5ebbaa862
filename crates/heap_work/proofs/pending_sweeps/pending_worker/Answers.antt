use Rattle.std.proofs.Common.{ap, ◌∙◌}
use Rattle.heap_lock.specs.LockStates.{SeatModel}
use Rattle.heap_work.proofs.WorkerTurns.{gate_lets_one_more_begin}
use Rattle.heap_work.proofs.PendingTurns.{pending_work_one_sweep_further}
use Rattle.heap_work.proofs.pending_sweeps.pending_worker.Goals as goal

pub loop-turn-preserved : goal.loop-turn-preserved
loop-turn-preserved g c =
    let r = c.in_default-act.field-0 in
    let t = c.loop-turn in (
      pending_work_one_sweep_further g.L.Heap.config c.args.seat.now t.seat c.act.new.seat c.args.witness.now t.witness c.pending.new.witness t.turn c.in-Some.region r.turn r.answer t.invariant.0 c.in-Some.ensures c.in_default-act.ensures.receipt.1,
      gate_lets_one_more_begin g.G.Gate.says t.turn c.args.gate.now t.gate c.pass.new.self t.invariant.1 c.if-not-pass.ensures,
      ap (λ (x : SeatModel). x.role) c.in_default-act.ensures.receipt.1 ∙ t.invariant.2,
    )
