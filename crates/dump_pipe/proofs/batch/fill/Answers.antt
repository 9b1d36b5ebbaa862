use Rattle.std.proofs.Common.{true, subst, sym, ◌∙◌}
use Rattle.dump_pipe.specs.Batches.{IsFilled}
use Rattle.dump_pipe.proofs.BatchFilling.{batch_filled_by_last_part, batch_filled_by_part}
use Rattle.dump_pipe.proofs.batch.fill.Goals as goal

pub returns-in-Some-true-clause-filled : goal.returns-in-Some-true-clause-filled
returns-in-Some-true-clause-filled g c =
    subst (λ x. IsFilled (g.S.Source.seen c.args.source.now) (g.S.Source.seen c.next-next.new.self) c.args.batch.now.items c.append.new.batch.items x true) (sym c.loop-next.invariant.1)
    (batch_filled_by_last_part _ _ _ c.args.batch.now.items c.loop-next.batch.items c.append.new.batch.items c.next-next.result c.in-Some-true.field-0 c.in-Some-true.field-0-test c.loop-next.invariant.0 c.next-next.ensures.next c.in-Some-true.ensures)

pub loop-next-preserved-in-Some-false : goal.loop-next-preserved-in-Some-false
loop-next-preserved-in-Some-false g c = (
  batch_filled_by_part _ _ _ c.args.batch.now.items c.loop-next.batch.items c.append.new.batch.items c.next-next.result c.in-Some-false.field-0 c.in-Some-false.field-0-test c.loop-next.invariant.0 c.next-next.ensures.next c.in-Some-false.ensures,
  c.loop-next.invariant.1,
  c.next-next.ensures.kept ∙ c.loop-next.invariant.2,
)
