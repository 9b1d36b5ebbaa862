use Rattle.std.proofs.Common.{◌<◌, ◌∙◌, ℕ, length-set, sym, subst, arith, slice_index_or}
use Rattle.std.proofs.lemmas.List.{at_drop_all}
use Rattle.std.proofs.lemmas.List.Elements.{All-get_or}
use Rattle.heap_region.specs.Regions.{Object}
use Rattle.heap_pins.specs.Walk.{dead_state}
use Rattle.heap_pins.proofs.AddedCopies.{dead_state_is_written}
use Rattle.heap_pins.proofs.cells.restore_dead.Goals as goal

pub loop-cell-preserved : goal.loop-cell-preserved
loop-cell-preserved c =
    let small : c.loop-cell-item.result.0 < 256 =
    subst (λ (d : ℕ × Object). d.0 < 256) (sym c.loop-cell-item.is) (All-get_or (λ (d : ℕ × Object). d.0 < 256) c.args.dead.now c.loop-cell.cell-index c.loop-cell-item.result c.loop-cell-test.true c.requires.within) in
    record {
      count = length-set c.loop-cell.states c.loop-cell-item.result.0 c.object_state.result ∙ c.loop-cell.invariant.count;
      each = dead_state_is_written c.args.dead.now c.loop-cell.cell-index c.loop-cell-item.result c.object_state.result c.args.states.now c.loop-cell.states
          c.loop-cell-test.true c.loop-cell-item.is (omega (arith, small, c.loop-cell.invariant.count, c.told-states)) c.object_state.ensures c.loop-cell.invariant.each;
    }

pub returns : goal.returns
unfolding dead_state
returns c = record {
  count = c.loop-cell.invariant.count;
  each = λ k. sym (at_drop_all (λ ds. dead_state ds k (slice_index_or c.loop-cell.states k 0)) c.args.dead.now c.loop-cell.cell-index c.loop-cell-test.false) ∙ c.loop-cell.invariant.each k;
}
