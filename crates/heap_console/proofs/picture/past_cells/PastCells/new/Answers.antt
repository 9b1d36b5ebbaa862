use Rattle.std.proofs.Common.{sym, ◌∙◌}
use Rattle.hprof_text.proofs.ViewedObjects.{number_after_place_within}
use Rattle.heap_console.proofs.picture.past_cells.PastCells.new.Goals as goal

pub loop-here-preserved : goal.loop-here-preserved
loop-here-preserved g c =
    let places = g.V.View.places c.args.view.now in
    let i = c.loop-here.passed in
    let at = c.in-Some.at in
    let e = sym c.loop-here.invariant.here ∙ c.in-Some.is in
    record {
      here = c.next-here.ensures i e;
      passed = number_after_place_within places i at e;
    }
