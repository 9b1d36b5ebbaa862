use Rattle.std.proofs.Common.{◌≡◌, ◌∙◌, ◌*◌, [], length, sym, ap, subst, arith}
use Rattle.heap_questions.specs.Distances.{AreNearest, distance_by}
use Rattle.heap_questions.specs.Search.{slot_span}
use Rattle.heap_questions.specs.Starts.{with_starts}
use Rattle.heap_questions.proofs.Starting.{starts_many}
use Rattle.heap_questions.proofs.nearest.nearest_starts.Goals as goal

pub returns : goal.returns
returns g c =
    let image = g.V.View.image c.args.view.now in
    let d = distance_by c.args.nodes.now c.args.table.now in
    let all : c.loop-r.r ≡ length image.registers = omega (arith, c.loop-r-test.false, c.loop-r.auto.r-end, ap length c.registers-registers.ensures) in
    subst (λ k. AreNearest d (with_starts image []).registers k c.args.most c.loop-r.starts.items) (ap (λ k. k * slot_span) all ∙ sym (starts_many image [])) c.loop-r.invariant
