use Rattle.std.proofs.Common.{◌*◌, sym, arith}
use Rattle.std.proofs.lemmas.Bool.{eqb-true}
use Rattle.heap_questions.proofs.ToldNodes.{all_told}
use Rattle.heap_questions.proofs.nodes.are_told.Goals as goal

pub returns : goal.returns
returns c t =
    let l = c.loop-place in
    let past = c.loop-place-test.false in
    all_told c.args.first c.args.hints.now c.args.nodes.now (l.place * 64) l.node l.invariant.told (omega (arith, past)) (sym (eqb-true _ _ t))
