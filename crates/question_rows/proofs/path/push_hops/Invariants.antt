use Rattle.std.proofs.Common.{◌≡◌, ◌++◌, drop}
use Rattle.question_rows.specs.Paths.{hop_texts}
use Rattle.question_rows.proofs.path.push_hops.Given as goal

abbrev pub invariant-loop-hop : goal.invariant-loop-hop
invariant-loop-hop l = l.text.items ++ hop_texts l.here (drop l.hop-index l.hops) ≡ l.fn.text.items ++ hop_texts l.start l.hops
