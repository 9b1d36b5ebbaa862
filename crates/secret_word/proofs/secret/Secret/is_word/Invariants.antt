use Rattle.secret_word.proofs.Differences.{IsDifference}
use Rattle.secret_word.proofs.secret.Secret.is_word.Given as goal

abbrev pub invariant-loop-place : goal.invariant-loop-place
invariant-loop-place l = IsDifference l.place l.self-inside.size l.line l.self-inside.bytes l.difference
