-- The rows of a ranking are there.
use Rattle.std.proofs.Common.{◌<◌, ℕ, List, length}
use Rattle.std.specs.Prelude.{All}
use Rattle.std.proofs.lemmas.List.Elements.{All-contains_itself, All-weaker}
use Rattle.std.specs.Prelude.{Contains}
use Rattle.heap_questions.specs.declared.rows.Row.{Row}
use Rattle.heap_questions.specs.Ranking.{IsRanking}

pub ranked_within : (rows : List Row) (ranked : List ℕ) → IsRanking rows ranked → All (λ g. g < length rows) ranked
ranked_within rows ranked r = All-weaker (Contains ranked) (λ g. g < length rows) (λ g h. ((r.all g).0 h).0) ranked (All-contains_itself ranked)
