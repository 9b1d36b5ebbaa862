use Rattle.question_rows.proofs.RankedRows.{ranked_within}
use Rattle.question_rows.proofs.histogram.rows_text.Goals as goal

pub push_rows-requires-clause-within : goal.push_rows-requires-clause-within
push_rows-requires-clause-within c =
    rw (c.as_slice.ensures.value, c.as_slice-rows.ensures) (ranked_within c.args.histogram.now c.in_ok-ranked.ranked.items c.in_ok-ranked.ensures.ranking)
