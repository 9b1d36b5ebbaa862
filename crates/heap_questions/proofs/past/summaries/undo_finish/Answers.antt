use Rattle.std.proofs.Common.{◌≡◌, ◌∙◌, ◌≤◌, ◌<◌, ◌+◌, ℕ, List, Option, Some, None, add-one, ap, ap₂, arith, get_or, length, set, sym}
use Rattle.std.specs.Prelude.{IfSome, option_map}
use Rattle.std.proofs.lemmas.List.{get_or_read}
use Rattle.heap_region.specs.Limits.{cell_limit}
use Rattle.heap_questions.specs.RegionSummaries.{all_live}
use Rattle.heap_questions.specs.declared.past.summaries.RegionSummary.{RegionSummary}
use Rattle.heap_questions.proofs.PastRegions.{all_mapped, first_mapped, mapped_length, next_is_unchanged, one_mapped_more}
use Rattle.heap_questions.proofs.past.summaries.undo_finish.Goals as goal

pub before_finish-requires : goal.before_finish-requires
before_finish-requires c =
    let f : Option RegionSummary → Option RegionSummary = option_map all_live in
    let r = c.loop-region.region in
    let all = c.loop-region.all.items in
    let first = c.args.all.now.items in
    let now = c.index-now.result.now in
    let same : length all ≡ length first = ap (λ (l : List (Option RegionSummary)). length l) c.loop-region.invariant ∙ mapped_length f first r in
    let within : r < length all = omega (arith, c.loop-region-test.true, c.len-region-end.ensures, same) in
    go c.requires now (get_or_read all r now within c.index-now.ensures None ∙ ap (λ (l : List (Option RegionSummary)). get_or l r None) c.loop-region.invariant ∙ next_is_unchanged f first r None)
  where
    go : ((r : ℕ) (s : RegionSummary) → get_or c.args.all.now.items r None ≡ Some s → s.counts.live + s.counts.dead ≤ cell_limit) → (x : Option RegionSummary) → x ≡ get_or c.args.all.now.items c.loop-region.region None → IfSome x (λ s. s.counts.live + s.counts.dead ≤ cell_limit)
    go few None e = tt
    go few (Some s) e = few c.loop-region.region s (sym e)

pub loop-region-preserved : goal.loop-region-preserved
loop-region-preserved c =
    let f : Option RegionSummary → Option RegionSummary = option_map all_live in
    let r = c.loop-region.region in
    let all = c.loop-region.all.items in
    let first = c.args.all.now.items in
    let now = c.index-now.result.now in
    let same : length all ≡ length first = ap (λ (l : List (Option RegionSummary)). length l) c.loop-region.invariant ∙ mapped_length f first r in
    let within : r < length first = omega (arith, c.loop-region-test.true, c.len-region-end.ensures) in
    let here : r < length all = omega (arith, within, same) in
    let read : now ≡ get_or first r None = get_or_read all r now here c.index-now.ensures None ∙ ap (λ (l : List (Option RegionSummary)). get_or l r None) c.loop-region.invariant ∙ next_is_unchanged f first r None in
    ap₂ (λ (l : List (Option RegionSummary)) (x : Option RegionSummary). set l r x) c.loop-region.invariant (c.before_finish.ensures ∙ ap f read)
    ∙ one_mapped_more f first r None within
    ∙ sym (ap (λ n. first_mapped n f first) (add-one r))

pub returns : goal.returns
returns c =
    let f : Option RegionSummary → Option RegionSummary = option_map all_live in
    let first = c.args.all.now.items in
    let r = c.loop-region.region in
    let all : length first ≤ r = omega (arith, c.loop-region-test.false, c.len-region-end.ensures) in
    c.loop-region.invariant ∙ all_mapped f first r all
