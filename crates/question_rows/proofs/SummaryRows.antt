-- The rows of regions, by what is told of each.
use Rattle.std.proofs.Common.{◌≡◌, ◌∙◌, ℕ, zero, suc, ◌+◌, List, [], ◌∷◌, ◌++◌, get_or, Option, Some, None, refl, sym, ap}
use Rattle.std.specs.Prelude.{option_map}
use Rattle.std.specs.Option.{option_map_or}
use Rattle.std.proofs.lemmas.Option.{none-some}
use Rattle.heap_world.specs.Regions.{Empty, InUse, Region, UsedRegion, used_at}
use Rattle.heap_questions.specs.RegionSummaries.{summaries, summary_of}
use Rattle.heap_questions.specs.declared.past.summaries.RegionSummary.{RegionSummary}
use Rattle.heap_questions.proofs.PastRegions.{region_told}
use Rattle.question_rows.specs.RegionLists.{region_row, summary_text}
use Rattle.question_rows.proofs.UsedRegions.{one_unused, one_used, used_before}

unused_by_summary : (regions : List Region) (r : ℕ) → get_or (summaries regions) r None ≡ None → used_at regions r ≡ None
unfolding used_at
unused_by_summary [] r e = refl
unused_by_summary (Empty ∷ xs) zero e = refl
unused_by_summary (InUse u ∷ xs) zero e = absurd (none-some (summary_of u) (sym e))
unused_by_summary (x ∷ xs) (suc r) e = unused_by_summary xs r e

-- a region in use has a row
pub summary_row : (all : List (Option RegionSummary)) (regions : List Region) (r : ℕ) (s : RegionSummary) → get_or all r None ≡ Some s → all ≡ summaries regions
    → (used_before regions (r + 1) ≡ used_before regions r ++ r ∷ []) × (region_row regions r ≡ summary_text r s)
summary_row all regions r s here is =
    let u = region_told regions r s (sym (ap (λ (l : List (Option RegionSummary)). get_or l r None) is) ∙ here) in (
      one_used regions r u.0.cell_size (ap (option_map (λ (u : UsedRegion). u.cell_size)) u.1),
      ap (λ (x : Option UsedRegion). option_map_or (λ u. summary_text r (summary_of u)) x []) u.1 ∙ ap (summary_text r) u.2,
    )

-- another has none
pub no_summary_row : (all : List (Option RegionSummary)) (regions : List Region) (r : ℕ) → get_or all r None ≡ None → all ≡ summaries regions → used_before regions (r + 1) ≡ used_before regions r
no_summary_row all regions r here is =
    one_unused regions r (ap (option_map (λ (u : UsedRegion). u.cell_size)) (unused_by_summary regions r (sym (ap (λ (l : List (Option RegionSummary)). get_or l r None) is) ∙ here)))
