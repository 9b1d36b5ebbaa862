use Rattle.std.proofs.Common.{◌∙◌, ◌++◌, ℕ, List, ap, arith, length, sym}
use Rattle.std.specs.Prelude.{flat_map}
use Rattle.std.proofs.lemmas.List.{flat_map_more, length_push}
use Rattle.question_rows.specs.RegionLists.{region_row}
use Rattle.question_rows.proofs.SummaryRows.{no_summary_row, summary_row}
use Rattle.question_rows.proofs.UsedRegions.{used_before}
use Rattle.question_rows.proofs.region_list.push_regions.Goals as goal
use Rattle.question_rows.proofs.region_list.push_regions.Goals.{in-Some+in_ok-push_region, in_default}

pub loop-region-preserved : goal.loop-region-preserved
loop-region-preserved c =
    let all = c.args.all.now in
    let r = c.loop-region.region in
    let first = c.args.text.now.items in
    elim c.match-all-region.branch [
      | in-Some+in_ok-push_region w ↦
          let s = w.in-Some.summary in
          record {
            lines = λ regions is.
                let more = summary_row all regions r s w.in-Some.is is in
                ap (λ v. v.items) w.text-is ∙ w.in_ok-push_region.ensures ∙ ap (λ (t : List ℕ). c.loop-region.text.items ++ t) (sym more.1)
                ∙ ap (λ (t : List ℕ). t ++ region_row regions r) (c.loop-region.invariant.lines regions is)
                ∙ flat_map_more (region_row regions) first (used_before regions r) r ∙ ap (λ (l : List ℕ). first ++ flat_map (region_row regions) l) (sym more.0);
            counted = λ regions is.
                let more = summary_row all regions r s w.in-Some.is is in
                let longer = ap (λ (l : List ℕ). length l) more.0 ∙ length_push (used_before regions r) r in
                omega (arith, w.count-is, longer, c.loop-region.invariant.counted regions is);
            few = omega (arith, w.count-is, c.loop-region.invariant.few);
          }
      | in_default w ↦
          record {
            lines = λ regions is.
                let same = no_summary_row all regions r w.in_default.is is in
                ap (λ v. v.items) w.text-is ∙ c.loop-region.invariant.lines regions is ∙ ap (λ (l : List ℕ). first ++ flat_map (region_row regions) l) (sym same);
            counted = λ regions is.
                let same = no_summary_row all regions r w.in_default.is is in
                w.count-is ∙ c.loop-region.invariant.counted regions is ∙ sym (ap (λ (l : List ℕ). length l) same);
            few = omega (arith, w.count-is, c.loop-region.invariant.few);
          }
    ]
