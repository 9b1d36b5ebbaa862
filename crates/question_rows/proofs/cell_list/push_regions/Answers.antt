use Rattle.std.proofs.Common.{◌≡◌, ◌∙◌, ◌++◌, ℕ, List, None, ap, arith, length, sym}
use Rattle.std.specs.Prelude.{flat_map, option_map}
use Rattle.std.proofs.lemmas.List.{flat_map_more, length_push}
use Rattle.heap_world.specs.Pool.{RegionPool}
use Rattle.heap_world.specs.Regions.{UsedRegion, used_at}
use Rattle.heap_world.specs.State.{pool_of}
use Rattle.question_rows.specs.CellLists.{region_text}
use Rattle.question_rows.proofs.UsedRegions.{one_unused, one_used, used_before}
use Rattle.question_rows.proofs.cell_list.push_regions.Goals as goal
use Rattle.question_rows.proofs.cell_list.push_regions.Goals.{in-Some+in_ok-push_region, in_default}

pub loop-region-preserved : goal.loop-region-preserved
loop-region-preserved c =
    let heap = c.args.cells.now in
    let rs = heap.regions in
    let r = c.loop-region.region in
    let first = c.args.text.now.items in
    let f = region_text heap in
    let told : c.cell_size.result ≡ option_map (λ (u : UsedRegion). u.cell_size) (used_at rs r) =
    c.cell_size.ensures ∙ ap (λ (s : RegionPool). option_map (λ (u : UsedRegion). u.cell_size) (used_at s.regions r)) (c.regions-regions.ensures ∙ ap pool_of c.world.ensures) in
    elim c.match-cell_size.branch [
      | in-Some+in_ok-push_region w ↦
          let more = one_used rs r w.in-Some.size (sym told ∙ w.in-Some.is) in
          let longer = ap (λ (l : List ℕ). length l) more ∙ length_push (used_before rs r) r in
          record {
            lines = ap (λ v. v.items) w.text-is ∙ w.in_ok-push_region.ensures ∙ ap (λ (t : List ℕ). t ++ f r) c.loop-region.invariant.lines
                ∙ flat_map_more f first (used_before rs r) r ∙ ap (λ (l : List ℕ). first ++ flat_map f l) (sym more);
            counted = omega (arith, w.count-is, longer, c.loop-region.invariant.counted);
            few = omega (arith, w.count-is, c.loop-region.invariant.few);
          }
      | in_default w ↦
          let none : option_map (λ (u : UsedRegion). u.cell_size) (used_at rs r) ≡ None = sym told ∙ w.in_default.is in
          let same = one_unused rs r none in
          record {
            lines = ap (λ v. v.items) w.text-is ∙ c.loop-region.invariant.lines ∙ ap (λ (l : List ℕ). first ++ flat_map f l) (sym same);
            counted = w.count-is ∙ c.loop-region.invariant.counted ∙ sym (ap (λ (l : List ℕ). length l) same);
            few = omega (arith, w.count-is, c.loop-region.invariant.few);
          }
    ]
