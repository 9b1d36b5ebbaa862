-- The search for the lowest run of the area, region by region.
use Rattle.std.proofs.Common.{◌≡◌, ℕ, ◌+◌, ◌-◌, ◌<◌, ◌≤◌, false, List, length, map, Option, Some, None, get_or, sym, ap, ◌∙◌, inl, inr, arith}
use Rattle.std.specs.Prelude.{find}
use Rattle.std.specs.List.{range_with_len}
use Rattle.std.proofs.lemmas.Bool.{cases_eq, cases_lt}
use Rattle.std.proofs.lemmas.List.{length-map}
use Rattle.heap_region.specs.Limits.{region_limit}
use Rattle.heap_region.specs.Regions.{UsedRegion, regions_for, used_at}
use Rattle.heap_region.specs.Pool.{is_run}
use Rattle.heap_region.specs.Legal.{IsArea}
use Rattle.heap_region.specs.Table.{shown_region}
use Rattle.heap_region.proofs.Areas.{IsClearOf, below_area_is_small, clear_is_run, past_the_end_is_no_run, range_has_first, range_has_none, taken_region_is_in_no_run}
use Rattle.heap_region.proofs.BlockSizes.{regions_for_small_at_most_one, regions_for_some}
use Rattle.heap_region.proofs.ShownRegions.{used_region_is_slot}

-- the regions below this one were looked at: no object of them takes a region from `first` on, and no run begins below `first`
pub record IsScanned (slots : List (Option UsedRegion)) (start count first region : ℕ) : Type 0 where
  pub low : start ≤ first
  pub clear : (q : ℕ) (u : UsedRegion) → q < region → get_or slots q None ≡ Some u → q + regions_for u.cell_size ≤ first
  pub blocked : (r : ℕ) → start ≤ r → r < first → is_run count (map shown_region slots) r ≡ false
  pub near : region < first + count
  pub far : first ≤ region + region_limit

-- a region in use, as it is shown
slot_in_use : (slots : List (Option UsedRegion)) (q : ℕ) (u : UsedRegion) → get_or slots q None ≡ Some u → used_at (map shown_region slots) q ≡ Some u
slot_in_use slots q u is = used_region_is_slot slots q ∙ is

pub scan_begins : (slots : List (Option UsedRegion)) (start count : ℕ) → IsArea (map shown_region slots) start → 1 ≤ count → IsScanned slots start count start start
scan_begins slots start count area some =
    record {
      low = omega arith;
      clear = λ q u lt is. omega (arith, lt, regions_for_small_at_most_one u.cell_size (below_area_is_small (map shown_region slots) start q u area (slot_in_use slots q u is) lt));
      blocked = λ r le lt. absurd (omega (arith, le, lt));
      near = omega (arith, some);
      far = omega arith;
    }

module _ (slots : List (Option UsedRegion)) (start count first region : ℕ) (area : IsArea (map shown_region slots) start) (some : 1 ≤ count) (so_far : IsScanned slots start count first region) (from : start ≤ region) where
  -- an object takes regions from this one on
  pub scan_past_object : (u : UsedRegion) (span : ℕ) → get_or slots region None ≡ Some u → span ≡ regions_for u.cell_size → span ≤ region_limit → IsScanned slots start count (region + span) (region + 1)
  scan_past_object u span here is most =
      let used : used_at (map shown_region slots) region ≡ Some u = slot_in_use slots region u here in
      let large : 1024 < u.cell_size = (area.large region u used).0 from in
      let one : 1 ≤ span = omega (arith, is, regions_for_some u.cell_size (omega (arith, large))) in
      record {
        low = omega (arith, from);
        clear = λ q v lt there. elim (cases_eq q region) [
          | inl e ↦ (
              let same : v ≡ u = (let both : Some v ≡ Some u = sym there ∙ (ap (λ k. get_or slots k None) e ∙ here) in cc) in
              let spans : regions_for v.cell_size ≡ span = ap (λ (w : UsedRegion). regions_for w.cell_size) same ∙ sym is in
              omega (arith, e, spans))
          | inr ne ↦ omega (arith, area.apart q v (slot_in_use slots q v there) region u used (omega (arith, lt, ne)))
        ];
        blocked = λ r le lt. elim (cases_lt r first) [
          | inl below ↦ so_far.blocked r le below
          | inr past ↦ taken_region_is_in_no_run count (map shown_region slots) r region u used (omega (arith, past, so_far.near)) (omega (arith, lt, is))
        ];
        near = omega (arith, one, some);
        far = omega (arith, most);
      }

  -- this region is empty, and not the last of a run
  pub scan_past_empty : get_or slots region None ≡ None → region + 1 < first + count → IsScanned slots start count first (region + 1)
  scan_past_empty none short =
      record {
        low = so_far.low;
        clear = λ q v lt there. elim (cases_eq q region) [
          | inl e ↦ (let bad : ◌≡◌ {A = Option UsedRegion} None (Some v) = sym none ∙ (ap (λ k. get_or slots k None) (sym e) ∙ there) in absurd (cc))
          | inr ne ↦ so_far.clear q v (omega (arith, lt, ne)) there
        ];
        blocked = so_far.blocked;
        near = short;
        far = omega (arith, so_far.far);
      }

  -- this region is the last of a run, the first that there is
  pub run_found : get_or slots region None ≡ None → region < length slots → first + count ≤ region + 1 → Some first ≡ find (is_run count (map shown_region slots)) (range_with_len start (length slots - start))
  run_found none within long =
      sym (range_has_first (is_run count (map shown_region slots)) start (length slots - start) first so_far.low
      (omega (arith, so_far.low, some, within, long))
      (clear_is_run count (map shown_region slots) first (omega (arith, within, long, length-map slots shown_region)) clear)
      so_far.blocked)
    where
      clear : (q : ℕ) (u : UsedRegion) → used_at (map shown_region slots) q ≡ Some u → IsClearOf first count q u
      clear q u used =
          let there : get_or slots q None ≡ Some u = sym (used_region_is_slot slots q) ∙ used in
          elim (cases_lt q region) [
            | inl lt ↦ inl (so_far.clear q u lt there)
            | inr past ↦ elim (cases_eq q region) [
              | inl e ↦ (let bad : ◌≡◌ {A = Option UsedRegion} None (Some u) = sym none ∙ (ap (λ k. get_or slots k None) (sym e) ∙ there) in absurd (cc))
              | inr ne ↦ inr (omega (arith, past, ne, long))
            ]
          ]

-- no region is left, so there is no run
pub no_run_found : (slots : List (Option UsedRegion)) (start count first region : ℕ) → IsScanned slots start count first region → length slots ≤ region → None ≡ find (is_run count (map shown_region slots)) (range_with_len start (length slots - start))
no_run_found slots start count first region so_far all =
    sym (range_has_none (is_run count (map shown_region slots)) start (length slots - start) (λ j le lt. elim (cases_lt j first) [
      | inl below ↦ so_far.blocked j le below
      | inr past ↦ past_the_end_is_no_run count (map shown_region slots) j (omega (arith, past, so_far.near, all, length-map slots shown_region))
    ]))
