use Rattle.std.proofs.Common.{◌≡◌, ◌<◌, ◌≤◌, length, ℕ, List, get_or, set, ap, subst, ◌∙◌, arith, length-set}
use Rattle.heap_region.specs.Table.{IsLowest}
use Rattle.heap_region.specs.declared.region_classes.RegionClasses.TheInside.{Inside}
use Rattle.heap_region.proofs.ChangedClasses.{class_table_stays_short, lowest_regions_kept_almost, lowest_regions_almost_after_search, changed_region_becomes_lowest, lowest_regions_stay_after_change}
use Rattle.heap_region.proofs.region_classes.RegionClasses.change.Goals as goal
use Rattle.heap_region.proofs.region_classes.RegionClasses.change.Goals.{then-self-was, else-self-was}

region_within_table : (t view : List ℕ) (region : ℕ) → t ≡ view → region < length view → region < length t
region_within_table t view region same lt = omega (arith, lt, ap length same)

was_at : (t view : List ℕ) (region was : ℕ) → t ≡ view → get_or view region 0 ≡ was → get_or t region 0 ≡ was
was_at t view region was same e = ap (λ (l : List ℕ). get_or l region 0) same ∙ e

set_keeps_256 : (l : List ℕ) (i x : ℕ) → length l ≡ 256 → length (set l i x) ≡ 256
set_keeps_256 l i x e = length-set l i x ∙ e

pub invariant_of-self : goal.invariant_of-self
invariant_of-self c =
    let t = c.self.inside.classes.items in
    let l = c.self.inside.lowest in
    let under = region_within_table t _ c.args.region c.self.view_is c.requires.there in
    let is = was_at t _ c.args.region c.args.was c.self.view_is c.requires.was in
    let few = class_table_stays_short t c.args.region c.args.class c.self.invariant.0 in
    elim c.if-self-was.branch [
      | then-self-was w ↦
          let found = subst (λ (xs : List ℕ). 1 ≤ c.args.was → IsLowest xs c.args.was c.args.region w.lowest_from.result) w.deref.ensures.value w.lowest_from.ensures.value in
          let almost = lowest_regions_almost_after_search t l c.args.region c.args.was c.args.class w.lowest_from.result c.self.invariant.1 under is c.ranges.was.fits c.self.told w.if-self-was.true found in
          let above = subst (λ (s : Inside). c.args.region < get_or s.lowest c.args.class 0) w.self-inside-is c.if-self-class.true in
          rw w.self-inside-is (few, changed_region_becomes_lowest t (set l c.args.was w.lowest_from.result) c.args.region c.args.class almost under c.ranges.class.fits (set_keeps_256 l c.args.was w.lowest_from.result c.self.told) above)
      | else-self-was w ↦
          let almost = lowest_regions_kept_almost t l c.args.region c.args.was c.args.class c.self.invariant.1 under is w.if-self-was.false in
          let above = subst (λ (s : Inside). c.args.region < get_or s.lowest c.args.class 0) w.self-inside-is c.if-self-class.true in
          rw w.self-inside-is (few, changed_region_becomes_lowest t l c.args.region c.args.class almost under c.ranges.class.fits c.self.told above)
    ]

pub invariant_of-self-else-self-class : goal.invariant_of-self-else-self-class
invariant_of-self-else-self-class c =
    let t = c.self.inside.classes.items in
    let l = c.self.inside.lowest in
    let under = region_within_table t _ c.args.region c.self.view_is c.requires.there in
    let is = was_at t _ c.args.region c.args.was c.self.view_is c.requires.was in
    let few = class_table_stays_short t c.args.region c.args.class c.self.invariant.0 in
    elim c.if-self-was.branch [
      | then-self-was w ↦
          let found = subst (λ (xs : List ℕ). 1 ≤ c.args.was → IsLowest xs c.args.was c.args.region w.lowest_from.result) w.deref.ensures.value w.lowest_from.ensures.value in
          let almost = lowest_regions_almost_after_search t l c.args.region c.args.was c.args.class w.lowest_from.result c.self.invariant.1 under is c.ranges.was.fits c.self.told w.if-self-was.true found in
          let below = subst (λ (s : Inside). get_or s.lowest c.args.class 0 ≤ c.args.region) w.self-inside-is c.if-self-class.false in
          rw w.self-inside-is (few, lowest_regions_stay_after_change t (set l c.args.was w.lowest_from.result) c.args.region c.args.class almost under below)
      | else-self-was w ↦
          let almost = lowest_regions_kept_almost t l c.args.region c.args.was c.args.class c.self.invariant.1 under is w.if-self-was.false in
          let below = subst (λ (s : Inside). get_or s.lowest c.args.class 0 ≤ c.args.region) w.self-inside-is c.if-self-class.false in
          rw w.self-inside-is (few, lowest_regions_stay_after_change t l c.args.region c.args.class almost under below)
    ]
