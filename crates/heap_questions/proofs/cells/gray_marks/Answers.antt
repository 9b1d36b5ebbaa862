use Rattle.std.proofs.Common.{◌≡◌, ◌∙◌, ◌+◌, ◌*◌, ℕ, Bool, List, ap, arith, length, rules, subst, sym, take}
use Rattle.std.proofs.lemmas.List.{length-replicate, length-set, take_all}
use Rattle.hprof_text.proofs.Loops.{indexed_item_is_default_free}
use Rattle.heap_region.specs.Pool.{RegionPool}
use Rattle.heap_region.specs.Regions.{Region}
use Rattle.heap_questions.specs.Cells.{AreMarksOf}
use Rattle.heap_questions.proofs.GrayMarks.{mark_within, marked_none, marked_one, marks_reversed, no_marks}
use Rattle.heap_questions.proofs.cells.gray_marks.Goals as goal
use Rattle.heap_questions.proofs.cells.gray_marks.Goals.{in-Some, in_default}

pub loop-i-init : goal.loop-i-init
loop-i-init c =
    let regions = c.regions-regions.result.now.regions in
    let e = c.in_ok-marks.ensures.items_if_clones_equal (λ y h. search rules) in
    record {
      many = ap (λ (m : List Bool). length m) e ∙ length-replicate _ _ ∙ ap (λ n. n * 256) c.count-count.ensures.value;
      marked = no_marks regions _ c.in_ok-marks.marks.items e;
    }

pub index_mut-requires : goal.index_mut-requires
index_mut-requires c =
    let h = mark_within c.regions-regions.result.now c.in-Some.at (length c.loop-i.marks.items) c.cell_number.result c.count-count.ensures.whole c.in-Some.ensures.1 c.loop-i.invariant.many c.cell_number.ensures in
    omega (arith, h)

pub loop-i-preserved : goal.loop-i-preserved
loop-i-preserved c = elim c.match-find.branch [
  | in-Some w ↦
      let s = c.regions-regions.result.now in
      let ids = c.gray-gray.result.now in
      let i = c.loop-i.i in
      let marks = c.loop-i.marks.items in
      let set = ap (λ v. v.items) w.marks-is in
      let within = mark_within s w.in-Some.at (length marks) w.cell_number.result c.count-count.ensures.whole w.in-Some.ensures.1 c.loop-i.invariant.many w.cell_number.ensures in
      record {
        many = ap (λ (m : List Bool). length m) set ∙ length-set marks w.cell_number.result _ ∙ c.loop-i.invariant.many;
        marked = marked_one s ids i _ marks c.match-find.marks.items w.in-Some.at w.cell_number.result c.count-count.ensures.whole c.loop-i-test.true (indexed_item_is_default_free ids i 0 c.loop-i-test.true) w.in-Some.ensures.0 w.in-Some.ensures.1 w.cell_number.ensures within set c.loop-i.invariant.marked;
      }
  | in_default w ↦
      let s = c.regions-regions.result.now in
      let ids = c.gray-gray.result.now in
      let i = c.loop-i.i in
      let same = ap (λ v. v.items) w.marks-is in
      record {
        many = ap (λ (m : List Bool). length m) same ∙ c.loop-i.invariant.many;
        marked = subst (AreMarksOf s.regions (take (i + 1) ids)) (sym same)
            (marked_none s ids i _ c.loop-i.marks.items c.count-count.ensures.whole c.loop-i-test.true (indexed_item_is_default_free ids i 0 c.loop-i-test.true) w.in_default.ensures c.loop-i.invariant.marked);
      }
]

pub returns-clause-marks : goal.returns-clause-marks
returns-clause-marks c =
    let s = c.regions-regions.result.now in
    let w = c.args.world.now in
    let ids = c.gray-gray.result.now in
    let marks = c.loop-i.marks.items in
    let all : AreMarksOf s.regions ids marks = subst (λ (xs : List ℕ). AreMarksOf s.regions xs marks) (take_all c.loop-i.i ids c.loop-i-test.false) c.loop-i.invariant.marked in
    let same : s.regions ≡ w.regions = ap (λ (p : RegionPool). p.regions) c.regions-regions.ensures in
    marks_reversed w.regions ids w.gray marks c.gray-gray.ensures (subst (λ (rs : List Region). AreMarksOf rs ids marks) same all)
