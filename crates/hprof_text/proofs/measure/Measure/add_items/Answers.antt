use Rattle.std.proofs.Common.{◌+◌, ◌*◌, ◌≤◌, [], ◌∷◌, map, sym, subst, arith}
use Rattle.std.specs.Option.{option_to_list}
use Rattle.hprof_text.specs.Cursors.{from_item}
use Rattle.hprof_text.specs.Records.{sub_record_bytes}
use Rattle.hprof_text.specs.SizeSums.{IsMeasured}
use Rattle.hprof_text.specs.declared.measure.Measure.{Measure}
use Rattle.hprof_text.specs.declared.section.Section.TheVariants.{Numbered}
use Rattle.hprof_text.proofs.AddedSizes.{section_item_is_measured, section_items_are_measured, measure_with_no_sizes_added, no_sub_record_no_sizes, sub_record_has_one_size}
use Rattle.hprof_text.proofs.measure.Measure.add_items.Goals.{in-Some, in_default}
use Rattle.hprof_text.proofs.measure.Measure.add_items.Goals as goal

pub loop-number-preserved : goal.loop-number-preserved
loop-number-preserved g c =
    let ids = g.V.View.ids c.args.view.now in
    let image = g.V.View.image c.args.view.now in
    let s = Numbered c.args.section in
    let n = c.loop-number.number in
    let old = c.args.self.now in
    let now = c.loop-number.self in
    let rest = from_item ids image s 0 in
    let given = c.item.result in
    let item = map (sub_record_bytes ids image.classes) (option_to_list given) in
    let Kept : Measure → Type 0 = λ m. IsMeasured rest (from_item ids image s (n + 1)) old m × (m.closed + m.body ≤ old.closed + old.body + (n + 1) * 656) in
    elim c.match-item.branch [
      | in-Some w ↦
          let size = w.size.result in
          let sized = sub_record_has_one_size ids image.classes given w.in-Some.sub_record c.id_size-ids.result c.classes-classes.result size w.in-Some.is c.id_size-ids.ensures c.classes-classes.ensures.value w.size.ensures.value in
          let added = section_item_is_measured ids image s n item rest (size ∷ []) old now w.add.new.self c.item.ensures.value sized w.add.ensures.added c.loop-number.invariant.0 in
          subst Kept (sym w.self-is) (added, omega (arith, c.loop-number.invariant.1, w.add.ensures.limit, w.size.ensures.limit.1))
      | in_default w ↦
          let added = section_item_is_measured ids image s n item rest [] old now now c.item.ensures.value (no_sub_record_no_sizes ids image.classes given w.in_default.is) (measure_with_no_sizes_added now) c.loop-number.invariant.0 in
          subst Kept (sym w.self-is) (added, omega (arith, c.loop-number.invariant.1))
    ]

pub returns-clause-added : goal.returns-clause-added
returns-clause-added g c =
    let ids = g.V.View.ids c.args.view.now in
    let image = g.V.View.image c.args.view.now in
    let n = c.loop-number.number in
    section_items_are_measured ids image (Numbered c.args.section) n (from_item ids image (Numbered c.args.section) 0) c.args.self.now c.loop-number.self (omega (arith, c.loop-number-test.false, c.count-number-end.ensures.value)) c.loop-number.invariant.0
