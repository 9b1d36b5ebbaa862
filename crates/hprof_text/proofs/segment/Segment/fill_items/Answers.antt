use Rattle.std.proofs.Common.{refl, arith}
use Rattle.hprof_text.specs.Cursors.{from_item}
use Rattle.hprof_text.specs.Text.{items_of}
use Rattle.hprof_text.specs.declared.Cursor.TheVariants.{Item}
use Rattle.hprof_text.specs.declared.section.Section.TheVariants.{Numbered}
use Rattle.hprof_text.proofs.FilledSegments.{taken_item_fills_body, item_not_taken_is_left, all_items_fill_body}
use Rattle.hprof_text.proofs.Loops.{item_of_list_within}
use Rattle.hprof_text.proofs.NumberedPieces.{body_filled_to_cursor}
use Rattle.hprof_text.proofs.segment.Segment.fill_items.Goals as goal

pub returns-then-not-offer_item : goal.returns-then-not-offer_item
returns-then-not-offer_item g c =
    let ids = g.V.View.ids c.args.view.now in
    let image = g.V.View.image c.args.view.now in
    let s = Numbered c.args.section in
    let n = c.loop-number.number in
    let item = item_of_list_within (items_of ids image s) n (omega (arith, c.count-number-end.ensures.value)) in
    body_filled_to_cursor ids image (g.V.View.places c.args.view.now) (from_item ids image s c.args.from) (Item c.args.section n) c.args.self.now c.offer_item.new.self (from_item ids image s n)
    (item_not_taken_is_left ids image s n c.args.from item.0 c.args.self.now c.loop-number.self c.offer_item.new.self _ item.1 c.if-not-offer_item.true (c.offer_item.ensures item.0 item.1) c.loop-number.invariant) refl

pub loop-number-preserved : goal.loop-number-preserved
loop-number-preserved g c =
    let ids = g.V.View.ids c.args.view.now in
    let image = g.V.View.image c.args.view.now in
    let s = Numbered c.args.section in
    let n = c.loop-number.number in
    let item = item_of_list_within (items_of ids image s) n (omega (arith, c.count-number-end.ensures.value)) in
    taken_item_fills_body ids image s n c.args.from item.0 c.args.self.now c.loop-number.self c.offer_item.new.self _ item.1 c.if-not-offer_item.false (c.offer_item.ensures item.0 item.1) c.loop-number.invariant

pub returns : goal.returns
returns g c =
    let ids = g.V.View.ids c.args.view.now in
    let image = g.V.View.image c.args.view.now in
    all_items_fill_body ids image (Numbered c.args.section) c.loop-number.number c.args.from c.args.self.now c.loop-number.self (omega (arith, c.loop-number-test.false, c.count-number-end.ensures.value)) c.loop-number.invariant
