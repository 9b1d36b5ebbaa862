use Rattle.hprof_text.proofs.FilledSegments.{numbered_sub_record_offered, item_without_record_is_taken}
use Rattle.hprof_text.proofs.segment.Segment.offer_item.Goals as goal

pub returns-in-Some : goal.returns-in-Some
returns-in-Some g c =
    let v = c.args.view.now in
    numbered_sub_record_offered (g.V.View.ids v) (g.V.View.image v) c.args.section c.args.number c.item.result c.in-Some.sub_record c.id_size.result c.classes.result c.args.self.now c.offer.new.self c.offer.result c.item.ensures.value c.in-Some.is c.id_size.ensures c.classes.ensures.value c.offer.ensures

pub returns-in-None : goal.returns-in-None
returns-in-None g c =
    let v = c.args.view.now in
    item_without_record_is_taken (g.V.View.ids v) (g.V.View.image v) c.args.section c.args.number c.item.result c.args.self.now c.item.ensures.value c.in-None.is
