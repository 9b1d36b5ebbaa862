use Rattle.std.proofs.Common.{◌≡◌, length, get_or, refl, sym, ◌∙◌, arith, true}
use Rattle.std.proofs.lemmas.Option.{slice_get-get_or}
use Rattle.heap_class.specs.declared.Kind.{Kind}
use Rattle.heap_class.specs.Kinds.{is_reference}
use Rattle.heap_region.specs.Regions.{object_at}
use Rattle.heap_mark.specs.Marker.{references_among}
use Rattle.heap_mark.proofs.ShadeWalks.{shade_walk_begins, field_shaded, field_passed, fields_arrived, id_still_names_object_shaded, words_still, word_was, some_and_property_give_value, property_holds_if_some}
use Rattle.heap_mark.proofs.marker.Marker.shade_fields.Goals as goal
use Rattle.heap_mark.proofs.marker.Marker.shade_fields.Goals.{then-is_reference, else-is_reference}

pub word-requires-clause-there : goal.word-requires-clause-there
word-requires-clause-there c = (words_still _ _ _ _ c.loop-slot.slot c.requires.slots (λ o e. ((c.loop-slot.invariant o e).same, omega (arith, (rw e at c.requires.slots))))).0

pub word-requires-clause-within : goal.word-requires-clause-within
word-requires-clause-within c = (words_still _ _ _ _ c.loop-slot.slot c.requires.slots (λ o e. ((c.loop-slot.invariant o e).same, omega (arith, (rw e at c.requires.slots))))).1

pub shade-requires-clause-sound : goal.shade-requires-clause-sound
shade-requires-clause-sound c =
    let rs = c.args.regions.now.regions in
    let q = some_and_property_give_value (object_at rs c.args.at) (λ o. length o.words ≡ length c.args.kinds.now) c.requires.slots in
    (c.loop-slot.invariant q.0 q.1).sound

pub shade-requires-clause-names : goal.shade-requires-clause-names
shade-requires-clause-names c some =
    let rs = c.args.regions.now.regions in
    let slot = c.loop-slot.slot in
    let q = some_and_property_give_value (object_at rs c.args.at) (λ o. length o.words ≡ length c.args.kinds.now) c.requires.slots in
    let same = (c.loop-slot.invariant q.0 q.1).same in
    let is : c.word.result ≡ get_or q.0.words slot 0 = word_was c.loop-slot.regions.regions rs c.args.at q.0 slot c.word.result same q.1 c.word.ensures in
    let kind : Kind = get_or c.args.kinds.now slot Kind.Object in
    let refers : is_reference kind ≡ true = sym c.is_reference.ensures ∙ c.if-is_reference.true in
    let named = (rw q.1 at c.requires.names) slot kind (slice_get-get_or c.args.kinds.now slot Kind.Object c.loop-slot-test.true) refers in
    rw is (id_still_names_object_shaded c.loop-slot.regions.regions rs (get_or q.0.words slot 0) same (named (λ z. some (is ∙ z))))

pub loop-slot-init : goal.loop-slot-init
loop-slot-init c o e = shade_walk_begins (references_among c.args.kinds.now o.words) c.args.regions.now c.args.self.now c.requires.sound

pub loop-slot-preserved : goal.loop-slot-preserved
loop-slot-preserved c o e =
    let rs = c.args.regions.now.regions in
    let slot = c.loop-slot.slot in
    let kind : Kind = get_or c.args.kinds.now slot Kind.Object in
    let len : length o.words ≡ length c.args.kinds.now = rw e at c.requires.slots in
    elim c.if-is_reference.branch [
      | then-is_reference w ↦
          (let is : w.word.result ≡ get_or o.words slot 0 = word_was c.loop-slot.regions.regions rs c.args.at o slot w.word.result (c.loop-slot.invariant o e).same e w.word.ensures in
          field_shaded _ c.args.kinds.now o.words slot kind w.word.result _ _ _ _ _ _ c.loop-slot-test.true (omega (arith, len)) refl is (sym c.is_reference.ensures ∙ w.if-is_reference.true) (c.loop-slot.invariant o e) (w.self-is ∙ w.shade.ensures.marker) (w.regions-is ∙ w.shade.ensures.regions))
      | else-is_reference w ↦ rw (w.self-is, w.regions-is) (field_passed _ c.args.kinds.now o.words slot kind _ _ _ _ c.loop-slot-test.true (omega (arith, len)) refl (sym c.is_reference.ensures ∙ w.if-is_reference.false) (c.loop-slot.invariant o e))
    ]

pub returns-clause-marker : goal.returns-clause-marker
returns-clause-marker c = property_holds_if_some _ _ (λ o e. (fields_arrived _ c.args.kinds.now o.words c.loop-slot.slot _ _ _ _ (omega arith) (c.loop-slot.invariant o e)).0)

pub returns-clause-regions : goal.returns-clause-regions
returns-clause-regions c = property_holds_if_some _ _ (λ o e. (fields_arrived _ c.args.kinds.now o.words c.loop-slot.slot _ _ _ _ (omega arith) (c.loop-slot.invariant o e)).1)
