use Rattle.std.proofs.Common.{◌≡◌, ℕ, ◌<◌, length, get_or, sym, ◌∙◌, arith, Contains}
use Rattle.std.proofs.lemmas.List.{get_or_default}
use Rattle.heap_region.specs.Regions.{object_at}
use Rattle.heap_mark.specs.Marker.{IsNullOrNames}
use Rattle.heap_mark.proofs.ShadeWalks.{shade_walk_begins, gone_on_at, shade_walk_past_all_words, id_still_names_object_shaded, words_still, word_was, some_and_property_give_value, property_holds_if_some}
use Rattle.heap_mark.proofs.marker.Marker.shade_elements.Goals as goal

pub word-requires-clause-there : goal.word-requires-clause-there
word-requires-clause-there c = (words_still _ _ _ _ c.loop-slot.slot c.requires.names (λ o e. ((c.loop-slot.invariant o e).same, omega (arith, (rw e at c.len-slot-end.ensures.value))))).0

pub word-requires-clause-within : goal.word-requires-clause-within
word-requires-clause-within c = (words_still _ _ _ _ c.loop-slot.slot c.requires.names (λ o e. ((c.loop-slot.invariant o e).same, omega (arith, (rw e at c.len-slot-end.ensures.value))))).1

pub shade-requires-clause-sound : goal.shade-requires-clause-sound
shade-requires-clause-sound c =
    let rs = c.args.regions.now.regions in
    let q = some_and_property_give_value (object_at rs c.args.at) (λ o. (y : ℕ) → Contains o.words y → IsNullOrNames rs y) c.requires.names in
    (c.loop-slot.invariant q.0 q.1).sound

pub shade-requires-clause-names : goal.shade-requires-clause-names
shade-requires-clause-names c some =
    let rs = c.args.regions.now.regions in
    let q = some_and_property_give_value (object_at rs c.args.at) (λ o. (y : ℕ) → Contains o.words y → IsNullOrNames rs y) c.requires.names in
    let len : c.len-slot-end.result ≡ length q.0.words = rw q.1 at c.len-slot-end.ensures.value in
    let within : c.loop-slot.slot < length q.0.words = omega (arith, len) in
    let same = (c.loop-slot.invariant q.0 q.1).same in
    let is : c.word.result ≡ get_or q.0.words c.loop-slot.slot 0 = word_was c.loop-slot.regions.regions rs c.args.at q.0 c.loop-slot.slot c.word.result same q.1 c.word.ensures in
    id_still_names_object_shaded c.loop-slot.regions.regions rs c.word.result same (q.2 c.word.result (c.loop-slot.slot, within, get_or_default q.0.words c.loop-slot.slot c.word.result 0 within ∙ sym is) some)

pub loop-slot-init : goal.loop-slot-init
loop-slot-init c o e = shade_walk_begins o.words c.args.regions.now c.args.self.now c.requires.sound

pub loop-slot-preserved : goal.loop-slot-preserved
loop-slot-preserved c o e =
    let rs = c.args.regions.now.regions in
    let len : c.len-slot-end.result ≡ length o.words = rw e at c.len-slot-end.ensures.value in
    let is : c.word.result ≡ get_or o.words c.loop-slot.slot 0 = word_was c.loop-slot.regions.regions rs c.args.at o c.loop-slot.slot c.word.result (c.loop-slot.invariant o e).same e c.word.ensures in
    gone_on_at _ o.words c.loop-slot.slot c.word.result _ _ _ _ _ _ (omega (arith, len)) is (c.loop-slot.invariant o e) c.shade.ensures.marker c.shade.ensures.regions

pub returns-clause-marker : goal.returns-clause-marker
returns-clause-marker c = property_holds_if_some _ _ (λ o e. let len : c.len-slot-end.result ≡ length o.words = rw e at c.len-slot-end.ensures.value in (shade_walk_past_all_words _ o.words c.loop-slot.slot _ _ _ _ (omega (arith, len)) (c.loop-slot.invariant o e)).0)

pub returns-clause-regions : goal.returns-clause-regions
returns-clause-regions c = property_holds_if_some _ _ (λ o e. let len : c.len-slot-end.result ≡ length o.words = rw e at c.len-slot-end.ensures.value in (shade_walk_past_all_words _ o.words c.loop-slot.slot _ _ _ _ (omega (arith, len)) (c.loop-slot.invariant o e)).1)
