use Rattle.std.proofs.Common.{get_or, refl, arith}
use Rattle.std.proofs.lemmas.List.{get_or_default}
use Rattle.heap_mark.proofs.ShadeWalks.{shade_walk_begins, gone_on_at, shade_walk_past_all_words, id_still_names_object_shaded}
use Rattle.heap_mark.proofs.marker.Marker.shade_all.Goals as goal

pub loop-id-init : goal.loop-id-init
loop-id-init c = shade_walk_begins _ _ _ c.requires.sound

pub shade-requires-clause-names : goal.shade-requires-clause-names
shade-requires-clause-names c some =
    let x = get_or c.args.ids.now c.loop-id.id-index 0 in
    id_still_names_object_shaded c.loop-id.regions.regions c.args.regions.now.regions x c.loop-id.invariant.same (c.requires.names x (c.loop-id.id-index, c.loop-id-test.true, get_or_default c.args.ids.now c.loop-id.id-index x 0 c.loop-id-test.true) some)

pub loop-id-preserved : goal.loop-id-preserved
loop-id-preserved c = gone_on_at _ c.args.ids.now c.loop-id.id-index _ _ _ _ _ _ _ c.loop-id-test.true refl c.loop-id.invariant c.shade.ensures.marker c.shade.ensures.regions

pub returns-clause-marker : goal.returns-clause-marker
returns-clause-marker c = (shade_walk_past_all_words _ c.args.ids.now c.loop-id.id-index _ _ _ _ (omega arith) c.loop-id.invariant).0

pub returns-clause-regions : goal.returns-clause-regions
returns-clause-regions c = (shade_walk_past_all_words _ c.args.ids.now c.loop-id.id-index _ _ _ _ (omega arith) c.loop-id.invariant).1
