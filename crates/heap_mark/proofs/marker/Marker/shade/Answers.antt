use Rattle.std.proofs.Common.{◌≡◌, ◌<◌, ◌∷◌, [], length, refl, sym, ap, ◌∙◌, arith, reverse}
use Rattle.std.proofs.lemmas.List.{length-reverse, reverse-append}
use Rattle.heap_region.proofs.ChangedLookups.{object_at_ref}
use Rattle.heap_mark.specs.Marker.{at_work}
use Rattle.heap_mark.proofs.Work.{room_left, shaded_null, shaded_marked, shaded_white, told_mark}
use Rattle.heap_mark.proofs.marker.Marker.shade.Goals as goal

pub returns-then-id-eq0-clause-marker : goal.returns-then-id-eq0-clause-marker
returns-then-id-eq0-clause-marker c = let s = at_work c.args.regions.now.regions c.args.self.now in rw (c.if-id-eq0.true, shaded_null s) refl

pub returns-then-id-eq0-clause-regions : goal.returns-then-id-eq0-clause-regions
returns-then-id-eq0-clause-regions c = let s = at_work c.args.regions.now.regions c.args.self.now in rw (c.if-id-eq0.true, shaded_null s) refl

pub bits-is_marked-requires : goal.bits-is_marked-requires
bits-is_marked-requires c = rw (object_at_ref c.args.regions.now.regions c.args.id c.place-at.result c.place-at.ensures) at (c.requires.names c.if-id-eq0.false)

pub set_mark-requires : goal.set_mark-requires
set_mark-requires c = rw (object_at_ref c.args.regions.now.regions c.args.id c.place-at.result c.place-at.ensures) at (c.requires.names c.if-id-eq0.false)

pub returns-then-is_marked-clause-marker : goal.returns-then-is_marked-clause-marker
returns-then-is_marked-clause-marker c =
    let q = told_mark c.args.regions.now.regions c.args.id c.place-at.result _ _ c.place-at.ensures (c.requires.names c.if-id-eq0.false) c.bits-is_marked.ensures in
    rw (shaded_marked (at_work c.args.regions.now.regions c.args.self.now) c.args.id q.0 q.1 (sym q.2 ∙ c.if-is_marked.true)) refl

pub returns-then-is_marked-clause-regions : goal.returns-then-is_marked-clause-regions
returns-then-is_marked-clause-regions c =
    let q = told_mark c.args.regions.now.regions c.args.id c.place-at.result _ _ c.place-at.ensures (c.requires.names c.if-id-eq0.false) c.bits-is_marked.ensures in
    rw (shaded_marked (at_work c.args.regions.now.regions c.args.self.now) c.args.id q.0 q.1 (sym q.2 ∙ c.if-is_marked.true)) refl

pub push_reserved-requires : goal.push_reserved-requires
push_reserved-requires c =
    let i = c.self.inside in
    let q = told_mark c.args.regions.now.regions c.args.id c.place-at.result _ _ c.place-at.ensures (c.requires.names c.if-id-eq0.false) c.bits-is_marked.ensures in
    let room : length c.args.self.now.gray < c.args.self.now.room = room_left c.args.regions.now c.args.self.now c.args.id c.count-count.ensures.whole c.requires.sound (q.0, q.1, sym q.2 ∙ c.if-is_marked.false) in
    omega (arith, rw (← c.self.view_is) at room, length-reverse i.gray.items, i.gray.ok.0)

pub returns-clause-marker : goal.returns-clause-marker
returns-clause-marker c =
    let i = c.self.inside in
    let q = told_mark c.args.regions.now.regions c.args.id c.place-at.result _ _ c.place-at.ensures (c.requires.names c.if-id-eq0.false) c.bits-is_marked.ensures in
    let gray : reverse c.push_reserved.new.self.items ≡ c.args.id ∷ reverse i.gray.items = ap reverse c.push_reserved.ensures.items ∙ reverse-append i.gray.items (c.args.id ∷ []) in
    rw (shaded_white (at_work c.args.regions.now.regions c.args.self.now) c.args.id c.place-at.result c.place-at.ensures (q.0, q.1, sym q.2 ∙ c.if-is_marked.false), ← c.self.view_is, gray, c.push_reserved.ensures.capacity) refl

pub returns-clause-regions : goal.returns-clause-regions
returns-clause-regions c =
    let q = told_mark c.args.regions.now.regions c.args.id c.place-at.result _ _ c.place-at.ensures (c.requires.names c.if-id-eq0.false) c.bits-is_marked.ensures in
    rw (shaded_white (at_work c.args.regions.now.regions c.args.self.now) c.args.id c.place-at.result c.place-at.ensures (q.0, q.1, sym q.2 ∙ c.if-is_marked.false)) c.set_mark.ensures.state
