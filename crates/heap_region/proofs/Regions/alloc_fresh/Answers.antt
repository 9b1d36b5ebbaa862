use Rattle.std.proofs.Common.{◌≡◌, arith, sym, ap, ◌∙◌, subst, refl, inr}
use Rattle.heap_region.specs.Regions.{Object, UsedRegion, cell_size_for, FitsWords}
use Rattle.heap_region.specs.Pool.{restored, fresh_region, blank_object}
use Rattle.heap_region.specs.Layout.{Heads, cell_filled}
use Rattle.heap_region.specs.Table.{HasObject}
use Rattle.heap_region.proofs.Allocation.{allocated_fresh, blank_length, fresh_by_place, fresh_heads, fresh_region_has_first_object, id_of_first_cell, object_with_place_not_refused}
use Rattle.heap_region.proofs.BlockSizes.{cell_size_holds_words, sized_for}
use Rattle.heap_region.proofs.Good.{some_object, table_shown}
use Rattle.heap_region.proofs.Places.{place_in_spare}
use Rattle.heap_region.proofs.Restores.{spare_may_be_restored}
use Rattle.heap_region.proofs.Regions.alloc_fresh.Goals as goal

pub new-requires : goal.new-requires
new-requires c = rw c.cell_size_for-cell_size.ensures.value (sized_for c.args.len (omega arith))

pub returns-in_default-clause-answered : goal.returns-in_default-clause-answered
returns-in_default-clause-answered c =
    inr (object_with_place_not_refused c.args.len c.args.self.now _ c.requires.few c.requires.place, fresh_by_place c.args.len c.args.self.now _ c.requires.place, refl)

pub take-requires-clause-head : goal.take-requires-clause-head
take-requires-clause-head c =
    let is : c.in-Ok.storage ≡ fresh_region (cell_size_for c.args.len) = rw c.cell_size_for-cell_size.ensures.value at c.in-Ok.ensures in
    subst (λ u. Heads 0 u.free) (sym is) (fresh_heads c.args.len)

pub take-requires-clause-fits : goal.take-requires-clause-fits
unfolding fresh_region
take-requires-clause-fits c =
    let is : c.in-Ok.storage ≡ fresh_region (cell_size_for c.args.len) = rw c.cell_size_for-cell_size.ensures.value at c.in-Ok.ensures in
    subst (λ u. FitsWords u.cell_size c.args.len) (sym is) (cell_size_holds_words c.args.len, refl)

pub restore-requires-clause-ready : goal.restore-requires-clause-ready
unfolding fresh_region
restore-requires-clause-ready c =
    let is : c.in-Ok.storage ≡ fresh_region (cell_size_for c.args.len) = rw c.cell_size_for-cell_size.ensures.value at c.in-Ok.ensures in
    let o : Object = blank_object c.args.kind c.args.len c.args.mark in
    let made : c.take.new.self ≡ cell_filled (fresh_region (cell_size_for c.args.len)) 0 o = c.take.ensures ∙ ap (λ u. cell_filled u 0 o) is in
    spare_may_be_restored c.args.len c.args.self.now c.args.region c.take.new.self (rw (← c.self.view_is) (table_shown _ _ _ _ _ c.self.invariant.0)) (place_in_spare c.args.len c.args.self.now c.args.region c.requires.place) (ap (λ (u : UsedRegion). u.cell_size) made)

pub restore-requires-clause-inhabited : goal.restore-requires-clause-inhabited
restore-requires-clause-inhabited c =
    let is : c.in-Ok.storage ≡ fresh_region (cell_size_for c.args.len) = rw c.cell_size_for-cell_size.ensures.value at c.in-Ok.ensures in
    let o : Object = blank_object c.args.kind c.args.len c.args.mark in
    let made : HasObject c.take.new.self = subst HasObject (sym (c.take.ensures ∙ ap (λ u. cell_filled u 0 o) is)) (fresh_region_has_first_object c.args.len o) in
    let there = some_object c.take.new.self.cells made.0 made.1 in
    (made.0, there.0, there.1)

pub returns-clause-answered : goal.returns-clause-answered
returns-clause-answered c = object_with_place_not_refused c.args.len c.args.self.now _ c.requires.few c.requires.place

pub returns-clause-named : goal.returns-clause-named
returns-clause-named c = c.id_in.ensures ∙ id_of_first_cell _ c.args.region _

pub returns-clause-allocated : goal.returns-clause-allocated
returns-clause-allocated c =
    let is : c.in-Ok.storage ≡ fresh_region (cell_size_for c.args.len) = rw c.cell_size_for-cell_size.ensures.value at c.in-Ok.ensures in
    let o : Object = blank_object c.args.kind c.args.len c.args.mark in
    c.restore.ensures.state ∙ (ap (λ u. restored c.args.region u c.args.self.now) (c.take.ensures ∙ ap (λ u. cell_filled u 0 o) is) ∙ allocated_fresh c.args.region c.args.len o c.args.self.now (blank_length c.args.kind c.args.len c.args.mark))
