use Rattle.std.proofs.Common.{◌≡◌, length, arith}
use Rattle.std.proofs.lemmas.Option.{slice_get_within}
use Rattle.heap_class.specs.declared.ObjKind.TheVariants.{Instance, Array}
use Rattle.heap_class.specs.Classes.{slots_of}
use Rattle.heap_region.specs.Regions.{object_of}
use Rattle.heap_region.proofs.ChangedLookups.{object_at_ref}
use Rattle.heap_mark.specs.Marker.{HasSlots}
use Rattle.heap_mark.proofs.ShadeWalks.{some_and_property_give_value}
use Rattle.heap_mark.proofs.Children.{named_field, named_element}
use Rattle.heap_mark.proofs.marker.Marker.shade_children.Goals as goal

pub shade_fields-requires-clause-names : goal.shade_fields-requires-clause-names
shade_fields-requires-clause-names c =
    let rs = c.args.regions.now.regions in
    let q = some_and_property_give_value (object_of rs c.args.parent) (λ o. HasSlots c.args.classes.now o.kind (length o.words)) c.requires.slots in
    let kind : Instance c.in-Instance.class ≡ q.0.kind = rw (← object_at_ref rs c.args.parent c.place-at.result c.place-at.ensures, q.1) at c.in-Instance.ensures in
    let len : length q.0.words ≡ length (slots_of c.args.classes.now c.in-Instance.class) = (rw (← kind) at q.2).1 in
    rw (← object_at_ref rs c.args.parent c.place-at.result c.place-at.ensures, q.1, c.slots.ensures.value)
    (λ slot k there refers. named_field c.args.classes.now rs c.args.parent q.0 c.in-Instance.class slot k q.1 kind c.requires.children there refers (omega (arith, len, slice_get_within (slots_of c.args.classes.now c.in-Instance.class) slot k there)))

pub shade_elements-requires-clause-names : goal.shade_elements-requires-clause-names
shade_elements-requires-clause-names c =
    let rs = c.args.regions.now.regions in
    let q = some_and_property_give_value (object_of rs c.args.parent) (λ o. HasSlots c.args.classes.now o.kind (length o.words)) c.requires.slots in
    let kind : Array c.in-Array.field-0 ≡ q.0.kind = rw (← object_at_ref rs c.args.parent c.place-at.result c.place-at.ensures, q.1) at c.in-Array.ensures in
    rw (← object_at_ref rs c.args.parent c.place-at.result c.place-at.ensures, q.1) (named_element c.args.classes.now rs c.args.parent q.0 c.in-Array.field-0 q.1 kind c.requires.children)
