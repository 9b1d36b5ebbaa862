use Rattle.std.proofs.Common.{inr, refl}
use Rattle.heap_world.proofs.Slot.{register_names_an_object, place_of_register_has_object, slot_kind_of_register_object}
use Rattle.heap_world.proofs.World.slot_named.Goals as goal

pub place-at-requires : goal.place-at-requires
place-at-requires c = register_names_an_object _ _ c.args.id _ c.self.invariant c.self.view_is c.requires c.if-id-eq0.false

pub slot_kind_at-requires : goal.slot_kind_at-requires
slot_kind_at-requires c = place_of_register_has_object _ _ c.args.id _ _ c.self.invariant c.self.view_is c.requires c.if-id-eq0.false c.place-at.ensures

pub returns-in-Some-clause-slot : goal.returns-in-Some-clause-slot
returns-in-Some-clause-slot c = (c.if-id-eq0.false, slot_kind_of_register_object _ _ c.args.id c.args.slot _ _ _ c.self.invariant c.self.view_is c.requires c.if-id-eq0.false c.place-at.ensures c.in-Some.ensures)

pub returns-in-None-clause-refused : goal.returns-in-None-clause-refused
returns-in-None-clause-refused c = inr (refl, c.if-id-eq0.false, slot_kind_of_register_object _ _ c.args.id c.args.slot _ _ _ c.self.invariant c.self.view_is c.requires c.if-id-eq0.false c.place-at.ensures c.in-None.ensures)
