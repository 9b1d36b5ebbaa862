use Rattle.hprof_lines.specs.Slots.{object_values}
use Rattle.hprof_lines.proofs.slots.read_object.Goals as goal

pub returns-in-Some : goal.returns-in-Some
unfolding object_values
returns-in-Some c = rw (c.in-Instance.is, ← c.in-Some.ensures.number) (rw c.clear.ensures.items at c.add_instance.ensures)

pub returns-in-None : goal.returns-in-None
unfolding object_values
returns-in-None c = rw (c.in-Instance.is, ← c.in-None.ensures.number) c.clear.ensures.items

pub returns-in-ObjectArray : goal.returns-in-ObjectArray
unfolding object_values
returns-in-ObjectArray c = rw c.in-ObjectArray.is (rw (c.clear.ensures.items, c.min-count.ensures) at c.add_elements.ensures)

pub returns-in-PrimArray : goal.returns-in-PrimArray
unfolding object_values
returns-in-PrimArray c = rw c.in-PrimArray.is (rw (c.clear.ensures.items, c.min-count-in-PrimArray.ensures) at c.add_elements-in-PrimArray.ensures)
