use Rattle.std.specs.Prelude.{◌≡◌, length}
use Rattle.id_table.specs.Tables.{AreNoneEmpty, home, slot_after}
use Rattle.id_table.proofs.probing.empty_slot.Given as goal

abbrev pub invariant-loop-d : goal.invariant-loop-d
invariant-loop-d l = record {
  slot : l.slot ≡ slot_after (length l.slots) (home (length l.slots) l.id) l._d;
  taken : AreNoneEmpty l.slots l.id l._d;
}
