use Rattle.std.proofs.Common.{refl}
use Rattle.heap_trail.specs.declared.Action.TheVariants.{ClosePin}
use Rattle.heap_trail.specs.declared.Reply.TheVariants.{Closed}
use Rattle.heap_lock.proofs.Histories.{dumped_machine_under_lock}
use Rattle.heap_lock.proofs.DumperCalls.{ledger_has_own_table, replied, result_may_be_replied, ledger_holds_dump_call, dumper_act_done_under_lock, memoryless_error_may_fail}
use Rattle.heap_lock.proofs.heap.Kept.close_held.Goals as goal

pub note-requires : goal.note-requires
note-requires g c = ledger_has_own_table _ _ c.self.inside.ledger c.self.invariant.1.0

pub invariant_of-self : goal.invariant_of-self
invariant_of-self g c =
    let reply = replied (λ u. Closed) c.close_pin-done.result in
    let may = result_may_be_replied c.self.inside.machine c.close_pin-done.new.self (ClosePin c.args.pin) (λ u. Closed) c.close_pin-done.result c.close_pin-done.ensures.done (memoryless_error_may_fail c.self.inside.machine c.close_pin-done.new.self (ClosePin c.args.pin) c.close_pin-done.result c.close_pin-done.ensures.refused) c.close_pin-done.ensures.unchanged in (
      dumped_machine_under_lock g.L.Heap.config g.L.Heap.tables c.self.inside.machine c.close_pin-done.new.self c.self.inside.chronicle.entries c.self.inside.seat_tables.items (ClosePin c.args.pin) reply c.self.invariant.0 refl may,
      ledger_holds_dump_call g.L.Heap.config g.L.Heap.ledger c.self.inside.machine c.close_pin-done.new.self c.self.inside.chronicle.entries c.self.inside.ledger c.note.new.self (ClosePin c.args.pin, reply) c.self.invariant.1 refl may c.note.ensures,
      c.self.invariant.2,
    )

pub returns-clause-done : goal.returns-clause-done
returns-clause-done g c =
    let may = result_may_be_replied c.self.inside.machine c.close_pin-done.new.self (ClosePin c.args.pin) (λ u. Closed) c.close_pin-done.result c.close_pin-done.ensures.done (memoryless_error_may_fail c.self.inside.machine c.close_pin-done.new.self (ClosePin c.args.pin) c.close_pin-done.result c.close_pin-done.ensures.refused) c.close_pin-done.ensures.unchanged in
    (dumper_act_done_under_lock c.args.self.now c.self.inside.machine c.close_pin-done.new.self c.self.inside.chronicle c.self.inside.ledger c.note.new.self (ClosePin c.args.pin) (λ u. Closed) c.close_pin-done.result c.self.view_is may c.note.ensures).0

pub returns-clause-refused : goal.returns-clause-refused
returns-clause-refused g c =
    let may = result_may_be_replied c.self.inside.machine c.close_pin-done.new.self (ClosePin c.args.pin) (λ u. Closed) c.close_pin-done.result c.close_pin-done.ensures.done (memoryless_error_may_fail c.self.inside.machine c.close_pin-done.new.self (ClosePin c.args.pin) c.close_pin-done.result c.close_pin-done.ensures.refused) c.close_pin-done.ensures.unchanged in
    (dumper_act_done_under_lock c.args.self.now c.self.inside.machine c.close_pin-done.new.self c.self.inside.chronicle c.self.inside.ledger c.note.new.self (ClosePin c.args.pin) (λ u. Closed) c.close_pin-done.result c.self.view_is may c.note.ensures).1
