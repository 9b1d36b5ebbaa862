use Rattle.std.proofs.Common.{IfOk, refl, subst}
use Rattle.heap_trail.specs.declared.Action.TheVariants.{NextPiece}
use Rattle.heap_trail.specs.declared.Reply.TheVariants.{Part}
use Rattle.heap_trail.specs.Laws.{IsPieceOfLegal}
use Rattle.heap_lock.proofs.Histories.{dumped_machine_under_lock}
use Rattle.heap_lock.proofs.DumperCalls.{ledger_has_own_table, replied, result_may_be_replied, ledger_holds_dump_call, dumper_act_done_under_lock}
use Rattle.heap_lock.proofs.heap.Kept.piece_held.Goals as goal

pub note-requires : goal.note-requires
note-requires g c = ledger_has_own_table _ _ c.self.inside.ledger c.self.invariant.1.0

pub invariant_of-self : goal.invariant_of-self
invariant_of-self g c =
    let reply = replied (λ p. Part p) c.piece-done.result in
    let may = result_may_be_replied c.self.inside.machine c.piece-done.new.self (NextPiece c.args.pin c.args.time) (λ p. Part p) c.piece-done.result c.piece-done.ensures.done c.piece-done.ensures.refused c.piece-done.ensures.unchanged in (
      dumped_machine_under_lock g.L.Heap.config g.L.Heap.tables c.self.inside.machine c.piece-done.new.self c.self.inside.chronicle.entries c.self.inside.seat_tables.items (NextPiece c.args.pin c.args.time) reply c.self.invariant.0 refl may,
      ledger_holds_dump_call g.L.Heap.config g.L.Heap.ledger c.self.inside.machine c.piece-done.new.self c.self.inside.chronicle.entries c.self.inside.ledger c.note.new.self (NextPiece c.args.pin c.args.time, reply) c.self.invariant.1 refl may c.note.ensures,
      c.self.invariant.2,
    )

pub returns-clause-done : goal.returns-clause-done
returns-clause-done g c =
    let may = result_may_be_replied c.self.inside.machine c.piece-done.new.self (NextPiece c.args.pin c.args.time) (λ p. Part p) c.piece-done.result c.piece-done.ensures.done c.piece-done.ensures.refused c.piece-done.ensures.unchanged in
    (dumper_act_done_under_lock c.args.self.now c.self.inside.machine c.piece-done.new.self c.self.inside.chronicle c.self.inside.ledger c.note.new.self (NextPiece c.args.pin c.args.time) (λ p. Part p) c.piece-done.result c.self.view_is may c.note.ensures).0

pub returns-clause-refused : goal.returns-clause-refused
returns-clause-refused g c =
    let may = result_may_be_replied c.self.inside.machine c.piece-done.new.self (NextPiece c.args.pin c.args.time) (λ p. Part p) c.piece-done.result c.piece-done.ensures.done c.piece-done.ensures.refused c.piece-done.ensures.unchanged in
    (dumper_act_done_under_lock c.args.self.now c.self.inside.machine c.piece-done.new.self c.self.inside.chronicle c.self.inside.ledger c.note.new.self (NextPiece c.args.pin c.args.time) (λ p. Part p) c.piece-done.result c.self.view_is may c.note.ensures).1

pub returns-clause-legal : goal.returns-clause-legal
returns-clause-legal g c = subst (λ ids. IfOk c.piece-done.result (λ p. IsPieceOfLegal ids c.args.time p)) c.self.invariant.0.ids c.piece-done.ensures.legal
