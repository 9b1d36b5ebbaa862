use Rattle.std.proofs.Common.{◌≡◌, IfSome, sym, subst}
use Rattle.hprof_text.specs.Image.{DumpedObject}
use Rattle.heap_pins.specs.Pin.{cell_dumped}
use Rattle.heap_pins.proofs.ObjectReads.{copied_object_of_its_parts}
use Rattle.heap_pins.proofs.reads.object_in.Goals as goal

pub returns : goal.returns
returns c =
    let d : DumpedObject = record { id = c.id_in.result; kind = c.kind.result; words = c.words.result.now } in
    subst (λ (x : DumpedObject). IfSome (cell_dumped c.args.at c.args.copy.now) (λ o. x ≡ o)) (sym c.new.ensures)
    (copied_object_of_its_parts c.args.at c.args.copy.now d c.id_in.ensures c.kind.ensures c.words.ensures)
