use Rattle.std.proofs.Common.{◌≡◌}
use Rattle.hprof_text.specs.Image.{DumpedObject}
use Rattle.heap_questions.proofs.WrittenSlots.{of_seen}
use Rattle.heap_questions.proofs.past.writes.kind_at.Goals as goal

pub kind-requires : goal.kind-requires
kind-requires c = c.requires.0

pub returns : goal.returns
returns c = of_seen (λ (o : DumpedObject). c.kind.result ≡ o.kind) c.args.pin.now c.args.world.now c.args.at c.requires c.kind.ensures
