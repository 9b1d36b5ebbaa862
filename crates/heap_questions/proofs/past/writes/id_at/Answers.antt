use Rattle.std.proofs.Common.{◌≡◌}
use Rattle.hprof_text.specs.Image.{DumpedObject}
use Rattle.heap_questions.proofs.WrittenSlots.{of_seen}
use Rattle.heap_questions.proofs.past.writes.id_at.Goals as goal

pub id-requires : goal.id-requires
id-requires c = c.requires.0

pub returns : goal.returns
returns c = of_seen (λ (o : DumpedObject). c.id.result ≡ o.id) c.args.pin.now c.args.world.now c.args.at c.requires c.id.ensures
