use Rattle.std.proofs.Common.{◌<◌, length}
use Rattle.hprof_text.specs.Cursors.{IsAt}
use Rattle.hprof_text.specs.Segments.{pieces_of}
use Rattle.question_text.proofs.JoinedDump.{IsFront}
use Rattle.question_text.proofs.state_dump.text_of_view.Given as goal

abbrev pub invariant-loop-passed : goal.invariant-loop-passed
invariant-loop-passed g l = record {
  at : IsAt (g.V.View.ids l.view) (g.V.View.image l.view) (g.V.View.places l.view) l.cursor l._passed;
  front : IsFront (g.V.View.ids l.view) (g.V.View.image l.view) l.time l._passed l.text.items;
  after : l._passed < length (pieces_of (g.V.View.ids l.view) (g.V.View.image l.view) l.time);
}
