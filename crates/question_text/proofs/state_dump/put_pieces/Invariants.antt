use Rattle.std.proofs.Common.{◌≡◌, ◌+◌, ◌<◌, length}
use Rattle.hprof_text.specs.Cursors.{IsAt}
use Rattle.hprof_text.specs.Segments.{piece_of, pieces_of}
use Rattle.question_text.proofs.PutDumps.{IsPutTo}
use Rattle.question_text.proofs.state_dump.put_pieces.Given as goal

abbrev pub invariant-loop-passed : goal.invariant-loop-passed
invariant-loop-passed g l = record {
  piece : l.piece ≡ piece_of (g.V.View.ids l.view) (g.V.View.image l.view) l.time l._passed;
  at : IsAt (g.V.View.ids l.view) (g.V.View.image l.view) (g.V.View.places l.view) l.cursor (l._passed + 1);
  put : IsPutTo (g.V.View.ids l.view) (g.V.View.image l.view) l.time l._passed (g.O.Outlet.seen l.fn.outlet) (g.O.Outlet.seen l.outlet);
  after : l._passed < length (pieces_of (g.V.View.ids l.view) (g.V.View.image l.view) l.time);
}
