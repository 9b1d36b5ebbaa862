use Rattle.std.proofs.Common.{ap, sym, ◌∙◌}
use Rattle.heap_trail.specs.declared.held.Held.{Held}
use Rattle.heap_trail.specs.OpenPins.{held_advanced, is_past}
use Rattle.heap_trail.proofs.PinCalls.{boolean_not_true_and_false}
use Rattle.heap_trail.proofs.PinPieces.{cursor_short_of_past, piece_moves_cursor_on, cursor_past_stays_past}
use Rattle.heap_trail.proofs.held.NumberedPin.advance.Goals.{in-Past, in_default-matches}
use Rattle.heap_trail.proofs.held.NumberedPin.advance.Goals as goal

pub returns-then-not-matches : goal.returns-then-not-matches
returns-then-not-matches c = elim c.match-matches.branch [
  | in-Past w ↦ boolean_not_true_and_false c.match-matches.matches c.if-not-matches.true w.matches-is
  | in_default-matches w ↦ ap (λ (h : Held). record c.args.self.now { held = h })
      (piece_moves_cursor_on c.args.to c.args.self.now.held c.in-Kept.place c.in-Kept.pin c.in-Kept.cursor c.in-Kept.given c.in-Kept.is (cursor_short_of_past c.in-Kept.cursor w.in_default-matches.not-Past))
]

pub returns-else-not-matches : goal.returns-else-not-matches
returns-else-not-matches c = elim c.match-matches.branch [
  | in-Past w ↦ ap (λ (h : Held). record c.args.self.now { held = h })
      (cursor_past_stays_past c.args.to c.args.self.now.held c.in-Kept.place c.in-Kept.pin c.in-Kept.cursor c.in-Kept.given c.in-Kept.is (ap is_past w.in-Past.is))
  | in_default-matches w ↦ boolean_not_true_and_false c.match-matches.matches w.matches-is c.if-not-matches.false
]

pub returns-in_default : goal.returns-in_default
unfolding held_advanced
returns-in_default c = ap (λ (h : Held). record c.args.self.now { held = h }) (c.in_default.is ∙ ap (held_advanced c.args.to) (sym c.in_default.is))
