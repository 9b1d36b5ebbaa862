-- Lines, one after another.
use Rattle.std.proofs.Common.{◌≡◌, ℕ, List, [], ◌∷◌, ◌++◌, refl, sym, ap, ◌∙◌, append_assoc}
use Rattle.std.specs.Prelude.{flat_map}
use Rattle.std.specs.List.{AllByRecursion}
use Rattle.std.proofs.lemmas.List.{append-nil}
use Rattle.std.proofs.lemmas.List.Concat.{flat_map-cons}
use Rattle.heap_step.specs.declared.Event.{Event}
use Rattle.session_lines.specs.EventLines.{line_of}
use Rattle.session_lines.specs.Laws.{HasLine}
use Rattle.session_lines.specs.Lines.{AreLines}

pub no_lines : AreLines []
no_lines = record { events = []; spelled = refl; each = tt }

lines_of_one_event_more : (events : List Event) (e : Event) → flat_map line_of (events ++ (e ∷ [])) ≡ flat_map line_of events ++ line_of e
lines_of_one_event_more [] e = flat_map-cons line_of e [] ∙ append-nil (line_of e)
lines_of_one_event_more (x ∷ events) e =
    flat_map-cons line_of x (events ++ (e ∷ []))
    ∙ ap (λ (t : List ℕ). line_of x ++ t) (lines_of_one_event_more events e)
    ∙ sym (append_assoc (line_of x) (flat_map line_of events) (line_of e))
    ∙ ap (λ (t : List ℕ). t ++ line_of e) (sym (flat_map-cons line_of x events))

each_event_has_line_with_more : (events : List Event) (e : Event) → AllByRecursion HasLine events → HasLine e → AllByRecursion HasLine (events ++ (e ∷ []))
each_event_has_line_with_more [] e all last = (last, tt)
each_event_has_line_with_more (x ∷ events) e all last = (all.0, each_event_has_line_with_more events e all.1 last)

pub one_more_line : (text : List ℕ) (e : Event) → AreLines text → HasLine e → AreLines (text ++ line_of e)
one_more_line text e lines last = record {
  events = lines.events ++ (e ∷ []);
  spelled = ap (λ (t : List ℕ). t ++ line_of e) lines.spelled ∙ sym (lines_of_one_event_more lines.events e);
  each = each_event_has_line_with_more lines.events e lines.each last;
}
