use Rattle.std.proofs.Common.{◌≡◌, ◌++◌, map, take}
use Rattle.session_lines.specs.EventLines.{and_words, field_word}
use Rattle.session_lines.proofs.event_lines.push_fields.Given as goal

abbrev pub invariant-loop-field : goal.invariant-loop-field
invariant-loop-field l = l.text.items ≡ l.fn.text.items ++ and_words (map field_word (take l.field-index l.fields))
