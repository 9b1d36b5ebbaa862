use Rattle.std.proofs.Common.{◌≡◌, take, map}
use Rattle.session_grammar.specs.Reads.{field_of_span}
use Rattle.session_grammar.proofs.fields.copied_all.Given as goal

abbrev pub invariant-loop-span : goal.invariant-loop-span
invariant-loop-span l = l.copies.items ≡ map (field_of_span l.text) (take l.span-index l.spans)
