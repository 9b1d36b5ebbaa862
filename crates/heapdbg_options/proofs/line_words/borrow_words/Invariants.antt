use Rattle.std.proofs.Common.{◌≡◌, map, take}
use Rattle.std.specs.Prelude.{string_bytes}
use Rattle.heapdbg_options.specs.CommandLine.{texts}
use Rattle.heapdbg_options.proofs.line_words.borrow_words.Given as goal

abbrev pub invariant-loop-word : goal.invariant-loop-word
invariant-loop-word l = texts l.line.items ≡ map string_bytes (take l.word-index l.words)
