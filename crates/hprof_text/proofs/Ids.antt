-- Identifiers with equal bytes are equal.
use Rattle.std.proofs.Common.{ℕ, sym, ap, ◌∙◌}
use Rattle.std.specs.Int.{from_be_bytes, w32, w64}
use Rattle.std.proofs.lemmas.Nat.{from_be_bytes-to_be_bytes_4, from_be_bytes-to_be_bytes_8}
use Rattle.heap_class.specs.declared.IdSize.{IdSize}
use Rattle.heap_class.specs.declared.IdSize.TheVariants.{Four, Eight}
use Rattle.hprof_text.specs.Laws.{EqualIds}

pub ids_are_equal_as_bytes : (ids : IdSize) (a b : ℕ) → EqualIds ids a b
ids_are_equal_as_bytes Four a b f g e = sym (from_be_bytes-to_be_bytes_4 a f) ∙ ap (from_be_bytes w32) e ∙ from_be_bytes-to_be_bytes_4 b g
ids_are_equal_as_bytes Eight a b f g e = sym (from_be_bytes-to_be_bytes_8 a f) ∙ ap (from_be_bytes w64) e ∙ from_be_bytes-to_be_bytes_8 b g
