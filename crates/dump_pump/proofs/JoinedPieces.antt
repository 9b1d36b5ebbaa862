-- The bytes of pieces, joined.
use Rattle.std.proofs.Common.{◌≡◌, List, [], ◌∷◌, ◌++◌, refl, sym, ap, ◌∙◌, append_assoc}
use Rattle.hprof_text.specs.declared.Piece.{Piece}
use Rattle.dump_pump.specs.Pumps.{joined}

pub joined_bytes_of_two_lists : (ps qs : List Piece) → joined (ps ++ qs) ≡ joined ps ++ joined qs
joined_bytes_of_two_lists [] qs = refl
joined_bytes_of_two_lists (p ∷ ps) qs = ap (λ l. p.bytes ++ l) (joined_bytes_of_two_lists ps qs) ∙ sym (append_assoc p.bytes (joined ps) (joined qs))
