-- A head as its bytes are set one by one.
use Rattle.std.proofs.Common.{◌≡◌, ℕ, ◌%◌, ◌<◌, List, [], ◌∷◌, ◌++◌, length, sym, ap₂, ◌∙◌, arith}
use Rattle.std.proofs.lemmas.List.{append-nil}
use Rattle.byteorder.specs.Endian.{big_bytes}
use Rattle.hprof_records.specs.Heads.{record_of}

pub head_and_body_make_record : (tag : ℕ) (four body : List ℕ) → tag < 256 → four ≡ big_bytes 4 (length body) → tag ∷ 0 ∷ 0 ∷ 0 ∷ 0 ∷ (four ++ [] ++ body) ≡ record_of tag body
unfolding record_of
head_and_body_make_record tag four body h e =
    let m : tag % 256 ≡ tag = omega (arith, h) in
    ap₂ (λ t l. t ∷ 0 ∷ 0 ∷ 0 ∷ 0 ∷ (l ++ body)) (sym m) (append-nil four ∙ e)
