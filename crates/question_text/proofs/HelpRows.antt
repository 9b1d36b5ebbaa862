-- The rows of `help`.
use Rattle.std.proofs.Common.{◌≡◌, ℕ, ◌≤◌, ◌-◌, List, ◌++◌, take, length, arith, length-append, ap, ap₂, ◌∙◌}
use Rattle.std.specs.Prelude.{codes}
use Rattle.std.proofs.lemmas.List.{take-append-le, take_all}

-- a text that ends in `ok` has that line
pub ok_is_there : (rows text : List ℕ) → text ≡ rows ++ codes "ok\n" → 3 ≤ length text
ok_is_there rows text e = omega (arith, ap length e, length-append rows (codes "ok\n"))

-- and what is before it
pub rows_before_ok : (rows text : List ℕ) → text ≡ rows ++ codes "ok\n" → take (length text - 3) text ≡ rows
rows_before_ok rows text e =
    let n : length text - 3 ≡ length rows = omega (arith, ap length e, length-append rows (codes "ok\n")) in
    ap₂ (λ (k : ℕ) (l : List ℕ). take k l) n e ∙ take-append-le (length rows) rows (codes "ok\n") (omega arith) ∙ take_all (length rows) rows (omega arith)
