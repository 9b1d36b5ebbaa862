-- The contents of a buffer.
use Rattle.std.specs.Prelude.{ℕ, ◌+◌, ◌≤◌, List, length}

-- the bytes written, and the number of bytes for which the buffer has room in all
pub record Buffered : Type 0 where
  pub written : List ℕ
  pub limit : ℕ

-- there is room for these bytes, too
abbrev pub HasRoom : Buffered → List ℕ → Type 0
HasRoom b bytes = length b.written + length bytes ≤ b.limit
