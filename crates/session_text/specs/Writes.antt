-- Texts that were written, whole or cut short by a fault.
use Rattle.std.specs.Prelude.{◌≡◌, ℕ, ◌+◌, ◌<◌, Bool, true, false, List, ◌++◌, length}
use Rattle.dump_pump.specs.Outlets.{Outgoing}

-- b is a and a beginning of the bytes, of which some are missing
pub record IsCutShort (bytes a b : List ℕ) : Type 0 where
  pub part : List ℕ
  pub rest : List ℕ
  pub has : b ≡ a ++ part
  pub lacks : bytes ≡ part ++ rest
  pub some : 0 < length rest

-- the bytes were put out, or a beginning of them if a write failed
abbrev pub IsTextWritten : List ℕ → Outgoing → Outgoing → Bool → Type 0
IsTextWritten bytes a b true = (b.out ≡ a.out ++ bytes) × (b.failures ≡ a.failures)
IsTextWritten bytes a b false = IsCutShort bytes a.out b.out × (b.failures ≡ a.failures + 1)

-- the reply buffer and then the text were put out up to what the reply buffer has now, or a beginning of them if a write failed
abbrev pub IsTextAdded : List ℕ → List ℕ → Outgoing → List ℕ → Outgoing → Bool → Type 0
IsTextAdded text page a page' b true =
    (put : List ℕ) × (b.out ≡ a.out ++ put) × (page ++ text ≡ put ++ page')
    × (b.failures ≡ a.failures)
IsTextAdded text page a page' b false =
    IsCutShort (page ++ text) a.out b.out × (b.failures ≡ a.failures + 1)
