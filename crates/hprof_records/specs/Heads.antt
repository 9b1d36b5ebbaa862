-- Numbers and records as bytes: HPROF, JAVA PROFILE 1.0.2.
use Rattle.std.specs.Prelude.{ℕ, List, ◌++◌, length}
use Rattle.byteorder.specs.Endian.{big_bytes}

-- ---- numbers

-- the byte of a number below 256
abbrev pub u1 : ℕ → List ℕ
u1 n = big_bytes 1 n

-- the two bytes of a number, the highest first
abbrev pub u2 : ℕ → List ℕ
u2 n = big_bytes 2 n

-- the four bytes of a number, the highest first
abbrev pub u4 : ℕ → List ℕ
u4 n = big_bytes 4 n

-- ---- records: tag, time 0, length of the body, body

-- a record with this tag and body
unfoldable pub record_of : ℕ → List ℕ → List ℕ
record_of tag body = u1 tag ++ u4 0 ++ u4 (length body) ++ body
