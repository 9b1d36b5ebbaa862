-- For proofs: the filling of a segment.
use Rattle.std.specs.Prelude.{◌≡◌, ℕ, ◌+◌, nat_le, Bool, true, false, List, [], ◌∷◌, ◌++◌, length, Option, Some, None}
use Rattle.heap_class.specs.declared.IdSize.{IdSize}
use Rattle.heap_class.specs.declared.ObjRef.{ObjRef}
use Rattle.hprof_text.specs.declared.Cursor.{Cursor}
use Rattle.hprof_text.specs.declared.section.Section.{Section}
use Rattle.hprof_text.specs.Cursors.{IsRest, from_item}
use Rattle.hprof_text.specs.Image.{Image}
use Rattle.hprof_text.specs.Text.{after, records_in}
use Rattle.hprof_text.specs.Segments.{segment_limit}

-- whether a body takes a sub-record of n bytes; an empty body takes any
abbrev pub takes : List ℕ → ℕ → Bool
takes [] n = true
takes (b ∷ bs) n = nat_le (length (b ∷ bs) + n) segment_limit

-- a body with the sub-records that it takes of these, from the front, and those that are left
unfoldable pub body_filled : List ℕ → List (List ℕ) → List ℕ × List (List ℕ)
body_filled body [] = (body, [])
body_filled body (x ∷ xs) =
    elim (takes body (length x)) [ true ↦ body_filled (body ++ x) xs | false ↦ (body, x ∷ xs) ]

-- a sub-record was offered to a body, which took it or not
pub record IsOffered (x old new : List ℕ) (taken : Bool) : Type 0 where
  pub by_room : taken ≡ takes old (length x)
  pub body : new ≡ elim taken [ true ↦ old ++ x | false ↦ old ]

-- an item was offered to a body, which took it, and may take more, or is full
abbrev pub IsItemOffered : List (List ℕ) → List ℕ → List ℕ → Bool → Type 0
IsItemOffered item old new taken =
    (more : List (List ℕ)) → body_filled old (item ++ more)
    ≡ elim taken [ true ↦ body_filled new more | false ↦ (new, item ++ more) ]

-- the body took of these sub-records those that it takes, and the cursor is before those that are left
abbrev pub IsFilledTo : IdSize → Image → List ObjRef → List (List ℕ) → Cursor → List ℕ → List ℕ
    → Type 0
IsFilledTo ids image places rest cursor old new =
    (new ≡ (body_filled old rest).0) × IsRest ids image places cursor (body_filled old rest).1

-- the items of a section were offered to a body from number n on: it took all of them, or is filled, and the cursor is before
-- those that are left
abbrev pub IsFilledFrom : IdSize → Image → List ObjRef → Section → ℕ → Option Cursor → List ℕ
    → List ℕ → Type 0
IsFilledFrom ids image places s n (Some cursor) old new =
    IsFilledTo ids image places (from_item ids image s n) cursor old new
IsFilledFrom ids image places s n None old new =
    body_filled old (from_item ids image s n)
    ≡ body_filled new (records_in ids image (after s))
