-- The classes of the rows of `dominators` are there.
use Rattle.std.proofs.Common.{ℕ, List, Option, get_or}
use Rattle.std.specs.Prelude.{All}
use Rattle.std.proofs.lemmas.Option.{slice_get-get_or}
use Rattle.heap_class.specs.declared.IdSize.{IdSize}
use Rattle.hprof_text.specs.Image.{Image, IsDumpable}
use Rattle.heap_dominators.specs.Rows.{AreFirstRows}
use Rattle.heap_dominators.specs.declared.rows.TopObject.{TopObject}
use Rattle.heap_dominators.proofs.KnownRows.{top_row_kind_is_known}
use Rattle.question_text.specs.DominatorRows.{IsTopThere}
use Rattle.question_rows.proofs.NamedObjects.{known_kind_has_class}

-- the classes of the rows of `dominators` are there
pub all_tops_there : (ids : IdSize) (image : Image) (Shown : ℕ → Type 0) (most : Option ℕ) (rows : List TopObject) → IsDumpable image → AreFirstRows ids image Shown most rows → All (IsTopThere image.classes) rows
all_tops_there ids image Shown most rows d is i t h =
    let r = get_or rows i t in
    let k = top_row_kind_is_known ids image Shown most rows i r d is (slice_get-get_or rows i t h) in
    known_kind_has_class image.classes r.kind k.0 k.1
