-- The text of `cells`.
use Rattle.std.specs.Prelude.{◌≡◌, ℕ, Bool, true, false, List, [], ◌++◌, codes, flat_map, length, map}
use Rattle.std.specs.List.{range_with_len}
use Rattle.std.specs.Option.{option_map_or}
use Rattle.heap_class.specs.declared.ObjRef.{ObjRef}
use Rattle.heap_world.specs.Regions.{UsedRegion, used_at}
use Rattle.heap_world.specs.State.{HeapState}
use Rattle.heap_questions.specs.declared.cells.CellState.{CellState}
use Rattle.heap_questions.specs.declared.cells.CellState.TheVariants.{Free, Live, Marked, Gray, Dead}
use Rattle.heap_questions.specs.Cells.{cell_state, used_regions}
use Rattle.session_text.specs.Replies.{and_number, line}
use Rattle.question_words.specs.Places.{IsTextOrNoMemory}
use Rattle.question_words.specs.Rows.{count_text}

-- the letter of what a cell holds: `.` for nothing, `o` for a live object, `m` for a marked one, `g` for a gray one, and `x` for
-- one that isn't live
abbrev pub cell_letter : CellState → ℕ
cell_letter Free = 46
cell_letter Live = 111
cell_letter Marked = 109
cell_letter Gray = 103
cell_letter Dead = 120

-- cell c of region r
abbrev pub cell_at : ℕ → ℕ → ObjRef
cell_at r c = record { region = r; cell = c }

-- the letters of the first n cells of region r
abbrev pub cell_letters : HeapState → ℕ → ℕ → List ℕ
cell_letters w r n = map (λ c. cell_letter (cell_state w (cell_at r c))) (range_with_len 0 n)

-- whether a region waits to be swept
abbrev pub sweep_words : Bool → List ℕ
sweep_words true = codes " sweep "
sweep_words false = codes " - "

-- the line of region r, which is in use: its number, the size of its cells, whether it waits to be swept, and a letter for each
-- cell
unfoldable pub used_text : HeapState → ℕ → UsedRegion → List ℕ
used_text w r u =
    line
    ((((codes "row" ++ and_number r) ++ and_number u.cell_size) ++ sweep_words u.pending)
    ++ cell_letters w r (length u.cells))

-- the line of region r, if it is in use
abbrev pub region_text : HeapState → ℕ → List ℕ
region_text w r = option_map_or (used_text w r) (used_at w.regions r) []

-- the lines of the regions in use, and their number
abbrev pub cells_text : HeapState → List ℕ
cells_text w =
    flat_map (region_text w) (used_regions w.regions) ++ count_text (length (used_regions w.regions))

-- the answer of `cells`
abbrev pub IsCellsText : HeapState → List ℕ → Type 0
IsCellsText w text = IsTextOrNoMemory (λ text. text ≡ cells_text w) text
