-- What a copy of a region shows after a change of one cell.
use Rattle.std.proofs.Common.{◌≡◌, ℕ, ◌+◌, ◌*◌, ◌<◌, ◌≤◌, List, length, Option, Some, None, get_or, set, take, drop, refl, sym, ap, subst, ◌∙◌, inl, inr, arith, length-set, length-take}
use Rattle.std.proofs.lemmas.Bool.{cases_eq}
use Rattle.std.specs.Prelude.{option_map}
use Rattle.std.proofs.lemmas.List.{get_or-set_same, get_or-set_other, set-get_or, drop-set-add}
use Rattle.heap_region.specs.declared.cell.Header.{Header}
use Rattle.heap_region.specs.Layout.{words_of, word_set, header_object, header_of, cells_from, CellHeaderFits, IsLocal, overwritten}
use Rattle.heap_region.specs.Regions.{Object, FitsWords, block_words}
use Rattle.heap_region.specs.RegionCopies.{Frozen, IsLaid, frozen_with, frozen_word_set}
use Rattle.heap_region.proofs.Cells.{length-cells_from, cell_shows, header_shows, header_within, cell_lies, cells_changed}
use Rattle.heap_region.proofs.CellChanges.{local_set, local_overwritten, overwritten_here, take_of_set}

-- the copy as its Model shows it
abbrev pub laid : ℕ → List ℕ → List (Option Header) → Frozen
laid size ws hs = record { cell_size = size; cells = cells_from size ws 0 hs }

module _ (size : ℕ) (ws : List ℕ) (hs : List (Option Header)) (l : IsLaid size ws hs) where
  -- one slot of an object is written
  pub laid_slot : (cell slot v : ℕ) → slot < length (words_of (get_or (cells_from size ws 0 hs) cell None)) → IsLaid size (set ws (cell * size + slot) v) hs × (laid size (set ws (cell * size + slot) v) hs ≡ frozen_word_set cell slot v (laid size ws hs))
  unfolding frozen_word_set
  laid_slot cell slot v lt = go (get_or hs cell None) refl
    where
      new : List ℕ
      new = set ws (cell * size + slot) v

      Done : List (Option Header) → Type 0
      Done gs = laid size new gs ≡ frozen_with cell (option_map (word_set slot v) (get_or (cells_from size ws 0 hs) cell None)) (laid size ws hs)

      still : IsLaid size new hs
      still = record { sized = l.sized; words = length-set ws (cell * size + slot) v ∙ l.words; covers = l.covers; fits = l.fits }

      go : (o : Option Header) → get_or hs cell None ≡ o → IsLaid size new hs × Done hs
      go None is =
          let e : get_or (cells_from size ws 0 hs) cell None ≡ None = cell_shows size ws hs cell ∙ ap (header_object (drop (cell * size) ws)) is in
          let bad : slot < 0 = subst (λ o. slot < length (words_of o)) e lt in
          absurd (omega arith)
      go (Some h) is =
          let shown : get_or (cells_from size ws 0 hs) cell None ≡ header_object (drop (cell * size) ws) (Some h) = header_shows size ws hs cell h is in
          let here : slot < length (take h.len (drop (cell * size) ws)) = subst (λ o. slot < length (words_of o)) shown lt in
          let fits : CellHeaderFits size (Some h) = subst (CellHeaderFits size) is (l.fits cell) in
          let within : cell < length hs = header_within hs cell h is in
          let local : IsLocal size cell ws new = local_set size cell (cell * size + slot) ws v (omega arith) (omega (arith, fits, length-take h.len (drop (cell * size) ws))) in
          let words : take h.len (drop (cell * size) new) ≡ set (take h.len (drop (cell * size) ws)) slot v = ap (take h.len) (drop-set-add (cell * size) ws slot v) ∙ take_of_set h.len (drop (cell * size) ws) slot v in
          let back : set hs cell (Some h) ≡ hs = ap (set hs cell) (sym is) ∙ set-get_or hs cell None in
          let after : cells_from size new 0 (set hs cell (Some h)) ≡ set (cells_from size ws 0 hs) cell (header_object (drop (cell * size) new) (Some h)) = cells_changed size cell ws new hs (Some h) within l.fits local in
          let shows : header_object (drop (cell * size) new) (Some h) ≡ option_map (word_set slot v) (get_or (cells_from size ws 0 hs) cell None)
          = ap (λ zs. Some (record { kind = h.kind; words = zs; live = h.live; mark = h.mark })) words ∙ ap (option_map (word_set slot v)) (sym shown) in
          (still, subst Done back (ap (λ cs. record (laid size ws hs) { cells = cs }) (after ∙ ap (set (cells_from size ws 0 hs) cell) shows)))

  -- an object is put into a cell
  pub laid_put : (cell : ℕ) (ys : List ℕ) (h : Header) → cell < length hs → CellHeaderFits size (Some h) → h.len ≡ length ys
      → IsLaid size (overwritten ws (cell * size) ys) (set hs cell (Some h)) × (laid size (overwritten ws (cell * size) ys) (set hs cell (Some h)) ≡ frozen_with cell (Some (record { kind = h.kind; words = ys; live = h.live; mark = h.mark })) (laid size ws hs))
  laid_put cell ys h within fit len =
      let new : List ℕ = overwritten ws (cell * size) ys in
      let lies : cell * size + size ≤ block_words size = cell_lies size cell hs within l.covers in
      let local : IsLocal size cell ws new = local_overwritten size cell ws ys (omega (arith, fit, len)) (omega (arith, lies, l.words)) in
      let words : take h.len (drop (cell * size) new) ≡ ys = ap (λ n. take n (drop (cell * size) new)) len ∙ overwritten_here (cell * size) ws ys (omega (arith, lies, l.words, fit, len)) in
      let after : cells_from size new 0 (set hs cell (Some h)) ≡ set (cells_from size ws 0 hs) cell (header_object (drop (cell * size) new) (Some h)) = cells_changed size cell ws new hs (Some h) within l.fits local in (
        record {
          sized = l.sized;
          words = local.len ∙ l.words;
          covers = rw (length-set hs cell (Some h)) l.covers;
          fits = λ c. elim (cases_eq c cell) [
            | inl e ↦ rw (e, get_or-set_same hs cell (Some h) None within) fit
            | inr ne ↦ rw (get_or-set_other hs cell c (Some h) None ne) (l.fits c)
          ];
        },
        ap (λ cs. record (laid size ws hs) { cells = cs }) (after ∙ ap (λ zs. set (cells_from size ws 0 hs) cell (Some (record { kind = h.kind; words = zs; live = h.live; mark = h.mark }))) words),
      )

  -- an object is put into a cell, by what the caller sees of the copy
  pub laid_filled : (f : Frozen) → laid size ws hs ≡ f → (cell : ℕ) (o : Object) → cell < length f.cells → FitsWords f.cell_size (length o.words) → IsLaid size (overwritten ws (cell * size) o.words) (set hs cell (Some (header_of o))) × (laid size (overwritten ws (cell * size) o.words) (set hs cell (Some (header_of o))) ≡ frozen_with cell (Some o) f)
  laid_filled f view cell o within fits =
      let shown : cell < length (cells_from size ws 0 hs) = rw (← view) at within in
      rw (← view) (laid_put cell o.words (header_of o) (omega (arith, shown, length-cells_from size ws 0 hs)) (rw (← view) at fits) refl)
