-- What copies of regions and objects show once their bits are turned.
use Rattle.std.proofs.Common.{◌≡◌, ℕ, Bool, false, List, map, Option, option_map, refl, ap, ◌∙◌}
use Rattle.std.proofs.lemmas.List.{length-map}
use Rattle.heap_region.specs.Regions.{Object, UsedRegion}
use Rattle.heap_region.specs.RegionCopies.{Frozen, IsLaid, frozen}
use Rattle.heap_region.specs.TurnedHeaders.{turned_header, turned_back_header}
use Rattle.heap_region.specs.Turns.{object_turned_by, turned_object, turned_back_object, turned_region, turned_back_region}
use Rattle.heap_region.specs.declared.cell.Header.{Header}
use Rattle.heap_region.specs.declared.quarter.Quarter.{Quarter}
use Rattle.heap_region.specs.declared.quarter.Quarter.TheVariants.{Zero, One, Two, Three}
use Rattle.heap_region.proofs.RegionCopies.{laid}
use Rattle.heap_region.proofs.TurnedRegions.{header_map_keeps_fit, turned_headers_show_turned_region, turned_back_shown}

-- ---- copies of regions

laid_by_mapped_headers : (f : Header → Header) → ((h : Header) → (f h).len ≡ h.len) → (size : ℕ) (ws : List ℕ) (hs : List (Option Header)) → IsLaid size ws hs → IsLaid size ws (map (option_map f) hs)
laid_by_mapped_headers f len size ws hs l = record {
  sized = l.sized;
  words = l.words;
  covers = rw (length-map hs (option_map f)) l.covers;
  fits = λ cell. header_map_keeps_fit f len size hs cell (l.fits cell);
}

pub turned_headers_stay_laid : (size : ℕ) (ws : List ℕ) (hs : List (Option Header)) → IsLaid size ws hs → IsLaid size ws (map (option_map turned_header) hs)
turned_headers_stay_laid = laid_by_mapped_headers turned_header (λ h. refl)

pub turned_back_headers_stay_laid : (size : ℕ) (ws : List ℕ) (hs : List (Option Header)) → IsLaid size ws hs → IsLaid size ws (map (option_map turned_back_header) hs)
turned_back_headers_stay_laid = laid_by_mapped_headers turned_back_header (λ h. refl)

pub turned_copy_shown : (size : ℕ) (ws : List ℕ) (hs : List (Option Header)) (u : UsedRegion) → laid size ws hs ≡ frozen u → laid size ws (map (option_map turned_header) hs) ≡ frozen (turned_region u)
unfolding turned_region
turned_copy_shown size ws hs u is = λ i. record {
  cell_size = (is i).cell_size;
  cells = (ap (λ (v : UsedRegion). v.cells) (turned_headers_show_turned_region size false ws hs 0) ∙ ap (λ (f : Frozen). map (option_map turned_object) f.cells) is) i;
}

pub turned_back_copy_shown : (size : ℕ) (ws : List ℕ) (hs : List (Option Header)) (u : UsedRegion) → laid size ws hs ≡ frozen u → laid size ws (map (option_map turned_back_header) hs) ≡ frozen (turned_back_region u)
unfolding turned_back_region
turned_back_copy_shown size ws hs u is = λ i. record {
  cell_size = (is i).cell_size;
  cells = (ap (λ (v : UsedRegion). v.cells) (turned_back_shown size false ws hs 0) ∙ ap (λ (f : Frozen). map (option_map turned_back_object) f.cells) is) i;
}

-- ---- copies of objects

pub object_of_turned_bits : (q : Quarter) (o : Object) (live mark : Bool) → live ≡ (object_turned_by q o).live → mark ≡ (object_turned_by q o).mark → record o { live = live; mark = mark } ≡ object_turned_by q o
object_of_turned_bits Zero o live mark l m = λ i. record o { live = l i; mark = m i }
object_of_turned_bits One o live mark l m = λ i. record o { live = l i; mark = m i }
object_of_turned_bits Two o live mark l m = λ i. record o { live = l i; mark = m i }
object_of_turned_bits Three o live mark l m = λ i. record o { live = l i; mark = m i }
