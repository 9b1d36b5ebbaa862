-- A turned region is as good as it was.
use Rattle.std.proofs.Common.{◌≡◌, ℕ, zero, suc, true, false, not, List, [], ◌∷◌, map, Option, Some, None, is_none, IsSome, option_map, get_or, refl, sym, ap, ◌∙◌, rules}
use Rattle.std.proofs.lemmas.List.{length-map}
use Rattle.heap_region.specs.Regions.{Object, UsedRegion}
use Rattle.heap_region.specs.Layout.{IsWholeRegion, ObjectFits}
use Rattle.heap_region.specs.Table.{free_class_of, IsGood}
use Rattle.heap_region.specs.Turns.{turned_object, turned_back_object, turned_region, turned_back_region}

abbrev KeepsWords : (Object → Object) → Type 0
KeepsWords g = (o : Object) → (g o).words ≡ o.words

abbrev region_with_mapped_objects : (Object → Object) → UsedRegion → UsedRegion
region_with_mapped_objects g u = record u { cells = map (option_map g) u.cells; pending = not u.pending }

vacant_after_object_map : (g : Object → Object) (cells : List (Option Object)) → map is_none (map (option_map g) cells) ≡ map is_none cells
vacant_after_object_map g [] = refl
vacant_after_object_map g (None ∷ cells) = ap (λ bs. true ∷ bs) (vacant_after_object_map g cells)
vacant_after_object_map g (Some o ∷ cells) = ap (λ bs. false ∷ bs) (vacant_after_object_map g cells)

object_map_keeps_fit : (g : Object → Object) → KeepsWords g → (size : ℕ) (cells : List (Option Object)) (cell : ℕ) → ObjectFits size (get_or cells cell None) → ObjectFits size (get_or (map (option_map g) cells) cell None)
object_map_keeps_fit g words size [] cell fits = fits
object_map_keeps_fit g words size (None ∷ cells) zero fits = fits
object_map_keeps_fit g words size (Some o ∷ cells) zero fits = rw (words o) fits
object_map_keeps_fit g words size (o ∷ cells) (suc cell) fits = object_map_keeps_fit g words size cells cell fits

object_map_keeps_object : (g : Object → Object) (cells : List (Option Object)) (cell : ℕ) → IsSome (get_or cells cell None) → IsSome (get_or (map (option_map g) cells) cell None)
object_map_keeps_object g [] cell some = some
object_map_keeps_object g (None ∷ cells) zero some = some
object_map_keeps_object g (Some o ∷ cells) zero some = search rules
object_map_keeps_object g (o ∷ cells) (suc cell) some = object_map_keeps_object g cells cell some

mapped_objects_keep_region_whole : (g : Object → Object) → KeepsWords g → (u : UsedRegion) → IsWholeRegion u → IsWholeRegion (region_with_mapped_objects g u)
mapped_objects_keep_region_whole g words u whole = record {
  sized = whole.sized;
  covers = rw (length-map u.cells (option_map g)) whole.covers;
  apart = whole.apart;
  vacant = λ cell. whole.vacant cell ∙ ap (λ bs. get_or bs cell false) (sym (vacant_after_object_map g u.cells));
  fits = λ cell. object_map_keeps_fit g words u.cell_size u.cells cell (whole.fits cell);
}

pub turned_region_stays_whole : (u : UsedRegion) → IsWholeRegion u → IsWholeRegion (turned_region u)
unfolding turned_region
turned_region_stays_whole = mapped_objects_keep_region_whole turned_object (λ o. refl)

pub turned_back_region_stays_whole : (u : UsedRegion) → IsWholeRegion u → IsWholeRegion (turned_back_region u)
unfolding turned_back_region
turned_back_region_stays_whole = mapped_objects_keep_region_whole turned_back_object (λ o. refl)

mapped_objects_keep_region_good : (g : Object → Object) → KeepsWords g → (x : Option UsedRegion) → IsGood x → IsGood (option_map (region_with_mapped_objects g) x) × (free_class_of (option_map (region_with_mapped_objects g) x) ≡ free_class_of x)
mapped_objects_keep_region_good g words None good = (good, refl)
mapped_objects_keep_region_good g words (Some u) good = (
  (mapped_objects_keep_region_whole g words u good.0, (good.1.0, object_map_keeps_object g u.cells good.1.0 good.1.1)),
  refl,
)

pub turned_region_stays_good : (x : Option UsedRegion) → IsGood x → IsGood (option_map turned_region x) × (free_class_of (option_map turned_region x) ≡ free_class_of x)
unfolding turned_region
turned_region_stays_good = mapped_objects_keep_region_good turned_object (λ o. refl)

pub turned_back_good : (x : Option UsedRegion) → IsGood x → IsGood (option_map turned_back_region x) × (free_class_of (option_map turned_back_region x) ≡ free_class_of x)
unfolding turned_back_region
turned_back_good = mapped_objects_keep_region_good turned_back_object (λ o. refl)

-- nor does a turn change the size of cells
pub turned_region_keeps_size : (u : UsedRegion) → (turned_region u).cell_size ≡ u.cell_size
unfolding turned_region
turned_region_keeps_size u = refl

pub turned_back_region_keeps_size : (u : UsedRegion) → (turned_back_region u).cell_size ≡ u.cell_size
unfolding turned_back_region
turned_back_region_keeps_size u = refl
