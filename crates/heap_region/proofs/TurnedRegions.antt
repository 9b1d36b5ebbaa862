-- What a turn of all headers of a region leaves of what they show.
use Rattle.std.proofs.Common.{◌≡◌, ℕ, zero, suc, ◌+◌, Bool, true, false, not, cond, List, [], ◌∷◌, length, map, Option, Some, None, is_none, option_map, drop, get_or, refl, sym, ap, ap₂, ◌∙◌}
use Rattle.std.specs.Prelude.{count_by, is_some}
use Rattle.std.proofs.lemmas.List.{length-map}
use Rattle.std.proofs.lemmas.List.Sums.{sum_by-cons}
use Rattle.heap_region.specs.Regions.{Object}
use Rattle.heap_region.specs.Layout.{cells_from, walk, header_object, header_live, CellHeaderFits, IsSound}
use Rattle.heap_region.specs.Live.{is_dead, is_live}
use Rattle.heap_region.specs.Turns.{turned_region, turned_back_region, turned_object, turned_back_object, is_unmarked}
use Rattle.heap_region.specs.TurnedHeaders.{IsCounted, turned_header, turned_back_header, header_dead, header_unmarked}
use Rattle.heap_region.specs.Slots.{AreCounted}
use Rattle.heap_region.specs.declared.counts.Counts.{Counts}
use Rattle.heap_region.specs.declared.cell.Header.{Header}
use Rattle.heap_region.proofs.Sound.{shown}

-- ---- headers that are all changed, but not in their lengths

abbrev pub KeepsLen : (Header → Header) → Type 0
KeepsLen f = (h : Header) → (f h).len ≡ h.len

vacant_after_header_map : (f : Header → Header) (hs : List (Option Header)) → map is_none (map (option_map f) hs) ≡ map is_none hs
vacant_after_header_map f [] = refl
vacant_after_header_map f (None ∷ hs) = ap (λ bs. true ∷ bs) (vacant_after_header_map f hs)
vacant_after_header_map f (Some h ∷ hs) = ap (λ bs. false ∷ bs) (vacant_after_header_map f hs)

pub header_map_keeps_fit : (f : Header → Header) → KeepsLen f → (size : ℕ) (hs : List (Option Header)) (cell : ℕ) → CellHeaderFits size (get_or hs cell None) → CellHeaderFits size (get_or (map (option_map f) hs) cell None)
header_map_keeps_fit f len size [] cell fits = fits
header_map_keeps_fit f len size (None ∷ hs) zero fits = fits
header_map_keeps_fit f len size (Some h ∷ hs) zero fits = rw (len h) fits
header_map_keeps_fit f len size (h ∷ hs) (suc cell) fits = header_map_keeps_fit f len size hs cell fits

header_map_keeps_sound : (f : Header → Header) → KeepsLen f → (size : ℕ) (ws : List ℕ) (hs : List (Option Header)) (link : ℕ) → IsSound size ws hs link (walk (length hs) size ws link)
    → IsSound size ws (map (option_map f) hs) link (walk (length (map (option_map f) hs)) size ws link)
header_map_keeps_sound f len size ws hs link sound =
    rw (length-map hs (option_map f)) (record {
      sized = sound.sized;
      words = sound.words;
      covers = rw (length-map hs (option_map f)) sound.covers;
      fits = λ cell. header_map_keeps_fit f len size hs cell (sound.fits cell);
      linked = sound.linked;
      apart = sound.apart;
      vacant = λ cell. sound.vacant cell ∙ ap (λ bs. get_or bs cell false) (sym (vacant_after_header_map f hs));
    })

-- ---- a turn

cells_turned : (size : ℕ) (ws : List ℕ) (base : ℕ) (hs : List (Option Header)) → cells_from size ws base (map (option_map turned_header) hs) ≡ map (option_map turned_object) (cells_from size ws base hs)
unfolding cells_from
cells_turned size ws base [] = refl
cells_turned size ws base (None ∷ hs) = ap (λ (l : List (Option Object)). None ∷ l) (cells_turned size ws (base + size) hs)
cells_turned size ws base (Some h ∷ hs) = ap (λ (l : List (Option Object)). header_object (drop base ws) (Some (turned_header h)) ∷ l) (cells_turned size ws (base + size) hs)

cells_turned_back : (size : ℕ) (ws : List ℕ) (base : ℕ) (hs : List (Option Header)) → cells_from size ws base (map (option_map turned_back_header) hs) ≡ map (option_map turned_back_object) (cells_from size ws base hs)
unfolding cells_from
cells_turned_back size ws base [] = refl
cells_turned_back size ws base (None ∷ hs) = ap (λ (l : List (Option Object)). None ∷ l) (cells_turned_back size ws (base + size) hs)
cells_turned_back size ws base (Some h ∷ hs) = ap (λ (l : List (Option Object)). header_object (drop base ws) (Some (turned_back_header h)) ∷ l) (cells_turned_back size ws (base + size) hs)

pub turned_headers_stay_sound : (size : ℕ) (ws : List ℕ) (hs : List (Option Header)) (link : ℕ) → IsSound size ws hs link (walk (length hs) size ws link) → IsSound size ws (map (option_map turned_header) hs) link (walk (length (map (option_map turned_header) hs)) size ws link)
turned_headers_stay_sound = header_map_keeps_sound turned_header (λ h. refl)

pub turned_back_sound : (size : ℕ) (ws : List ℕ) (hs : List (Option Header)) (link : ℕ) → IsSound size ws hs link (walk (length hs) size ws link) → IsSound size ws (map (option_map turned_back_header) hs) link (walk (length (map (option_map turned_back_header) hs)) size ws link)
turned_back_sound = header_map_keeps_sound turned_back_header (λ h. refl)

pub turned_headers_show_turned_region : (size : ℕ) (pending : Bool) (ws : List ℕ) (hs : List (Option Header)) (link : ℕ) → shown size (not pending) ws (map (option_map turned_header) hs) link ≡ turned_region (shown size pending ws hs link)
unfolding turned_region
turned_headers_show_turned_region size pending ws hs link = λ i. record {
  cell_size = size;
  pending = not pending;
  cells = cells_turned size ws 0 hs i;
  free = walk (length-map hs (option_map turned_header) i) size ws link;
}

pub turned_back_shown : (size : ℕ) (pending : Bool) (ws : List ℕ) (hs : List (Option Header)) (link : ℕ) → shown size (not pending) ws (map (option_map turned_back_header) hs) link ≡ turned_back_region (shown size pending ws hs link)
unfolding turned_back_region
turned_back_shown size pending ws hs link = λ i. record {
  cell_size = size;
  pending = not pending;
  cells = cells_turned_back size ws 0 hs i;
  free = walk (length-map hs (option_map turned_back_header) i) size ws link;
}

-- objects that are counted by their headers
headers_counted_as_objects : (p : Option Header → Bool) (q : Option Object → Bool) → ((ws : List ℕ) (h : Option Header) → p h ≡ q (header_object ws h)) → (size : ℕ) (ws : List ℕ) (base : ℕ) (hs : List (Option Header)) → count_by p hs ≡ count_by q (cells_from size ws base hs)
unfolding cells_from
headers_counted_as_objects p q is size ws base [] = refl
headers_counted_as_objects p q is size ws base (h ∷ hs) =
    sum_by-cons (λ x. cond (p x) 1 0) h hs
    ∙ (ap₂ (λ (b : Bool) (n : ℕ). cond b 1 0 + n) (is (drop base ws) h) (headers_counted_as_objects p q is size ws (base + size) hs)
    ∙ sym (sum_by-cons (λ x. cond (q x) 1 0) _ (cells_from size ws (base + size) hs)))

pub unmarked_shown : (size : ℕ) (ws : List ℕ) (base : ℕ) (hs : List (Option Header)) → count_by header_unmarked hs ≡ count_by is_unmarked (cells_from size ws base hs)
unmarked_shown = headers_counted_as_objects header_unmarked is_unmarked go
  where
    go : (ws : List ℕ) (h : Option Header) → header_unmarked h ≡ is_unmarked (header_object ws h)
    go ws None = refl
    go ws (Some h) = refl

pub live_headers_counted_as_objects : (size : ℕ) (ws : List ℕ) (base : ℕ) (hs : List (Option Header)) → count_by header_live hs ≡ count_by is_live (cells_from size ws base hs)
live_headers_counted_as_objects = headers_counted_as_objects header_live is_live go
  where
    go : (ws : List ℕ) (h : Option Header) → header_live h ≡ is_live (header_object ws h)
    go ws None = refl
    go ws (Some h) = refl

pub dead_shown : (size : ℕ) (ws : List ℕ) (base : ℕ) (hs : List (Option Header)) → count_by header_dead hs ≡ count_by is_dead (cells_from size ws base hs)
dead_shown = headers_counted_as_objects header_dead is_dead go
  where
    go : (ws : List ℕ) (h : Option Header) → header_dead h ≡ is_dead (header_object ws h)
    go ws None = refl
    go ws (Some h) = refl

taken_headers_counted_as_objects : (size : ℕ) (ws : List ℕ) (base : ℕ) (hs : List (Option Header)) → count_by is_some hs ≡ count_by is_some (cells_from size ws base hs)
taken_headers_counted_as_objects = headers_counted_as_objects is_some is_some go
  where
    go : (ws : List ℕ) (h : Option Header) → is_some h ≡ is_some (header_object ws h)
    go ws None = refl
    go ws (Some h) = refl

-- the counts of headers are those of the objects that they show
pub counts_of_headers_shown : (size : ℕ) (ws : List ℕ) (hs : List (Option Header)) (c : Counts) → IsCounted hs c → AreCounted (cells_from size ws 0 hs) c
counts_of_headers_shown size ws hs c is = record {
  objects = is.objects ∙ taken_headers_counted_as_objects size ws 0 hs;
  unmarked = is.unmarked ∙ unmarked_shown size ws 0 hs;
  dead = is.dead ∙ dead_shown size ws 0 hs;
}
