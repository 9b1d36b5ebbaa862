-- The places with byte 1 are those of the live objects.
use Rattle.std.proofs.Common.{◌≡◌, ℕ, zero, suc, ◌+◌, ◌*◌, ◌<◌, ◌≤◌, Bool, true, false, List, [], ◌∷◌, ◌++◌, length, get_or, Option, None, refl, sym, ap, ◌∙◌, arith}
use Rattle.std.specs.Prelude.{slice_get, option_and_then, ◌==◌, if◌then◌else◌}
use Rattle.heap_region.specs.Regions.{Object, Region, Empty, InUse, used_part, used_at, object_at, live_places, slot_object}
use Rattle.heap_region.specs.Legal.{EachUsed, IsCellTable}
use Rattle.heap_region.specs.Live.{is_live, live_cells, cells_of, live_regions, live_from}
use Rattle.heap_region.proofs.ShownRegions.{object_of_used}
use Rattle.heap_region.proofs.Live.{live_places_from_region_zero}
use Rattle.heap_pins.specs.Pin.{place, places_from, states_from}
use Rattle.heap_pins.proofs.CellStates.{place_of_number_by_cell}
use Rattle.heap_pins.proofs.LiveCounts.{cell_table_below_257_cells}

-- 1 for a live object
abbrev pub live_byte : Option Object → ℕ
live_byte o = if is_live o then 1 else 0

-- the bytes of n cells from that of byte k
abbrev pub bytes_from : List Region → ℕ → ℕ → List ℕ
bytes_from regions k n = states_from (λ at. live_byte (object_at regions at)) k n

-- the bytes of all regions
unfoldable pub live_bytes : List Region → List ℕ
live_bytes regions = bytes_from regions 0 (256 * length regions)

pub bytes_joined : (regions : List Region) (k m n : ℕ) → bytes_from regions k (m + n) ≡ bytes_from regions k m ++ bytes_from regions (k + m) n
unfolding states_from
bytes_joined regions k zero n = λ i. bytes_from regions ((let e : k ≡ k + 0 = omega arith in e) i) ((let e : 0 + n ≡ n = omega arith in e) i)
bytes_joined regions k (suc m) n =
    let e : k + 1 + m ≡ k + suc m = omega arith in
    ap (bytes_from regions k) (let z : suc m + n ≡ suc (m + n) = omega arith in z)
    ∙ ap (λ xs. live_byte (object_at regions (place k)) ∷ xs) (bytes_joined regions (k + 1) m n ∙ ap (λ j. bytes_from regions (k + 1) m ++ bytes_from regions j n) e)

pub bytes_more : (regions : List Region) (n : ℕ) → bytes_from regions 0 (n + 1) ≡ bytes_from regions 0 n ++ live_byte (object_at regions (place n)) ∷ []
unfolding states_from
bytes_more regions n = bytes_joined regions 0 n 1 ∙ ap (λ j. bytes_from regions 0 n ++ bytes_from regions j 1) (let e : 0 + n ≡ n = omega arith in e)

pub length_bytes : (regions : List Region) (k n : ℕ) → length (bytes_from regions k n) ≡ n
unfolding states_from
length_bytes regions k zero = refl
length_bytes regions k (suc n) = ap suc (length_bytes regions (k + 1) n)

live_places_of_joined_bytes : (k : ℕ) (xs ys : List ℕ) → places_from k (xs ++ ys) ≡ places_from k xs ++ places_from (k + length xs) ys
unfolding places_from
live_places_of_joined_bytes k [] ys = ap (λ j. places_from j ys) (let e : k ≡ k + 0 = omega arith in e)
live_places_of_joined_bytes k (x ∷ xs) ys = go (x == 1) (live_places_of_joined_bytes (k + 1) xs ys ∙ ap (λ j. places_from (k + 1) xs ++ places_from j ys) (let e : k + 1 + length xs ≡ k + suc (length xs) = omega arith in e))
  where
    go : (b : Bool) → places_from (k + 1) (xs ++ ys) ≡ places_from (k + 1) xs ++ places_from (k + suc (length xs)) ys → (if b then place k ∷ places_from (k + 1) (xs ++ ys) else places_from (k + 1) (xs ++ ys)) ≡ (if b then place k ∷ places_from (k + 1) xs else places_from (k + 1) xs) ++ places_from (k + suc (length xs)) ys
    go true later = ap (λ l. place k ∷ l) later
    go false later = later

byte_is : (b : Bool) → ((if b then 1 else 0) == 1) ≡ b
byte_is true = refl
byte_is false = refl

-- a region's cells from one on
cells_placed : (regions : List Region) (r c n k : ℕ) (cells : List (Option Object)) → c + n ≡ 256 → length cells ≤ n → k ≡ 256 * r + c → ((i : ℕ) → i < n → object_at regions (record { region = r; cell = c + i }) ≡ get_or cells i None)
    → places_from k (bytes_from regions k n) ≡ live_cells r c cells
unfolding places_from states_from live_cells
cells_placed regions r c zero k [] all few e here = refl
cells_placed regions r c zero k (o ∷ os) all few e here = absurd (omega (arith, few))
cells_placed regions r c (suc n) k [] all few e here =
    let first : object_at regions (place k) ≡ None = ap (object_at regions) (place_of_number_by_cell r c k (omega arith) e) ∙ ap (λ j. object_at regions (record { region = r; cell = j })) (let z : c ≡ c + 0 = omega arith in z) ∙ here 0 (omega arith) in
    ap (λ o. if live_byte o == 1 then place k ∷ places_from (k + 1) (bytes_from regions (k + 1) n) else places_from (k + 1) (bytes_from regions (k + 1) n)) first
    ∙ cells_placed regions r (c + 1) n (k + 1) [] (omega arith) (omega arith) (omega arith)
    (λ i lt. ap (λ j. object_at regions (record { region = r; cell = j })) (let z : c + 1 + i ≡ c + suc i = omega arith in z) ∙ here (suc i) (omega arith))
cells_placed regions r c (suc n) k (o ∷ os) all few e here =
    let at : place k ≡ record { region = r; cell = c } = place_of_number_by_cell r c k (omega arith) e in
    let first : object_at regions (place k) ≡ o = ap (object_at regions) at ∙ ap (λ j. object_at regions (record { region = r; cell = j })) (let z : c ≡ c + 0 = omega arith in z) ∙ here 0 (omega arith) in
    let rest : places_from (k + 1) (bytes_from regions (k + 1) n) ≡ live_cells r (c + 1) os = cells_placed regions r (c + 1) n (k + 1) os (omega arith) (omega (arith, few)) (omega arith)
    (λ i lt. ap (λ j. object_at regions (record { region = r; cell = j })) (let z : c + 1 + i ≡ c + suc i = omega arith in z) ∙ here (suc i) (omega arith)) in
    (λ i. if live_byte (first i) == 1 then at i ∷ rest i else rest i)
    ∙ ap (λ b. if b then record { region = r; cell = c } ∷ live_cells r (c + 1) os else live_cells r (c + 1) os) (byte_is (is_live o))

slot_object_is_its_cell : (x : Region) (c : ℕ) → slot_object (used_part x) c ≡ get_or (cells_of (used_part x)) c None
slot_object_is_its_cell Empty c = refl
slot_object_is_its_cell (InUse u) c = refl

regions_placed : (regions : List Region) (r k : ℕ) (rest : List Region) → EachUsed regions (λ r u. IsCellTable u) → k ≡ 256 * r → ((i : ℕ) → slice_get regions (r + i) ≡ slice_get rest i)
    → places_from k (bytes_from regions k (256 * length rest)) ≡ live_regions r rest
unfolding places_from states_from live_regions used_at
regions_placed regions r k [] tables e same = refl
regions_placed regions r k (x ∷ rest) tables e same =
    let later : places_from (k + 256) (bytes_from regions (k + 256) (256 * length rest)) ≡ live_regions (r + 1) rest
    = regions_placed regions (r + 1) (k + 256) rest tables (omega arith) (λ i. ap (slice_get regions) (let z : r + 1 + i ≡ r + suc i = omega arith in z) ∙ same (suc i)) in
    ap (λ n. places_from k (bytes_from regions k n)) (let z : 256 * suc (length rest) ≡ 256 + 256 * length rest = omega arith in z)
    ∙ ap (places_from k) (bytes_joined regions k 256 (256 * length rest))
    ∙ live_places_of_joined_bytes k (bytes_from regions k 256) (bytes_from regions (k + 256) (256 * length rest))
    ∙ (λ i. first i ++ (ap (λ n. places_from (k + n) (bytes_from regions (k + 256) (256 * length rest))) (length_bytes regions k 256) ∙ later) i)
  where
    used : used_at regions r ≡ used_part x
    used = ap (option_and_then used_part) (ap (slice_get regions) (let z : r ≡ r + 0 = omega arith in z) ∙ same 0)

    few : (y : Region) → used_at regions r ≡ used_part y → length (cells_of (used_part y)) ≤ 256
    few Empty e = omega arith
    few (InUse u) e = cell_table_below_257_cells u (tables r u e)

    first : places_from k (bytes_from regions k 256) ≡ live_cells r 0 (cells_of (used_part x))
    first = cells_placed regions r 0 256 k (cells_of (used_part x)) (omega arith) (few x used) (omega arith)
        (λ i lt. ap (λ j. object_at regions (record { region = r; cell = j })) (let z : 0 + i ≡ i = omega arith in z) ∙ object_of_used regions (record { region = r; cell = i }) ∙ ap (λ s. slot_object s i) used ∙ slot_object_is_its_cell x i)

pub bytes_place : (regions : List Region) → EachUsed regions (λ r u. IsCellTable u) → places_from 0 (live_bytes regions) ≡ live_places regions
unfolding live_bytes live_from
bytes_place regions tables = regions_placed regions 0 0 regions tables (omega arith) (λ i. ap (slice_get regions) (let z : 0 + i ≡ i = omega arith in z)) ∙ sym (live_places_from_region_zero regions)
