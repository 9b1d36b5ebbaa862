-- Turns of a region, modulo 4, and of a region whose storage was turned less far than the heap.
use Rattle.std.proofs.Common.{◌≡◌, ℕ, zero, suc, Bool, true, false, not, List, [], ◌∷◌, length, map, Option, Some, None, is_some, IsSome, IfSome, option_map, get_or, set, refl, sym, ap, ◌∙◌}
use Rattle.std.proofs.lemmas.List.{length-map}
use Rattle.heap_class.specs.declared.ObjKind.{ObjKind}
use Rattle.heap_region.specs.Regions.{Object, UsedRegion, cell_object}
use Rattle.heap_region.specs.Layout.{IsWholeRegion, changed_at, word_set, words_at, words_of}
use Rattle.heap_region.specs.Table.{free_class_of, first_in}
use Rattle.heap_region.specs.Turns.{turned_object, turned_back_object, turned_region, turned_back_region, turned_by, object_turned_by}
use Rattle.heap_region.specs.Quarters.{next_quarter, prior_quarter, since, is_zero}
use Rattle.heap_region.specs.Slots.{shown_slot}
use Rattle.heap_region.specs.declared.quarter.Quarter.{Quarter}
use Rattle.heap_region.specs.declared.quarter.Quarter.TheVariants.{Zero, One, Two, Three}
use Rattle.heap_region.specs.declared.slots.Slot.{Slot}
use Rattle.heap_region.specs.declared.slots.Slot.TheVariants.{Empty, Used}
use Rattle.heap_region.proofs.TurnedSlots.{turned_region_stays_whole, turned_back_region_stays_whole}

-- ---- four turns are none

pub bit_flipped_twice : (b : Bool) → not (not b) ≡ b
bit_flipped_twice true = refl
bit_flipped_twice false = refl

pub cells_turned_and_back : (cells : List (Option Object)) → map (option_map turned_back_object) (map (option_map turned_object) cells) ≡ cells
cells_turned_and_back [] = refl
cells_turned_and_back (None ∷ cells) = ap (λ (l : List (Option Object)). None ∷ l) (cells_turned_and_back cells)
cells_turned_and_back (Some o ∷ cells) = λ i. Some (record o { live = bit_flipped_twice o.live i }) ∷ cells_turned_and_back cells i

turned_back_cells_turned : (cells : List (Option Object)) → map (option_map turned_object) (map (option_map turned_back_object) cells) ≡ cells
turned_back_cells_turned [] = refl
turned_back_cells_turned (None ∷ cells) = ap (λ (l : List (Option Object)). None ∷ l) (turned_back_cells_turned cells)
turned_back_cells_turned (Some o ∷ cells) = λ i. Some (record o { mark = bit_flipped_twice o.mark i }) ∷ turned_back_cells_turned cells i

cells_turned_thrice : (cells : List (Option Object)) → map (option_map turned_object) (map (option_map turned_object) (map (option_map turned_object) cells)) ≡ map (option_map turned_back_object) cells
cells_turned_thrice [] = refl
cells_turned_thrice (None ∷ cells) = ap (λ (l : List (Option Object)). None ∷ l) (cells_turned_thrice cells)
cells_turned_thrice (Some o ∷ cells) = λ i. Some (record o { live = not o.mark; mark = bit_flipped_twice o.live i }) ∷ cells_turned_thrice cells i

cells_turned_back_twice : (cells : List (Option Object)) → map (option_map turned_back_object) (map (option_map turned_back_object) cells) ≡ map (option_map turned_object) (map (option_map turned_object) cells)
cells_turned_back_twice [] = refl
cells_turned_back_twice (None ∷ cells) = ap (λ (l : List (Option Object)). None ∷ l) (cells_turned_back_twice cells)
cells_turned_back_twice (Some o ∷ cells) = ap (λ (l : List (Option Object)). Some (turned_object (turned_object o)) ∷ l) (cells_turned_back_twice cells)

pub turned_once_more : (q : Quarter) (u : UsedRegion) → turned_region (turned_by q u) ≡ turned_by (next_quarter q) u
unfolding turned_by turned_region turned_back_region
turned_once_more Zero u = refl
turned_once_more One u = refl
turned_once_more Two u = λ i. record u { pending = not (bit_flipped_twice u.pending i); cells = cells_turned_thrice u.cells i }
turned_once_more Three u = λ i. record u { pending = bit_flipped_twice u.pending i; cells = turned_back_cells_turned u.cells i }

pub turned_once_less : (q : Quarter) (u : UsedRegion) → turned_back_region (turned_by q u) ≡ turned_by (prior_quarter q) u
unfolding turned_by turned_region turned_back_region
turned_once_less Zero u = refl
turned_once_less One u = λ i. record u { pending = bit_flipped_twice u.pending i; cells = cells_turned_and_back u.cells i }
turned_once_less Two u = λ i. record u { pending = not (bit_flipped_twice u.pending i); cells = cells_turned_and_back (map (option_map turned_object) u.cells) i }
turned_once_less Three u = λ i. record u { pending = not (not u.pending); cells = cells_turned_back_twice u.cells i }

-- ---- numbers of turns

prior_of_next : (t : Quarter) → prior_quarter (next_quarter t) ≡ next_quarter (prior_quarter t)
prior_of_next Zero = refl
prior_of_next One = refl
prior_of_next Two = refl
prior_of_next Three = refl

since_next : (t s : Quarter) → since (next_quarter t) s ≡ next_quarter (since t s)
since_next t Zero = refl
since_next t One = prior_of_next t
since_next t Two = refl
since_next t Three = refl

since_prior : (t s : Quarter) → since (prior_quarter t) s ≡ prior_quarter (since t s)
since_prior t Zero = refl
since_prior t One = refl
since_prior t Two = ap next_quarter (sym (prior_of_next t)) ∙ sym (prior_of_next (next_quarter t))
since_prior t Three = sym (prior_of_next t)

pub since_itself : (t : Quarter) → since t t ≡ Zero
since_itself Zero = refl
since_itself One = refl
since_itself Two = refl
since_itself Three = refl

pub no_turns_since : (t s : Quarter) → is_zero (since t s) ≡ true → t ≡ s
no_turns_since Zero Zero e = refl
no_turns_since One One e = refl
no_turns_since Two Two e = refl
no_turns_since Three Three e = refl
no_turns_since Zero One e = cc
no_turns_since Zero Two e = cc
no_turns_since Zero Three e = cc
no_turns_since One Zero e = cc
no_turns_since One Two e = cc
no_turns_since One Three e = cc
no_turns_since Two Zero e = cc
no_turns_since Two One e = cc
no_turns_since Two Three e = cc
no_turns_since Three Zero e = cc
no_turns_since Three One e = cc
no_turns_since Three Two e = cc

-- where no turns were missed
pub nothing_missed : (t s : Quarter) (u : UsedRegion) → is_zero (since t s) ≡ true → turned_by (since t s) u ≡ u
unfolding turned_by
nothing_missed t s u e = go (since t s) e
  where
    go : (q : Quarter) → is_zero q ≡ true → turned_by q u ≡ u
    go Zero e = refl
    go One e = cc
    go Two e = cc
    go Three e = cc

-- a region that was turned as far as the heap is shown as it is
pub settled_shows : (t : Quarter) (u : UsedRegion) → turned_by (since t t) u ≡ u
unfolding turned_by
settled_shows t u = ap (λ q. turned_by q u) (since_itself t)

-- ---- all regions

pub slots_turned : (t : Quarter) (slots : List Slot) → map (shown_slot (next_quarter t)) slots ≡ map (option_map turned_region) (map (shown_slot t) slots)
slots_turned t [] = refl
slots_turned t (Empty ∷ slots) = ap (λ (l : List (Option UsedRegion)). None ∷ l) (slots_turned t slots)
slots_turned t (Used s u ∷ slots) = λ i. Some ((ap (λ q. turned_by q u) (since_next t s) ∙ sym (turned_once_more (since t s) u)) i) ∷ slots_turned t slots i

pub slots_turned_back : (t : Quarter) (slots : List Slot) → map (shown_slot (prior_quarter t)) slots ≡ map (option_map turned_back_region) (map (shown_slot t) slots)
slots_turned_back t [] = refl
slots_turned_back t (Empty ∷ slots) = ap (λ (l : List (Option UsedRegion)). None ∷ l) (slots_turned_back t slots)
slots_turned_back t (Used s u ∷ slots) = λ i. Some ((ap (λ q. turned_by q u) (since_prior t s) ∙ sym (turned_once_less (since t s) u)) i) ∷ slots_turned_back t slots i

-- ---- one region

cell_of_mapped : (f : Object → Object) (cells : List (Option Object)) (cell : ℕ) → get_or (map (option_map f) cells) cell None ≡ option_map f (get_or cells cell None)
cell_of_mapped f [] cell = refl
cell_of_mapped f (x ∷ cells) zero = refl
cell_of_mapped f (x ∷ cells) (suc cell) = cell_of_mapped f cells cell

pub cell_of_turned : (q : Quarter) (u : UsedRegion) (cell : ℕ) → cell_object (turned_by q u) cell ≡ option_map (object_turned_by q) (cell_object u cell)
unfolding turned_by turned_region turned_back_region
cell_of_turned Zero u cell = go (cell_object u cell)
  where
    go : (x : Option Object) → x ≡ option_map (λ (o : Object). o) x
    go None = refl
    go (Some o) = refl
cell_of_turned One u cell = cell_of_mapped turned_object u.cells cell
cell_of_turned Two u cell = cell_of_mapped turned_object (map (option_map turned_object) u.cells) cell ∙ ap (option_map turned_object) (cell_of_mapped turned_object u.cells cell) ∙ go (cell_object u cell)
  where
    go : (x : Option Object) → option_map turned_object (option_map turned_object x) ≡ option_map (λ (o : Object). turned_object (turned_object o)) x
    go None = refl
    go (Some o) = refl
cell_of_turned Three u cell = cell_of_mapped turned_back_object u.cells cell

pub size_of_turned : (q : Quarter) (u : UsedRegion) → (turned_by q u).cell_size ≡ u.cell_size
unfolding turned_by turned_region turned_back_region
size_of_turned Zero u = refl
size_of_turned One u = refl
size_of_turned Two u = refl
size_of_turned Three u = refl

pub free_of_turned : (q : Quarter) (u : UsedRegion) → (turned_by q u).free ≡ u.free
unfolding turned_by turned_region turned_back_region
free_of_turned Zero u = refl
free_of_turned One u = refl
free_of_turned Two u = refl
free_of_turned Three u = refl

pub length_of_turned : (q : Quarter) (u : UsedRegion) → length (turned_by q u).cells ≡ length u.cells
unfolding turned_by turned_region turned_back_region
length_of_turned Zero u = refl
length_of_turned One u = length-map u.cells (option_map turned_object)
length_of_turned Two u = length-map (map (option_map turned_object) u.cells) (option_map turned_object) ∙ length-map u.cells (option_map turned_object)
length_of_turned Three u = length-map u.cells (option_map turned_back_object)

pub whole_turned : (q : Quarter) (u : UsedRegion) → IsWholeRegion u → IsWholeRegion (turned_by q u)
unfolding turned_by
whole_turned Zero u whole = whole
whole_turned One u whole = turned_region_stays_whole u whole
whole_turned Two u whole = turned_region_stays_whole (turned_region u) (turned_region_stays_whole u whole)
whole_turned Three u whole = turned_back_region_stays_whole u whole

pub object_there_whatever_turns : (q : Quarter) (u : UsedRegion) (cell : ℕ) → is_some (cell_object (turned_by q u) cell) ≡ is_some (cell_object u cell)
object_there_whatever_turns q u cell = ap is_some (cell_of_turned q u cell) ∙ go (cell_object u cell)
  where
    go : (x : Option Object) → is_some (option_map (object_turned_by q) x) ≡ is_some x
    go None = refl
    go (Some o) = refl

-- ---- what is read of a region that was turned less far

-- an object that is shown is kept
pub there_before_turns : (q : Quarter) (u : UsedRegion) (cell : ℕ) → IsSome (cell_object (turned_by q u) cell) → IsSome (cell_object u cell)
there_before_turns q u cell some = go (cell_object u cell) (rw (cell_of_turned q u cell) at some)
  where
    go : (x : Option Object) → IsSome (option_map (object_turned_by q) x) → IsSome x
    go None none = none
    go (Some o) is = refl

kind_kept_by_turns : (q : Quarter) (o : Object) → (object_turned_by q o).kind ≡ o.kind
kind_kept_by_turns Zero o = refl
kind_kept_by_turns One o = refl
kind_kept_by_turns Two o = refl
kind_kept_by_turns Three o = refl

words_kept : (q : Quarter) (o : Object) → (object_turned_by q o).words ≡ o.words
words_kept Zero o = refl
words_kept One o = refl
words_kept Two o = refl
words_kept Three o = refl

pub kind_of_turned : (q : Quarter) (u : UsedRegion) (cell : ℕ) (k : ObjKind) → IfSome (cell_object u cell) (λ o. k ≡ o.kind) → IfSome (cell_object (turned_by q u) cell) (λ o. k ≡ o.kind)
kind_of_turned q u cell k h = rw (cell_of_turned q u cell) (go (cell_object u cell) h)
  where
    go : (x : Option Object) → IfSome x (λ o. k ≡ o.kind) → IfSome (option_map (object_turned_by q) x) (λ o. k ≡ o.kind)
    go None h = tt
    go (Some o) h = h ∙ sym (kind_kept_by_turns q o)

pub words_of_turned : (q : Quarter) (u : UsedRegion) (cell : ℕ) → words_at (turned_by q u) cell ≡ words_at u cell
words_of_turned q u cell = ap words_of (cell_of_turned q u cell) ∙ go (cell_object u cell)
  where
    go : (x : Option Object) → words_of (option_map (object_turned_by q) x) ≡ words_of x
    go None = refl
    go (Some o) = words_kept q o

pub words_read_of_turned : (q : Quarter) (u : UsedRegion) (cell : ℕ) (ws : List ℕ) → IfSome (cell_object u cell) (λ o. ws ≡ o.words) → IfSome (cell_object (turned_by q u) cell) (λ o. ws ≡ o.words)
words_read_of_turned q u cell ws h = rw (cell_of_turned q u cell) (go (cell_object u cell) h)
  where
    go : (x : Option Object) → IfSome x (λ o. ws ≡ o.words) → IfSome (option_map (object_turned_by q) x) (λ o. ws ≡ o.words)
    go None h = tt
    go (Some o) h = h ∙ sym (words_kept q o)

abbrev HasBits : Bool × Bool → Object → Type 0
HasBits bits o = (bits.0 ≡ o.live) × (bits.1 ≡ o.mark)

pub bits_of_turned : (q : Quarter) (u : UsedRegion) (cell : ℕ) (bits r : Bool × Bool) → IfSome (cell_object u cell) (λ o. (bits.0 ≡ o.live) × (bits.1 ≡ o.mark)) → ((o : Object) → o.live ≡ bits.0 → o.mark ≡ bits.1 → (r.0 ≡ (object_turned_by q o).live) × (r.1 ≡ (object_turned_by q o).mark))
    → IfSome (cell_object (turned_by q u) cell) (λ o. (r.0 ≡ o.live) × (r.1 ≡ o.mark))
bits_of_turned q u cell bits r h turns = rw (cell_of_turned q u cell) (go (cell_object u cell) h)
  where
    go : (x : Option Object) → IfSome x (HasBits bits) → IfSome (option_map (object_turned_by q) x) (HasBits r)
    go None h = tt
    go (Some o) h = turns o (sym h.0) (sym h.1)

-- a free class
pub class_of_turned : (q : Quarter) (u : UsedRegion) → free_class_of (Some (turned_by q u)) ≡ free_class_of (Some u)
unfolding turned_by turned_region turned_back_region
class_of_turned Zero u = refl
class_of_turned One u = refl
class_of_turned Two u = refl
class_of_turned Three u = refl

pub first_of_turned : (q : Quarter) (u : UsedRegion) → first_in (Some (turned_by q u)) ≡ first_in (Some u)
unfolding turned_by turned_region turned_back_region
first_of_turned Zero u = refl
first_of_turned One u = refl
first_of_turned Two u = refl
first_of_turned Three u = refl

-- a word is written whatever the turns
word_in_mapped : (f : Object → Object) (cell slot value : ℕ) → ((o : Object) → f (word_set slot value o) ≡ word_set slot value (f o)) → (cells : List (Option Object)) → map (option_map f) (set cells cell (option_map (word_set slot value) (get_or cells cell None))) ≡ set (map (option_map f) cells) cell (option_map (word_set slot value) (get_or (map (option_map f) cells) cell None))
word_in_mapped f cell slot value swaps [] = refl
word_in_mapped f zero slot value swaps (x ∷ cells) = ap (λ (y : Option Object). y ∷ map (option_map f) cells) (go x)
  where
    go : (x : Option Object) → option_map f (option_map (word_set slot value) x) ≡ option_map (word_set slot value) (option_map f x)
    go None = refl
    go (Some o) = ap Some (swaps o)
word_in_mapped f (suc cell) slot value swaps (x ∷ cells) = ap (λ (l : List (Option Object)). option_map f x ∷ l) (word_in_mapped f cell slot value swaps cells)

word_in_turned : (u : UsedRegion) (cell slot value : ℕ) → turned_region (changed_at u cell (word_set slot value)) ≡ changed_at (turned_region u) cell (word_set slot value)
unfolding turned_region
word_in_turned u cell slot value = ap (λ (l : List (Option Object)). record u { cells = l; pending = not u.pending }) (word_in_mapped turned_object cell slot value (λ o. refl) u.cells)

pub word_set_in_turned : (q : Quarter) (u : UsedRegion) (cell slot value : ℕ) → turned_by q (changed_at u cell (word_set slot value)) ≡ changed_at (turned_by q u) cell (word_set slot value)
unfolding turned_by turned_back_region
word_set_in_turned Zero u cell slot value = refl
word_set_in_turned One u cell slot value = word_in_turned u cell slot value
word_set_in_turned Two u cell slot value = ap turned_region (word_in_turned u cell slot value) ∙ word_in_turned (turned_region u) cell slot value
word_set_in_turned Three u cell slot value = ap (λ (l : List (Option Object)). record u { cells = l; pending = not u.pending }) (word_in_mapped turned_back_object cell slot value (λ o. refl) u.cells)

-- ---- by call

-- what a storage is after it was settled
pub ruleset settling = (settled_shows, nothing_missed, no_turns_since)
