-- Where the paths start that start like none of some others: at a register, by a slot of what it names.
use Rattle.std.specs.Prelude.{◌≡◌, ◌+◌, ◌*◌, ◌/◌, ◌%◌, ◌<◌, ℕ, Bool, true, false, ◌==◌, ◌&&◌, if◌then◌else◌, List, [], ◌∷◌, length, map, slice_get, Option, Some, None, option_and_then, unwrap_or}
use Rattle.std.specs.Option.{option_map_or}
use Rattle.std.specs.List.{list_any, range_with_len}
use Rattle.hprof_text.specs.Image.{DumpedObject, Image}
use Rattle.heap_questions.specs.Graph.{named}
use Rattle.heap_questions.specs.PathsApart.{Route}
use Rattle.heap_questions.specs.Search.{slot_span, with_registers}
use Rattle.heap_questions.specs.declared.paths.Hop.{Hop}

-- the path is a register alone, and this one
abbrev pub starts_at : ℕ → Route → Bool
starts_at r p = (p.register == r) && (length p.slots == 0)

-- the path starts at this register by this slot
abbrev pub starts_by : ℕ → ℕ → Route → Bool
starts_by r s p = (p.register == r) && option_map_or (λ t. t == s) (slice_get p.slots 0) false

-- what slot s of what register r names names, unless one of the earlier paths starts so
abbrev pub start_names : Image → List Route → ℕ → ℕ → Option ℕ
start_names image earlier r s =
    if list_any (starts_by r s) earlier then None
    else option_and_then (λ y. named image y s) (slice_get image.registers r)

-- more than the id of each of these objects
abbrev pub beyond : List DumpedObject → ℕ
beyond [] = 0
beyond (o ∷ os) = o.id + 1 + beyond os

-- an id that no object has
abbrev pub no_id : Image → ℕ
no_id image = beyond image.objects

-- the starts have numbers: r times `slot_span` and s. What start i names
abbrev pub start_id : Image → List Route → ℕ → ℕ
start_id image earlier i =
    unwrap_or (start_names image earlier (i / slot_span) (i % slot_span)) (no_id image)

-- the image in whose registers is what each start names
abbrev pub with_starts : Image → List Route → Image
with_starts image earlier =
    let starts = range_with_len 0 (length image.registers * slot_span) in
    with_registers image (map (start_id image earlier) starts)

-- the step that start i is, which leads to y
abbrev pub first_hop : ℕ → ℕ → Hop
first_hop i y = record { slot = i % slot_span; to = y }

-- of the registers that name x and at which no earlier path of no slots starts, r is the first
pub record IsFirstFree (registers : List ℕ) (earlier : List Route) (x : ℕ) (r : ℕ) : Type 0 where
  pub names : slice_get registers r ≡ Some x
  pub free : list_any (starts_at r) earlier ≡ false
  pub first : (q : ℕ) → q < r → slice_get registers q ≡ Some x → list_any (starts_at q) earlier ≡ true

-- at each register that names x an earlier path of no slots starts
abbrev pub NoneIsFree : List ℕ → List Route → ℕ → Type 0
NoneIsFree registers earlier x =
    (q : ℕ) → slice_get registers q ≡ Some x → list_any (starts_at q) earlier ≡ true
