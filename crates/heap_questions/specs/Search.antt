-- A search along references, breadth first.
use Rattle.std.specs.Prelude.{◌≡◌, ◌⊎◌, ◌+◌, ◌*◌, ◌/◌, ◌≤◌, ◌<◌, ℕ, Bool, true, false, ◌==◌, List, [], ◌∷◌, ◌++◌, length, map, slice_get, slice_index_or, slice_set, Option, Some, count_by, option_and_then}
use Rattle.std.specs.Option.{option_map_or}
use Rattle.std.specs.List.{position}
use Rattle.heap_class.specs.declared.ObjRef.{ObjRef}
use Rattle.heap_class.specs.Classes.{Class}
use Rattle.heap_region.specs.Limits.{region_limit, region_words}
use Rattle.hprof_text.specs.Image.{Image, DumpedObject, register_limit}
use Rattle.heap_questions.specs.Graph.{HasId, named, followed, slot_names}
use Rattle.heap_questions.specs.declared.nodes.Node.{Node}
use Rattle.heap_questions.specs.declared.search.Entry.{Entry}

-- how an object was found: by a register, or by a slot of what stands at a place of the queue
pub data Via : Type 0 where
  Register : (r : ℕ) → Via
  Slot : (s parent : ℕ) → Via

-- an object that was found: its node, its id, how many slots lead to it, and the last of them
pub record Found : Type 0 where
  pub node : ℕ
  pub id : ℕ
  pub depth : ℕ
  pub via : Via

-- more than an object has slots
abbrev pub slot_span : ℕ
slot_span = 2097152

-- the most registers that a search may begin at: for each of an image one for each slot of what it names
abbrev pub source_limit : ℕ
source_limit = register_limit * slot_span

-- what the queue keeps of the way to an object: its register, or behind all registers the place of what names it
abbrev pub from_via : Via → ℕ
from_via (Register r) = r
from_via (Slot s parent) = source_limit + parent

abbrev pub entry_of : Found → Entry
entry_of f = record { node = f.node; from = from_via f.via }

-- the entries are what is kept of what was found
abbrev pub AreEntries : List Entry → List Found → Type 0
AreEntries entries queue = entries ≡ map entry_of queue

-- the nodes are the objects of the image, with their places
pub record AreNodes (image : Image) (places : List ObjRef) (nodes : List Node) : Type 0 where
  pub ids : map (λ n. n.id) nodes ≡ map (λ o. o.id) image.objects
  pub placed : map (λ n. n.at) nodes ≡ places

-- the most hints: one for each 64 steps from the first id on, up to the number of words of the largest heap
abbrev pub hint_limit : ℕ
hint_limit = region_limit * region_words / 64 + 1

-- no node has a smaller id than one before it
abbrev pub AreRising : List Node → Type 0
AreRising nodes =
    (i j : ℕ) (a b : Node) → i ≤ j → slice_get nodes i ≡ Some a → slice_get nodes j ≡ Some b
    → a.id ≤ b.id

-- the nodes before place p have ids smaller than x
abbrev pub AreSmallerBefore : List Node → ℕ → ℕ → Type 0
AreSmallerBefore nodes p x = (k : ℕ) (n : Node) → k < p → slice_get nodes k ≡ Some n → n.id < x

-- the nodes from place p on have ids of at least x
abbrev pub AreFrom : List Node → ℕ → ℕ → Type 0
AreFrom nodes p x = (k : ℕ) (n : Node) → p ≤ k → slice_get nodes k ≡ Some n → x ≤ n.id

-- the node with this id, the first if there are several
abbrev pub node_with : List Node → ℕ → Option ℕ
node_with nodes x = position (λ n. n.id == x) nodes

-- x was found at most d steps from a register
abbrev pub IsFound : List Found → ℕ → ℕ → Type 0
IsFound queue x d =
    (k : ℕ) × (f : Found) × (slice_get queue k ≡ Some f) × (f.id ≡ x) × (f.depth ≤ d)

-- so it was reached: by a register, or by a slot of what was found before
abbrev pub IsReachedBy : Image → List Found → ℕ → ℕ → Via → Type 0
IsReachedBy image queue x d (Register r) = (d ≡ 0) × (slice_get image.registers r ≡ Some x)
IsReachedBy image queue x d (Slot s parent) =
    (p : Found) × (slice_get queue parent ≡ Some p) × (d ≡ p.depth + 1)
    × (named image p.id s ≡ Some x)

-- so was what stands in the queue
abbrev pub IsReached : Image → List Found → Found → Type 0
IsReached image queue f = IsReachedBy image queue f.id f.depth f.via

-- each object that a register names was found at once
abbrev pub HasRoots : Image → List Found → ℕ → Type 0
HasRoots image queue n =
    (r y : ℕ) → r < n → slice_get image.registers r ≡ Some y → HasId image y → IsFound queue y 0

-- each object that any register names was
abbrev pub HasAllRoots : Image → List Found → Type 0
HasAllRoots image queue = HasRoots image queue (length image.registers)

-- each object that one of the first n slots of x names was found at most d steps from a register
abbrev pub HasChildren : Image → List Found → ℕ → ℕ → ℕ → Type 0
HasChildren image queue x n d =
    (s y : ℕ) → s < n → named image x s ≡ Some y → HasId image y → IsFound queue y d

-- each object that a slot of x names was
abbrev pub HasAllChildren : Image → List Found → ℕ → ℕ → Type 0
HasAllChildren image queue x d =
    (s y : ℕ) → named image x s ≡ Some y → HasId image y → IsFound queue y d

-- what has been found is in the order of its depths
abbrev pub IsRising : List Found → Type 0
IsRising queue =
    (i j : ℕ) (a b : Found) → i ≤ j → slice_get queue i ≡ Some a → slice_get queue j ≡ Some b
    → a.depth ≤ b.depth

-- nothing found is deeper than d
abbrev pub IsWithin : List Found → ℕ → Type 0
IsWithin queue d = (k : ℕ) (f : Found) → slice_get queue k ≡ Some f → f.depth ≤ d

-- a search that has looked at the slots of the first `head` objects found
pub record IsSearching (image : Image) (nodes : List Node) (seen : List Bool) (queue : List Found)
    (head : ℕ) : Type 0 where
  pub reached : (k : ℕ) (f : Found) → slice_get queue k ≡ Some f → IsReached image queue f
  pub placed : (k : ℕ) (f : Found) → slice_get queue k ≡ Some f → node_with nodes f.id ≡ Some f.node
  pub early : (k : ℕ) (f : Found) → slice_get queue k ≡ Some f → f.depth ≤ k
  pub rising : IsRising queue
  pub marked : (j : ℕ) → slice_index_or seen j false ≡ true
      → (k : ℕ) × (f : Found) × (slice_get queue k ≡ Some f) × (f.node ≡ j)
  pub found : (k : ℕ) (f : Found) → slice_get queue k ≡ Some f
      → slice_index_or seen f.node false ≡ true
  pub as_many : length seen ≡ length nodes
  pub counted : count_by (λ b. b) seen ≡ length queue
  pub closed : (k : ℕ) (f : Found) → k < head → slice_get queue k ≡ Some f
      → HasAllChildren image queue f.id (f.depth + 1)

-- x was offered to a search and skipped: it is no object, or was found before
abbrev pub IsPassedOver : {X : Type 0} → List Node → ℕ → List Bool → List X → List Bool → List X → Type 0
IsPassedOver nodes x seen queue seen_after queue_after =
    (seen_after ≡ seen) × (queue_after ≡ queue)
    × ((j : ℕ) → node_with nodes x ≡ Some j → slice_index_or seen j false ≡ true)

-- x was offered to a search, and its node was added behind what was found before
abbrev pub IsFoundNow : {X : Type 0} → List Node → ℕ → (ℕ → X) → List Bool → List X → List Bool → List X → Type 0
IsFoundNow nodes x item seen queue seen_after queue_after =
    (j : ℕ) × (node_with nodes x ≡ Some j) × (slice_index_or seen j false ≡ false)
    × (seen_after ≡ slice_set seen j true) × (queue_after ≡ queue ++ item j ∷ [])

-- x was offered to a search: it was skipped or added
abbrev pub IsAddedTo : {X : Type 0} → List Node → ℕ → (ℕ → X) → List Bool → List X → List Bool → List X → Type 0
IsAddedTo nodes x item seen queue seen_after queue_after =
    IsPassedOver nodes x seen queue seen_after queue_after
    ⊎ IsFoundNow nodes x item seen queue seen_after queue_after

-- so it was as an entry of the queue
abbrev pub IsEnteredIn : List Node → ℕ → ℕ → List Bool → List Entry → List Bool → List Entry → Type 0
IsEnteredIn nodes x from =
    let item : ℕ → Entry = λ j. record { node = j; from = from } in IsAddedTo nodes x item

-- so it was as what was found at depth d
abbrev pub IsOfferedTo : List Node → ℕ → ℕ → Via → List Bool → List Found → List Bool → List Found
    → Type 0
IsOfferedTo nodes x d via =
    let item : ℕ → Found = λ j. record { node = j; id = x; depth = d; via = via } in
    IsAddedTo nodes x item

-- what registers reach by fewer than d slots has been found, each object at its least depth
pub record IsSearchedTo (image : Image) (queue : List Found) (d : ℕ) : Type 0 where
  pub reached : (k : ℕ) (f : Found) → slice_get queue k ≡ Some f → IsReached image queue f
  pub objects : (k : ℕ) (f : Found) → slice_get queue k ≡ Some f → HasId image f.id
  pub rising : IsRising queue
  pub roots : (r y : ℕ) → slice_get image.registers r ≡ Some y → HasId image y → IsFound queue y 0
  pub closed : (k : ℕ) (f : Found) → f.depth + 1 < d → slice_get queue k ≡ Some f
      → HasAllChildren image queue f.id (f.depth + 1)

-- all that registers reach has been found
abbrev pub IsSearched : Image → List Found → Type 0
IsSearched image queue = (d : ℕ) → IsSearchedTo image queue d

-- node `goal` was found no less than d slots deep, if it was
abbrev pub IsNoHigher : List Found → ℕ → ℕ → Type 0
IsNoHigher queue goal d =
    (k : ℕ) (f : Found) → slice_get queue k ≡ Some f → f.node ≡ goal → d ≤ f.depth

-- each object found was reached
abbrev pub AreReached : Image → List Found → Type 0
AreReached image queue = (k : ℕ) (f : Found) → slice_get queue k ≡ Some f → IsReached image queue f

-- nothing found is more than one step deeper than what is looked at next
abbrev pub IsNear : List Found → ℕ → Type 0
IsNear queue head = (h : Found) → slice_get queue head ≡ Some h → IsWithin queue (h.depth + 1)

-- register r names an object from which these slots lead to what was found, and they are as many as its depth
abbrev pub IsTraced : Image → ℕ → List ℕ → Found → Type 0
IsTraced image r slots f =
    (option_and_then (λ y. followed image y slots) (slice_get image.registers r) ≡ Some f.id)
    × (length slots ≡ f.depth)

-- the marks are those of the nodes that stand in the queue
pub record AreSeen (nodes : List Node) (seen : List Bool) (queue : List Found) : Type 0 where
  pub placed : (k : ℕ) (f : Found) → slice_get queue k ≡ Some f → node_with nodes f.id ≡ Some f.node
  pub marked : (j : ℕ) → slice_index_or seen j false ≡ true
      → (k : ℕ) × (f : Found) × (slice_get queue k ≡ Some f) × (f.node ≡ j)
  pub found : (k : ℕ) (f : Found) → slice_get queue k ≡ Some f
      → slice_index_or seen f.node false ≡ true
  pub as_many : length seen ≡ length nodes

-- ---- the order of a search

-- the first way to an object is looked at before the second
abbrev pub Earlier : Via → Via → Type 0
Earlier (Register q) (Register r) = q < r
Earlier (Register q) (Slot s p) = Unit {0}
Earlier (Slot s p) (Register r) = ⊥
Earlier (Slot s p) (Slot t q) = (p < q) ⊎ ((p ≡ q) × (s < t))

-- this way leads to x: by a register, or by a slot of what stands in the queue
abbrev pub LeadsBy : Image → List Found → Via → ℕ → Type 0
LeadsBy image queue (Register r) x = slice_get image.registers r ≡ Some x
LeadsBy image queue (Slot s p) x =
    (g : Found) × (slice_get queue p ≡ Some g) × (named image g.id s ≡ Some x)

-- the queue is in the order of the ways to what was found, each is the first to it, and all are looked at before this one
pub record IsOrdered (image : Image) (queue : List Found) (next : Via) : Type 0 where
  pub sorted : (i j : ℕ) (a b : Found) → i < j → slice_get queue i ≡ Some a
      → slice_get queue j ≡ Some b → Earlier a.via b.via
  pub first : (k : ℕ) (f : Found) (via : Via) → slice_get queue k ≡ Some f
      → LeadsBy image queue via f.id → ¬ Earlier via f.via
  pub behind : (k : ℕ) (f : Found) → slice_get queue k ≡ Some f → Earlier f.via next

-- so is a queue whose search has ended
abbrev pub HasSearchOrder : Image → List Found → Type 0
HasSearchOrder image queue = (next : Via) × IsOrdered image queue next

-- register r and these slots, the last first, are the way on which what stands at place k of the queue was found
abbrev pub IsWayBack : List Found → ℕ → ℕ → List ℕ → Type 0
IsWayBack queue k r [] = (f : Found) × (slice_get queue k ≡ Some f) × (f.via ≡ Register r)
IsWayBack queue k r (s ∷ back) =
    (f : Found) × (p : ℕ) × (slice_get queue k ≡ Some f) × (f.via ≡ Slot s p)
    × IsWayBack queue p r back

-- ---- what a search leaves

-- the queue was found, in this order, and these are its entries
pub record IsQueueOf (image : Image) (nodes : List Node) (entries : List Entry)
    (queue : List Found) : Type 0 where
  pub kept : AreEntries entries queue
  pub few : length image.registers ≤ source_limit
  pub reached : AreReached image queue
  pub placed : (k : ℕ) (f : Found) → slice_get queue k ≡ Some f → node_with nodes f.id ≡ Some f.node
  pub rising : IsRising queue
  pub ordered : HasSearchOrder image queue

-- a search that has looked at all registers, and at the slots of the first `head` entries
pub record IsSearch (image : Image) (nodes : List Node) (seen : List Bool) (entries : List Entry)
    (head : ℕ) : Type 0 where
  pub queue : List Found
  pub kept : AreEntries entries queue
  pub search : IsSearching image nodes seen queue head
  pub near : IsNear queue head
  pub roots : HasAllRoots image queue
  pub ordered : IsOrdered image queue (Slot 0 head)
  pub within : head ≤ length queue

-- a search that has looked at the first n registers, and found this
pub record IsRooting (image : Image) (nodes : List Node) (seen : List Bool) (queue : List Found)
    (n : ℕ) : Type 0 where
  pub search : IsSearching image nodes seen queue 0
  pub within : IsWithin queue 0
  pub roots : HasRoots image queue n
  pub ordered : IsOrdered image queue (Register n)

-- these are its entries
pub record IsBeginning (image : Image) (nodes : List Node) (seen : List Bool) (entries : List Entry)
    (n : ℕ) : Type 0 where
  pub queue : List Found
  pub kept : AreEntries entries queue
  pub rooting : IsRooting image nodes seen queue n

-- register r names the object of node j
abbrev pub IsNodeOfRegister : Image → List Node → ℕ → ℕ → Type 0
IsNodeOfRegister image nodes r j =
    (x : ℕ) × (slice_get image.registers r ≡ Some x) × (node_with nodes x ≡ Some j)

-- the classes and objects of the image, and these registers
abbrev pub with_registers : Image → List ℕ → Image
with_registers image registers =
    record { classes = image.classes; registers = registers; objects = image.objects }

-- these are the marks and entries of a search from some registers
abbrev pub IsSearchFromSome : Image → List Node → List Bool → List Entry → ℕ → Type 0
IsSearchFromSome image nodes seen entries head =
    (registers : List ℕ) × IsSearch (with_registers image registers) nodes seen entries head

-- from whichever registers the search was, it has looked at the slots of one entry more
abbrev pub IsOneFurther : Image → List Node → List Bool → List Entry → List Bool → List Entry → ℕ
    → Type 0
IsOneFurther image nodes seen entries seen_after entries_after head =
    (registers : List ℕ) → IsSearch (with_registers image registers) nodes seen entries head
    → IsSearch (with_registers image registers) nodes seen_after entries_after (head + 1)

-- the marks are those of all that registers reach
pub record AreAllSeen (image : Image) (nodes : List Node) (seen : List Bool) : Type 0 where
  pub queue : List Found
  pub searched : IsSearched image queue
  pub marked : AreSeen nodes seen queue

-- a node was found, by the marks; none is not
abbrev pub is_found : List Bool → Option ℕ → Bool
is_found seen node = option_map_or (λ j. slice_index_or seen j false) node false

-- a search has looked at all entries, or has found its goal
abbrev pub HasEnded : List Bool → List Entry → ℕ → Option ℕ → Type 0
HasEnded seen entries head goal = (length entries ≤ head) ⊎ (is_found seen goal ≡ true)

-- a search that has ended
pub record IsEndedSearch (image : Image) (nodes : List Node) (seen : List Bool) (entries : List Entry)
    (goal : Option ℕ) : Type 0 where
  pub head : ℕ
  pub search : IsSearch image nodes seen entries head
  pub ended : HasEnded seen entries head goal

-- from whichever registers the search was, it has ended
abbrev pub HasGoneOn : Image → List Node → List Bool → List Entry → List Bool → List Entry → Option ℕ
    → Type 0
HasGoneOn image nodes seen entries seen_after entries_after goal =
    (registers : List ℕ) → IsSearch (with_registers image registers) nodes seen entries 0
    → IsEndedSearch (with_registers image registers) nodes seen_after entries_after goal

-- the entries are those of a search that may have ended once node `goal` was found
pub record HasSearchedFor (image : Image) (nodes : List Node) (entries : List Entry) (goal : ℕ)
    : Type 0 where
  pub queue : List Found
  pub found : IsQueueOf image nodes entries queue
  pub searched : (d : ℕ) → IsNoHigher queue goal d → IsSearchedTo image queue d

-- if a slot of the object names x, then this is the first
abbrev pub IsFirstSlotTo : List Class → DumpedObject → ℕ → ℕ → Type 0
IsFirstSlotTo classes o x s =
    (t : ℕ) → slot_names classes o t ≡ Some x → (slot_names classes o s ≡ Some x) × (s ≤ t)

-- if a slot of node j's object names node k's object, then this is the first
abbrev pub IsFirstNaming : Image → List Node → ℕ → ℕ → ℕ → Type 0
IsFirstNaming image nodes j k s =
    (x y t : ℕ) → node_with nodes x ≡ Some j → node_with nodes y ≡ Some k → named image x t ≡ Some y
    → (named image x s ≡ Some y) × (s ≤ t)
