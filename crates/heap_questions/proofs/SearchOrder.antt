-- The order in which a search finds what it finds.
use Rattle.std.proofs.Common.{◌≡◌, ◌⊎◌, ℕ, ◌+◌, ◌<◌, Bool, false, List, [], ◌∷◌, ◌++◌, length, get_or, Some, sym, ap, ◌∙◌, subst, inl, inr, arith}
use Rattle.std.specs.Prelude.{slice_get}
use Rattle.std.proofs.lemmas.Option.{none-some, same_Some, slice_get_within}
use Rattle.std.proofs.lemmas.Bool.{true≢false}
use Rattle.heap_class.specs.declared.ObjRef.{ObjRef}
use Rattle.hprof_text.specs.Image.{Image}
use Rattle.heap_questions.specs.Graph.{HasId, named}
use Rattle.heap_questions.specs.Search.{AreNodes, Earlier, Found, HasAllRoots, HasChildren, HasRoots, IsFound, IsOfferedTo, IsOrdered, IsReachedBy, IsSearching, LeadsBy, Register, Slot, Via, node_with}
use Rattle.heap_questions.specs.declared.nodes.Node.{Node}
use Rattle.heap_questions.proofs.LongerLists.{got_cases, got_same}
use Rattle.heap_questions.proofs.NodePlaces.{object_found}

pub ordered_none : (image : Image) (next : Via) → IsOrdered image [] next
ordered_none image next = record {
  sorted = λ i j a b l h g. absurd (none-some a h);
  first = λ k f via h n. absurd (none-some f h);
  behind = λ k f h. absurd (none-some f h);
}

-- each way that is earlier than the first is earlier than the second
abbrev pub IsAfter : Via → Via → Type 0
IsAfter via next = (u : Via) → Earlier u via → Earlier u next

pub ordered_next : (image : Image) (queue : List Found) (via next : Via) → IsAfter via next → IsOrdered image queue via → IsOrdered image queue next
ordered_next image queue via next a o = record { sorted = o.sorted; first = o.first; behind = λ k f h. a f.via (o.behind k f h) }

-- each object to which an earlier way leads was found
abbrev pub AreLookedAt : Image → List Found → Via → Type 0
AreLookedAt image queue via = (u : Via) (y : ℕ) → Earlier u via → LeadsBy image queue u y → HasId image y → (d : ℕ) × IsFound queue y d

-- a way by a slot of the last in the queue is no earlier than one by what was there before
not_earlier : (image : Image) (queue : List Found) (x d s : ℕ) (via : Via) → IsReachedBy image queue x d via → ¬ Earlier (Slot s (length queue)) via
not_earlier image queue x d s (Register r) h e = e
not_earlier image queue x d s (Slot t p) h e =
    let l = slice_get_within queue p h.0 h.1 in
    elim e [ inl a ↦ absurd (omega (arith, a, l)) | inr a ↦ absurd (omega (arith, a.0, l)) ]

-- a way that leads to an object with one more in the queue led there before, or is by a slot of that one
led_before : (image : Image) (queue : List Found) (g : Found) (via : Via) (y : ℕ) → LeadsBy image (queue ++ g ∷ []) via y → LeadsBy image queue via y ⊎ ((s : ℕ) × (via ≡ Slot s (length queue)))
led_before image queue g (Register r) y h = inl h
led_before image queue g (Slot s p) y h = elim (got_cases queue g p h.0 h.1) [
  | inl e ↦ inl (h.0, e, h.2)
  | inr e ↦ inr (s, ap (λ q. Slot s q) e.0)
]

ordered_added : (image : Image) (places : List ObjRef) (nodes : List Node) (seen : List Bool) (queue : List Found) (head : ℕ) (g : Found) (next : Via) → AreNodes image places nodes → IsSearching image nodes seen queue head → IsOrdered image queue g.via → AreLookedAt image queue g.via
    → IsAfter g.via next → Earlier g.via next → IsReachedBy image queue g.id g.depth g.via → node_with nodes g.id ≡ Some g.node → get_or seen g.node false ≡ false → IsOrdered image (queue ++ g ∷ []) next
ordered_added image places nodes seen queue head g next n s o looked a e r there unseen = record { sorted = sorted; first = first; behind = behind }
  where
    sorted : (i j : ℕ) (b c : Found) → i < j → slice_get (queue ++ g ∷ []) i ≡ Some b → slice_get (queue ++ g ∷ []) j ≡ Some c → Earlier b.via c.via
    sorted i j b c l h k = elim (got_cases queue g j c k) [
      | inl q ↦ elim (got_cases queue g i b h) [
        | inl p ↦ o.sorted i j b c l p q
        | inr p ↦ absurd (omega (arith, p.0, l, slice_get_within queue j c q))
      ]
      | inr q ↦ elim (got_cases queue g i b h) [
        | inl p ↦ subst (λ (f : Found). Earlier b.via f.via) (sym q.1) (o.behind i b p)
        | inr p ↦ absurd (omega (arith, p.0, q.0, l))
      ]
    ]

    -- nothing in the queue has the new one's id
    fresh : (d : ℕ) × IsFound queue g.id d → ⊥
    fresh f =
        let k = f.1 in
        let same : k.1.node ≡ g.node = same_Some k.1.node g.node (sym (s.placed k.0 k.1 k.2) ∙ ap (node_with nodes) k.3 ∙ there) in
        true≢false (sym (s.found k.0 k.1 k.2) ∙ ap (λ j. get_or seen j false) same ∙ unseen)

    by_new : (via : Via) (d t : ℕ) (x : ℕ) (u : Via) → IsReachedBy image queue x d via → u ≡ Slot t (length queue) → ¬ Earlier u via
    by_new via d t x u h q l = not_earlier image queue x d t via h (subst (λ (w : Via). Earlier w via) q l)

    first : (k : ℕ) (f : Found) (via : Via) → slice_get (queue ++ g ∷ []) k ≡ Some f → LeadsBy image (queue ++ g ∷ []) via f.id → ¬ Earlier via f.via
    first k f via h m l = elim (got_cases queue g k f h) [
      | inl p ↦ elim (led_before image queue g via f.id m) [
        | inl b ↦ o.first k f via p b l
        | inr b ↦ by_new f.via f.depth b.0 f.id via (s.reached k f p) b.1 l
      ]
      | inr p ↦ first_new via (subst (λ (f : Found). LeadsBy image (queue ++ g ∷ []) via f.id) p.1 m) (subst (λ (f : Found). Earlier via f.via) p.1 l)
    ]
      where
        first_new : (via : Via) → LeadsBy image (queue ++ g ∷ []) via g.id → ¬ Earlier via g.via
        first_new via m l = elim (led_before image queue g via g.id m) [
          | inl b ↦ fresh (looked via g.id l b (object_found image places nodes g.id g.node n there))
          | inr b ↦ by_new g.via g.depth b.0 g.id via r b.1 l
        ]

    behind : (k : ℕ) (f : Found) → slice_get (queue ++ g ∷ []) k ≡ Some f → Earlier f.via next
    behind k f h = elim (got_cases queue g k f h) [
      | inl p ↦ a f.via (o.behind k f p)
      | inr p ↦ subst (λ (f : Found). Earlier f.via next) (sym p.1) e
    ]

-- an offer keeps the order
pub ordered_more : (image : Image) (places : List ObjRef) (nodes : List Node) (seen : List Bool) (queue : List Found) (head x d : ℕ) (via next : Via) (seen_after : List Bool) (new : List Found) → AreNodes image places nodes → IsSearching image nodes seen queue head
    → IsOrdered image queue via → AreLookedAt image queue via → IsAfter via next → Earlier via next → IsReachedBy image queue x d via → IsOfferedTo nodes x d via seen queue seen_after new → IsOrdered image new next
ordered_more image places nodes seen queue head x d via next seen_after new n s o looked a e r (inl f) = subst (λ (q : List Found). IsOrdered image q next) (sym f.1) (ordered_next image queue via next a o)
ordered_more image places nodes seen queue head x d via next seen_after new n s o looked a e r (inr f) =
    let g : Found = record { node = f.0; id = x; depth = d; via = via } in
    subst (λ (q : List Found). IsOrdered image q next) (sym f.4) (ordered_added image places nodes seen queue head g next n s o looked a e r f.1 f.2)

-- ---- register by register

pub next_register : (r : ℕ) → IsAfter (Register r) (Register (r + 1))
next_register r (Register q) l = omega (arith, l)
next_register r (Slot s p) l = absurd l

pub registers_first : (n : ℕ) → IsAfter (Register n) (Slot 0 0)
registers_first n (Register q) l = tt
registers_first n (Slot s p) l = absurd l

pub registers_looked_at : (image : Image) (queue : List Found) (r : ℕ) → HasRoots image queue r → AreLookedAt image queue (Register r)
registers_looked_at image queue r h (Register q) y l e o = (0, h q y l e o)
registers_looked_at image queue r h (Slot s p) y l e o = absurd l

-- ---- slot by slot

pub next_slot : (head slot : ℕ) → IsAfter (Slot slot head) (Slot (slot + 1) head)
next_slot head slot (Register q) l = tt
next_slot head slot (Slot s p) l = elim l [ inl a ↦ inl a | inr a ↦ inr (a.0, omega (arith, a.1)) ]

pub next_head : (head slot : ℕ) → IsAfter (Slot slot head) (Slot 0 (head + 1))
next_head head slot (Register q) l = tt
next_head head slot (Slot s p) l = elim l [ inl a ↦ inl (omega (arith, a)) | inr a ↦ inl (omega (arith, a.0)) ]

pub slots_looked_at : (image : Image) (nodes : List Node) (seen : List Bool) (queue : List Found) (head slot : ℕ) (f : Found) → IsSearching image nodes seen queue head → HasAllRoots image queue → slice_get queue head ≡ Some f → HasChildren image queue f.id slot (f.depth + 1)
    → AreLookedAt image queue (Slot slot head)
slots_looked_at image nodes seen queue head slot f s roots here children (Register q) y l e o = (0, roots q y (slice_get_within image.registers q y e) e o)
slots_looked_at image nodes seen queue head slot f s roots here children (Slot t p) y l e o = elim l [
  | inl a ↦ (e.0.depth + 1, s.closed p e.0 a e.1 t y e.2 o)
  | inr a ↦
      let same : e.0 ≡ f = got_same queue head e.0 f (ap (slice_get queue) (sym a.0) ∙ e.1) here in
      (f.depth + 1, children t y a.1 (ap (λ (f : Found). named image f.id t) (sym same) ∙ e.2) o)
]
