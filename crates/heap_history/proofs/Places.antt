-- A block with an entry more.
use Rattle.std.proofs.Common.{◌≡◌, ℕ, ◌<◌, ◌≤◌, zero, suc, Bool, true, false, List, [], ◌∷◌, ◌++◌, length, length-append, map, get_or, refl, sym, ap, subst, ◌∙◌, arith}
use Rattle.std.specs.Prelude.{◌≢◌, ◌↔◌, IsTrue, Option, Some, None, slice_get, vec_len}
use Rattle.std.specs.Option.{option_map}
use Rattle.std.specs.Global.{Vec}
use Rattle.std.specs.Vec.{vec_capacity}
use Rattle.std.proofs.lemmas.List.{length-map, map-append}
use Rattle.std.proofs.lemmas.Option.{slice_get-get_or, slice_get-map, slice_get_past, slice_get_read}
use Rattle.heap_history.specs.declared.entry.Entry.{Entry}
use Rattle.heap_history.specs.declared.pack.Form.{Form}
use Rattle.heap_history.specs.declared.pack.Form.TheVariants.{Numbers, Long, Nothing}
use Rattle.heap_history.specs.declared.pack.Pack.{Pack}
use Rattle.heap_history.specs.declared.pack.LongPack.{LongPack}
use Rattle.heap_history.specs.Packs.{entry_as, entry_by, entry_in, long_entry}
use Rattle.heap_history.specs.Blocks.{HasPlace, AllPlaced, entries_in, room_in}
use Rattle.heap_history.proofs.Gets.{item_after_list_is_last, item_of_left_list}

pub pack_and_long_have_room : (longs : Vec LongPack) (packs : Vec Pack) → 0 < room_in longs packs → (vec_len packs < vec_capacity packs) × (vec_len longs < vec_capacity longs)
pack_and_long_have_room longs packs h = (omega arith, omega arith)

-- a long pack more leaves the others as they were
long_pack_more_keeps_form : (f : Form) (longs : List LongPack) (w : LongPack) (p : Pack) → (f ≡ Long → p.first < length longs) → entry_as f (longs ++ w ∷ []) p ≡ entry_as f longs p
long_pack_more_keeps_form Numbers longs w p h = refl
long_pack_more_keeps_form Long longs w p h = ap (option_map long_entry) (item_of_left_list p.first longs (w ∷ []) (h refl))
long_pack_more_keeps_form Nothing longs w p h = refl

long_pack_more_keeps_entry : (longs : List LongPack) (w : LongPack) (p : Pack) → HasPlace (length longs) p → entry_in (longs ++ w ∷ []) p ≡ entry_in longs p
unfolding entry_in
long_pack_more_keeps_entry longs w p h = long_pack_more_keeps_form p.form longs w p h

long_pack_more_keeps_entries : (longs : List LongPack) (w : LongPack) (ps : List Pack) → AllPlaced (length longs) ps → map (entry_in (longs ++ w ∷ [])) ps ≡ map (entry_in longs) ps
long_pack_more_keeps_entries longs w [] h = refl
long_pack_more_keeps_entries longs w (p ∷ ps) h = λ i. long_pack_more_keeps_entry longs w p h.0 i ∷ long_pack_more_keeps_entries longs w ps h.1 i

-- ---- the entry of a pack, by its form

pub number_pack_tells_entry : (longs : List LongPack) (p : Pack) → p.form ≡ Numbers → entry_in longs p ≡ Some (entry_by p)
unfolding entry_in
number_pack_tells_entry longs p h = ap (λ (f : Form). entry_as f longs p) h

pub long_pack_tells_entry : (longs : List LongPack) (p : Pack) (w : LongPack) → p.form ≡ Long → slice_get longs p.first ≡ Some w → entry_in longs p ≡ Some (long_entry w)
unfolding entry_in
long_pack_tells_entry longs p w h is = ap (λ (f : Form). entry_as f longs p) h ∙ ap (option_map long_entry) is

pub empty_pack_tells_none : (longs : List LongPack) (p : Pack) → p.form ≡ Nothing → entry_in longs p ≡ None
unfolding entry_in
empty_pack_tells_none longs p h = ap (λ (f : Form). entry_as f longs p) h

tells_by_form : (f : Form) (longs : List LongPack) (p : Pack) → f ≢ Nothing → (f ≡ Long → p.first < length longs) → entry_as f longs p ≢ None
tells_by_form Numbers longs p some h = λ e. absurd (cc)
tells_by_form Long longs p some h = λ e. there longs p.first (h refl) e
  where
    there : (ws : List LongPack) (n : ℕ) → n < length ws → option_map long_entry (slice_get ws n) ≡ None → ⊥
    there [] n lt e = omega (arith, lt)
    there (w ∷ ws) zero lt e = let no : Some (long_entry w) ≡ None = e in cc
    there (w ∷ ws) (suc n) lt e = there ws n (omega (arith, lt)) e
tells_by_form Nothing longs p some h = absurd (some refl)

pub filled_pack_tells_some_entry : (longs : List LongPack) (p : Pack) → p.form ≢ Nothing → HasPlace (length longs) p → entry_in longs p ≢ None
unfolding entry_in
filled_pack_tells_some_entry longs p some h = tells_by_form p.form longs p some h

-- ---- places

pub placed_push : (n : ℕ) (ps : List Pack) (p : Pack) → AllPlaced n ps → HasPlace n p → AllPlaced n (ps ++ p ∷ [])
placed_push n [] p all h = (h, tt)
placed_push n (q ∷ ps) p all h = (all.0, placed_push n ps p all.1 h)

packs_placed_under_more_long_packs : (n m : ℕ) (ps : List Pack) → n ≤ m → AllPlaced n ps → AllPlaced m ps
packs_placed_under_more_long_packs n m [] le all = tt
packs_placed_under_more_long_packs n m (q ∷ ps) le all = (λ h. omega (arith, all.0 h, le), packs_placed_under_more_long_packs n m ps le all.1)

pub number_pack_added_is_placed : (n : ℕ) (ps : List Pack) (p : Pack) → AllPlaced n ps → p.form ≡ Numbers → AllPlaced n (ps ++ p ∷ [])
number_pack_added_is_placed n ps p all is = placed_push n ps p all (λ h. let no : Numbers ≡ Long = sym is ∙ h in absurd (cc))

pub empty_pack_added_is_placed : (n : ℕ) (ps : List Pack) (p : Pack) → AllPlaced n ps → p.form ≡ Nothing → AllPlaced n (ps ++ p ∷ [])
empty_pack_added_is_placed n ps p all is = placed_push n ps p all (λ h. let no : Nothing ≡ Long = sym is ∙ h in absurd (cc))

pub long_pack_added_is_placed : (longs : List LongPack) (ps : List Pack) (p : Pack) (w : LongPack) → AllPlaced (length longs) ps → p.first ≡ length longs → AllPlaced (length (longs ++ w ∷ [])) (ps ++ p ∷ [])
long_pack_added_is_placed longs ps p w all at = placed_push _ ps p (packs_placed_under_more_long_packs (length longs) _ ps (omega (arith, length-append longs (w ∷ []))) all) (λ _. omega (arith, at, length-append longs (w ∷ [])))

pub pack_at_index_is_placed : (n : ℕ) (ps : List Pack) (at : ℕ) (p : Pack) → AllPlaced n ps → at < length ps → p ≡ get_or ps at p → HasPlace n p
pack_at_index_is_placed n [] at p all lt is = absurd (omega (arith, lt))
pack_at_index_is_placed n (q ∷ ps) zero p all lt is = subst (HasPlace n) (sym is) all.0
pack_at_index_is_placed n (q ∷ ps) (suc k) p all lt is = pack_at_index_is_placed n ps k p all.1 (omega (arith, lt)) is

-- ---- one entry more

pub entry_of_one_pack_more : (longs : List LongPack) (ps : List Pack) (p : Pack) (o : Option Entry) → entry_in longs p ≡ o → entries_in longs (ps ++ p ∷ []) ≡ entries_in longs ps ++ o ∷ []
unfolding entries_in
entry_of_one_pack_more longs ps p o is = map-append (entry_in longs) ps (p ∷ []) ∙ ap (λ x. map (entry_in longs) ps ++ x ∷ []) is

-- one more, by its place
pub entry_of_one_long_more : (longs : List LongPack) (ps : List Pack) (p : Pack) (w : LongPack) → AllPlaced (length longs) ps → p.form ≡ Long → p.first ≡ length longs → entries_in (longs ++ w ∷ []) (ps ++ p ∷ []) ≡ entries_in longs ps ++ Some (long_entry w) ∷ []
unfolding entries_in
entry_of_one_long_more longs ps p w all is at =
    map-append (entry_in (longs ++ w ∷ [])) ps (p ∷ [])
    ∙ (λ i. long_pack_more_keeps_entries longs w ps all i ++ long_pack_tells_entry (longs ++ w ∷ []) p w is (item_after_list_is_last p.first longs w at) i ∷ [])

-- ---- the entry at an index

pub entry_at_pack_index : (longs : List LongPack) (ps : List Pack) (at : ℕ) (p : Pack) → at < length ps → p ≡ get_or ps at p → slice_get (entries_in longs ps) at ≡ Some (entry_in longs p)
unfolding entries_in
entry_at_pack_index longs ps at p lt is = slice_get-map (entry_in longs) ps at ∙ ap (option_map (entry_in longs)) (slice_get_read ps (length ps) at p refl lt is)

pub no_entry_past_packs : (longs : List LongPack) (ps : List Pack) (at : ℕ) → length ps ≤ at → slice_get (entries_in longs ps) at ≡ None
unfolding entries_in
no_entry_past_packs longs ps at le = slice_get_past (map (entry_in longs) ps) at (omega (arith, length-map ps (entry_in longs), le))

-- what is so of the entry of the pack is so of that at its index
pub pack_entry_told_at_index : (b : Bool) (o : Option (Option Entry)) (x : Option Entry) (e : Entry) → o ≡ Some x → (x ≢ None) × (IsTrue b ↔ (x ≡ Some e)) → (o ≢ Some None) × (IsTrue b ↔ (o ≡ Some (Some e)))
pack_entry_told_at_index b o x e is h = (
  (λ q. h.0 (let s : Some x ≡ Some None = sym is ∙ q in cc)),
  ((λ t. is ∙ ap Some (h.1.0 t)), (λ q. h.1.1 (let s : Some x ≡ Some (Some e) = sym is ∙ q in cc))),
)

pub missing_is_not_forgotten : (o : Option (Option Entry)) → o ≡ None → o ≢ Some None
missing_is_not_forgotten o is = λ q. let s : None ≡ Some None = sym is ∙ q in absurd (cc)

-- the pack's entry, if there is one
pub pack_entry_told_if_some : (o : Option Entry) (x e : Entry) (b : Bool) → o ≡ Some x → IsTrue b ↔ (x ≡ e) → (o ≢ None) × (IsTrue b ↔ (o ≡ Some e))
pack_entry_told_if_some o x e b is h = (
  (λ q. let s : Some x ≡ None = sym is ∙ q in absurd (cc)),
  ((λ t. is ∙ ap Some (h.0 t)), (λ q. h.1 (let s : Some x ≡ Some e = sym is ∙ q in cc))),
)

pub long_entry_told_at_place : (longs : List LongPack) (p : Pack) (d : LongPack) (e : Entry) (b : Bool) → p.form ≡ Long → p.first < length longs → IsTrue b ↔ (long_entry (get_or longs p.first d) ≡ e)
    → (entry_in longs p ≢ None) × (IsTrue b ↔ (entry_in longs p ≡ Some e))
long_entry_told_at_place longs p d e b is lt h = pack_entry_told_if_some (entry_in longs p) (long_entry (get_or longs p.first d)) e b (long_pack_tells_entry longs p (get_or longs p.first d) is (slice_get-get_or longs p.first d lt)) h

pub told_is_not_forgotten : (o : Option (Option Entry)) (x : Option Entry) → o ≡ Some x → x ≢ None → o ≢ Some None
told_is_not_forgotten o x is ne = λ q. ne (let s : Some x ≡ Some None = sym is ∙ q in cc)

pub no_entry_at_index : (o : Option (Option Entry)) (e : Entry) → o ≡ None → (o ≢ Some None) × (IsTrue false ↔ (o ≡ Some (Some e)))
no_entry_at_index o e is = (
  (λ q. let s : None ≡ Some None = sym is ∙ q in absurd (cc)),
  ((λ (t : false ≡ true). absurd (cc)), (λ q. let s : None ≡ Some (Some e) = sym is ∙ q in absurd (cc))),
)
