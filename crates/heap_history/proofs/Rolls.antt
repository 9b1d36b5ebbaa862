-- A chronicle in two blocks, with an entry more.
use Rattle.std.proofs.Common.{◌≡◌, ℕ, ◌+◌, ◌-◌, ◌<◌, ◌≤◌, ◌⊎◌, inl, inr, Bool, true, false, List, [], ◌∷◌, ◌++◌, drop, length, length-append, append-nil, refl, sym, ap, ◌∙◌, arith}
use Rattle.std.specs.Prelude.{Option, slice_get}
use Rattle.std.proofs.lemmas.List.{append_assoc, drop-append-le, drop-drop, drop_at, length-drop, map-append}
use Rattle.heap_trail.specs.Limits.{last_place}
use Rattle.heap_history.specs.declared.entry.Entry.{Entry}
use Rattle.heap_history.specs.Blocks.{BlockState}
use Rattle.heap_history.specs.Chronicles.{AreKept, HaveWay, IsChronicle, IsOlderBlock, dropped_of, entries_of}
use Rattle.heap_history.specs.Kept.{kept_entries, kept_of}
use Rattle.heap_history.specs.Limits.{block_limit, entry_limit}
use Rattle.heap_history.proofs.Gets.{item_of_dropped_list, item_of_left_list, item_of_right_list}
use Rattle.heap_history.proofs.KeptEntries.{kept_entries_of_one_more, kept_entries_of_equal_length}

pub entry_limit_within_places : (rolls : Bool) → entry_limit rolls ≤ last_place
entry_limit_within_places true = omega arith
entry_limit_within_places false = omega arith

-- how many entries there are
pub kept_entries_and_dropped_counted : (older newer : List (Option Entry)) (dropped : ℕ) (es : List Entry) → AreKept older newer dropped es → length es ≡ dropped + length older + length newer
kept_entries_and_dropped_counted older newer dropped es k = omega (arith, k.within, ap length k.kept, length-drop dropped (kept_entries es), kept_entries_of_equal_length es, length-append older newer)

-- one entry more in the newer block
pub chronicle_with_entry_in_newer : (older newer : BlockState) (dropped : ℕ) (rolls : Bool) (es : List Entry) (e : Entry) → HaveWay older newer dropped rolls es → length es < entry_limit rolls
    → IsChronicle older.entries (newer.entries ++ kept_of e ∷ []) dropped rolls (es ++ e ∷ [])
chronicle_with_entry_in_newer older newer dropped rolls es e (k, lt, is) more = (
  record {
    within = omega (arith, k.within, length-append es (e ∷ []));
    kept = ap (drop dropped) (kept_entries_of_one_more es e) ∙ drop-append-le dropped (kept_entries es) (kept_of e ∷ []) (omega (arith, k.within, kept_entries_of_equal_length es)) ∙ ap (λ l. l ++ kept_of e ∷ []) k.kept ∙ append_assoc older.entries newer.entries (kept_of e ∷ []);
    older_is = k.older_is;
    newer_fits = omega (arith, lt, length-append newer.entries (kept_of e ∷ []));
  },
  is ∙ ap (dropped_of rolls) (sym (length-append es (e ∷ []))),
  omega (arith, more, entry_limit_within_places rolls, length-append es (e ∷ [])),
)

-- ---- how many are dropped

dropped_at_next_block : (rolls : Bool) (d o n : ℕ) → n ≡ d + o + 500000 → ((o ≡ 0) × (d ≡ 0)) ⊎ (o ≡ 500000) → d ≡ dropped_of rolls n → n < entry_limit rolls → d + o ≡ dropped_of rolls (n + 1)
dropped_at_next_block true d o n count (inl none) is more = omega (arith, count, none.0, none.1)
dropped_at_next_block true d o n count (inr whole) is more = omega (arith, count, whole, is)
dropped_at_next_block false d o n count (inl none) is more = omega (arith, none.0, none.1)
dropped_at_next_block false d o n count (inr whole) is more = absurd (omega (arith, count, whole, more))

dropped_within_same_block : (rolls : Bool) (d o w n : ℕ) → n ≡ d + o + w → w < 500000 → ((o ≡ 0) × (d ≡ 0)) ⊎ (o ≡ 500000) → d ≡ dropped_of rolls n → d ≡ dropped_of rolls (n + 1)
dropped_within_same_block true d o w n count lt (inl none) is = omega (arith, count, lt, none.0, none.1)
dropped_within_same_block true d o w n count lt (inr whole) is = omega (arith, count, lt, whole, is)
dropped_within_same_block false d o w n count lt older is = is

older_block_empty_or_full : (older : List (Option Entry)) (dropped : ℕ) → IsOlderBlock older dropped → ((length older ≡ 0) × (dropped ≡ 0)) ⊎ (length older ≡ 500000)
older_block_empty_or_full older dropped (inl none) = inl (ap length none.0, none.1)
older_block_empty_or_full older dropped (inr whole) = inr whole

-- the older block dropped, and a new one begun
pub way_by_roll : (older newer older' newer' : BlockState) (dropped count : ℕ) (rolls : Bool) (es : List Entry) → length newer.entries ≡ block_limit → older'.entries ≡ newer.entries → newer'.entries ≡ [] → count ≡ length older.entries
    → IsChronicle older.entries newer.entries dropped rolls es → length es < entry_limit rolls → HaveWay older' newer' (dropped + count) rolls es
way_by_roll older newer older' newer' dropped count rolls es full older_is newer_is count_is (k, is, least) more =
    let total = kept_entries_and_dropped_counted older.entries newer.entries dropped es k in (
      record {
        within = omega (arith, total, count_is);
        kept = ap (λ n. drop (dropped + n) (kept_entries es)) count_is ∙ sym (drop-drop (length older.entries) dropped (kept_entries es)) ∙ ap (drop (length older.entries)) k.kept ∙ drop_at older.entries newer.entries (length older.entries) refl ∙ sym (append-nil newer.entries) ∙ (λ i. sym older_is i ++ sym newer_is i);
        older_is = inr (ap length older_is ∙ full);
        newer_fits = omega (arith, ap length newer_is);
      },
      omega (arith, ap length newer_is),
      ap (λ n. dropped + n) count_is ∙ dropped_at_next_block rolls dropped (length older.entries) (length es) (omega (arith, total, full)) (older_block_empty_or_full older.entries dropped k.older_is) is more,
    )

-- the newer block has room already
pub way_as_is : (older newer : BlockState) (dropped : ℕ) (rolls : Bool) (es : List Entry) → length newer.entries < block_limit → IsChronicle older.entries newer.entries dropped rolls es → HaveWay older newer dropped rolls es
way_as_is older newer dropped rolls es lt (k, is, least) =
    (k, lt, dropped_within_same_block rolls dropped (length older.entries) (length newer.entries) (length es) (kept_entries_and_dropped_counted older.entries newer.entries dropped es k) lt (older_block_empty_or_full older.entries dropped k.older_is) is)

-- ---- the entry at an index

kept_entry_in_blocks : (older newer : List (Option Entry)) (dropped : ℕ) (es : List Entry) (n : ℕ) → AreKept older newer dropped es → slice_get (kept_entries es) (dropped + n) ≡ slice_get (older ++ newer) n
kept_entry_in_blocks older newer dropped es n k = sym (item_of_dropped_list dropped n (kept_entries es)) ∙ ap (λ l. slice_get l n) k.kept

pub kept_entry_in_older_block : (older newer : List (Option Entry)) (dropped : ℕ) (es : List Entry) (at : ℕ) → AreKept older newer dropped es → dropped ≤ at → at - dropped < length older → slice_get (kept_entries es) at ≡ slice_get older (at - dropped)
kept_entry_in_older_block older newer dropped es at k le lt =
    let same : at ≡ dropped + (at - dropped) = omega (arith, le) in
    ap (slice_get (kept_entries es)) same ∙ kept_entry_in_blocks older newer dropped es (at - dropped) k ∙ item_of_left_list (at - dropped) older newer lt

pub kept_entry_in_newer_block : (older newer : List (Option Entry)) (dropped : ℕ) (es : List Entry) (at : ℕ) → AreKept older newer dropped es → dropped ≤ at → length older ≤ at - dropped → slice_get (kept_entries es) at ≡ slice_get newer (at - dropped - length older)
kept_entry_in_newer_block older newer dropped es at k le more =
    let same : at ≡ dropped + (at - dropped) = omega (arith, le) in
    ap (slice_get (kept_entries es)) same ∙ kept_entry_in_blocks older newer dropped es (at - dropped) k ∙ item_of_right_list (at - dropped - length older) (at - dropped) older newer (omega (arith, more))

-- ---- noting

pub noted_entries_of_one_more : (noted : List (Entry × Unit {0})) (e : Entry) → entries_of (noted ++ (e, tt) ∷ []) ≡ entries_of noted ++ e ∷ []
unfolding entries_of
noted_entries_of_one_more noted e = map-append (λ (n : Entry × Unit {0}). n.0) noted ((e, tt) ∷ [])
