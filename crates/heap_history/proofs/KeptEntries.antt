-- What is kept of entries.
use Rattle.std.proofs.Common.{◌≡◌, ℕ, ◌<◌, ◌≤◌, Bool, true, false, List, [], ◌∷◌, ◌++◌, length, refl, sym, ap, ◌∙◌, arith}
use Rattle.std.specs.Prelude.{◌≢◌, ◌↔◌, ◌&&◌, IsTrue, MatchBool, Option, Some, None, if◌then◌else◌, nat_le, slice_get}
use Rattle.std.specs.Option.{option_map, option_map_or}
use Rattle.std.proofs.lemmas.List.{length-map, map-append}
use Rattle.std.proofs.lemmas.Option.{slice_get-map}
use Rattle.heap_class.specs.declared.Kind.{Kind}
use Rattle.heap_history.specs.declared.entry.Entry.{Entry}
use Rattle.heap_history.specs.declared.pack.Deed.{Deed}
use Rattle.heap_history.specs.declared.pack.Deed.TheVariants.{New, NewArray, NewPrim, Load, Store, Put, Move, Clear, Snap, Mark, Drain, Finish, Sweep, Rewind}
use Rattle.heap_history.specs.declared.pack.Pack.{Pack}
use Rattle.heap_history.specs.Kept.{is_kept, is_kept_action, is_known_at, kept_entries, kept_of}
use Rattle.heap_history.specs.Packs.{action_in, entry_by, TellsEntry}

pub kept_entries_of_equal_length : (es : List Entry) → length (kept_entries es) ≡ length es
unfolding kept_entries
kept_entries_of_equal_length es = length-map es kept_of

pub kept_entries_of_one_more : (es : List Entry) (e : Entry) → kept_entries (es ++ e ∷ []) ≡ kept_entries es ++ kept_of e ∷ []
unfolding kept_entries
kept_entries_of_one_more es e = map-append kept_of es (e ∷ [])

pub kept_entry_at_index : (es : List Entry) (at : ℕ) → slice_get (kept_entries es) at ≡ option_map kept_of (slice_get es at)
unfolding kept_entries
kept_entry_at_index es at = slice_get-map kept_of es at

true_test_picks_entry : (b : Bool) (e : Entry) → b ≡ true → (if b then Some e else None) ≡ Some e
true_test_picks_entry true e h = refl
true_test_picks_entry false e h = absurd (cc)

false_test_leaves_none : (b : Bool) (e : Entry) → b ≡ false → (if b then Some e else None) ≡ None
false_test_leaves_none true e h = absurd (cc)
false_test_leaves_none false e h = refl

pub kept_entry_is_whole : (e : Entry) → is_kept e ≡ true → kept_of e ≡ Some e
unfolding kept_of
kept_entry_is_whole e h = true_test_picks_entry (is_kept e) e h

pub entry_not_kept_is_none : (e : Entry) → is_kept e ≡ false → kept_of e ≡ None
unfolding kept_of
entry_not_kept_is_none e h = false_test_leaves_none (is_kept e) e h

-- what has numbers is kept
deed_action_is_kept : (deed : Deed) (kind : Kind) (a b c d : ℕ) → is_kept_action (action_in deed kind a b c d) ≡ true
unfolding action_in
deed_action_is_kept New kind a b c d = refl
deed_action_is_kept NewArray kind a b c d = refl
deed_action_is_kept NewPrim kind a b c d = refl
deed_action_is_kept Load kind a b c d = refl
deed_action_is_kept Store kind a b c d = refl
deed_action_is_kept Put kind a b c d = refl
deed_action_is_kept Move kind a b c d = refl
deed_action_is_kept Clear kind a b c d = refl
deed_action_is_kept Snap kind a b c d = refl
deed_action_is_kept Mark kind a b c d = refl
deed_action_is_kept Drain kind a b c d = refl
deed_action_is_kept Finish kind a b c d = refl
deed_action_is_kept Sweep kind a b c d = refl
deed_action_is_kept Rewind kind a b c d = refl

pub told_pack_entry_is_whole : (p : Pack) (e : Entry) → TellsEntry p e → kept_of e ≡ Some e
unfolding entry_by
told_pack_entry_is_whole p e t = kept_entry_is_whole e (ap is_kept (sym t.1) ∙ deed_action_is_kept p.deed p.kind _ _ _ _)

-- ---- what a block says of what is kept

block_tells_kept_entry : (k : Bool) (x e : Entry) (b : Bool) (m : Option (Option Entry)) → Some (if k then Some x else None) ≡ m → m ≢ Some None → IsTrue b ↔ (m ≡ Some (Some e)) → (k ≡ true) × (IsTrue b ↔ (Some x ≡ Some e))
block_tells_kept_entry true x e b m is known h = (
  refl,
  ((λ t. let kept_entry_is_whole : Some (Some x) ≡ Some (Some e) = is ∙ h.0 t in cc), (λ q. h.1 (sym is ∙ ap Some q))),
)
block_tells_kept_entry false x e b m is known h = absurd (known (sym is))

kept_comparison_tells_entry : (o : Option Entry) (e : Entry) (b : Bool) (m : Option (Option Entry)) → option_map kept_of o ≡ m → m ≢ Some None → IsTrue b ↔ (m ≡ Some (Some e)) → (option_map_or is_kept o true ≡ true) × (IsTrue b ↔ (o ≡ Some e))
unfolding kept_of
kept_comparison_tells_entry None e b m is known h = (
  refl,
  ((λ t. let no : None ≡ Some (Some e) = is ∙ h.0 t in absurd (cc)), (λ q. absurd (cc))),
)
kept_comparison_tells_entry (Some x) e b m is known h = block_tells_kept_entry (is_kept x) x e b m is known h

known_flag_of_kept_entry : (k : Bool) (x : Entry) → Some (if k then Some x else None) ≢ Some None → k ≡ true
known_flag_of_kept_entry true x h = refl
known_flag_of_kept_entry false x h = absurd (h refl)

forgotten_entry_flag_is_false : (k : Bool) (x : Entry) → Some (if k then Some x else None) ≡ Some None → k ≡ false
forgotten_entry_flag_is_false true x h = absurd (cc)
forgotten_entry_flag_is_false false x h = refl

kept_answer_is_known : (o : Option Entry) → option_map kept_of o ≢ Some None → option_map_or is_kept o true ≡ true
unfolding kept_of
kept_answer_is_known None h = refl
kept_answer_is_known (Some x) h = known_flag_of_kept_entry (is_kept x) x h

forgotten_answer_is_unknown : (o : Option Entry) → option_map kept_of o ≡ Some None → option_map_or is_kept o true ≡ false
unfolding kept_of
forgotten_answer_is_unknown None h = absurd (cc)
forgotten_answer_is_unknown (Some x) h = forgotten_entry_flag_is_false (is_kept x) x h

test_past_dropped_is_flag : (dropped at : ℕ) (b : Bool) → dropped ≤ at → nat_le dropped at && b ≡ b
test_past_dropped_is_flag dropped at b le = grind (arith, le)

-- the same of the entry at an index that is at least the number of those that were dropped
pub kept_entry_told_at_index : (dropped : ℕ) (es : List Entry) (at : ℕ) (e : Entry) (b : Bool) (m : Option (Option Entry)) → dropped ≤ at → slice_get (kept_entries es) at ≡ m → m ≢ Some None → IsTrue b ↔ (m ≡ Some (Some e))
    → IsTrue (is_known_at dropped es at) × (IsTrue b ↔ (slice_get es at ≡ Some e))
unfolding is_known_at
kept_entry_told_at_index dropped es at e b m le is known h =
    let all = kept_comparison_tells_entry (slice_get es at) e b m (sym (kept_entry_at_index es at) ∙ is) known h in
    (test_past_dropped_is_flag dropped at _ le ∙ all.0, all.1)

pub kept_entry_known_at_index : (dropped : ℕ) (es : List Entry) (at : ℕ) (m : Option (Option Entry)) → dropped ≤ at → slice_get (kept_entries es) at ≡ m → m ≢ Some None → is_known_at dropped es at ≡ true
unfolding is_known_at
kept_entry_known_at_index dropped es at m le is known = test_past_dropped_is_flag dropped at _ le ∙ kept_answer_is_known (slice_get es at) (λ e. known (sym is ∙ kept_entry_at_index es at ∙ e))

pub forgotten_entry_unknown_at_index : (dropped : ℕ) (es : List Entry) (at : ℕ) (m : Option (Option Entry)) → dropped ≤ at → slice_get (kept_entries es) at ≡ m → m ≡ Some None → is_known_at dropped es at ≡ false
unfolding is_known_at
forgotten_entry_unknown_at_index dropped es at m le is none = test_past_dropped_is_flag dropped at _ le ∙ forgotten_answer_is_unknown (slice_get es at) (sym (kept_entry_at_index es at) ∙ is ∙ none)

pub dropped_entry_unknown_at_index : (dropped : ℕ) (es : List Entry) (at : ℕ) → at < dropped → is_known_at dropped es at ≡ false
unfolding is_known_at
dropped_entry_unknown_at_index dropped es at lt = grind (arith, lt)

pub known_flag_at_index : (b : Bool) (dropped : ℕ) (es : List Entry) (at : ℕ) (m : Option (Option Entry)) → dropped ≤ at → slice_get (kept_entries es) at ≡ m → MatchBool b (m ≢ Some None) (m ≡ Some None) → b ≡ is_known_at dropped es at
known_flag_at_index true dropped es at m le is h = sym (kept_entry_known_at_index dropped es at m le is h)
known_flag_at_index false dropped es at m le is h = sym (forgotten_entry_unknown_at_index dropped es at m le is h)
