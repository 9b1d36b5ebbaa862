use Rattle.std.proofs.Common.{◌≡◌, ◌-◌, ◌≤◌, length, sym, ap, ◌∙◌, arith}
use Rattle.std.specs.Prelude.{slice_get}
use Rattle.heap_history.specs.Chronicles.{ChronicleState, dropped_of, entries_of}
use Rattle.heap_history.specs.Kept.{kept_entries}
use Rattle.heap_history.proofs.KeptEntries.{dropped_entry_unknown_at_index, known_flag_at_index}
use Rattle.heap_history.proofs.Rolls.{kept_entry_in_newer_block, kept_entry_in_older_block}
use Rattle.heap_history.proofs.chronicle.Chronicle.is_known.Goals as goal

pub returns-then-at-self : goal.returns-then-at-self
returns-then-at-self c = sym (dropped_entry_unknown_at_index _ c.args.self.now.entries c.args.at (omega (arith, ap (λ (x : ChronicleState). dropped_of x.rolls (length x.entries)) c.self.view_is, c.self.invariant.1, c.if-at-self.true)))

pub returns-then-kept-older : goal.returns-then-kept-older
returns-then-kept-older c =
    let s = c.self.inside in
    let here : slice_get (kept_entries c.args.self.now.entries) c.args.at ≡ slice_get s.older.entries (c.args.at - s.dropped) =
    ap (λ (x : ChronicleState). slice_get (kept_entries x.entries) c.args.at) (sym c.self.view_is)
    ∙ kept_entry_in_older_block s.older.entries s.newer.entries s.dropped (entries_of s.noted.items) c.args.at c.self.invariant.0 (omega (arith, c.if-at-self.false)) (omega (arith, c.len-older.ensures, c.if-kept-older.true)) in
    let le : dropped_of c.args.self.now.rolls (length c.args.self.now.entries) ≤ c.args.at = omega (arith, ap (λ (x : ChronicleState). dropped_of x.rolls (length x.entries)) c.self.view_is, c.self.invariant.1, c.if-at-self.false) in
    known_flag_at_index c.is_known.result _ c.args.self.now.entries c.args.at _ le here c.is_known.ensures

pub returns-else-kept-older : goal.returns-else-kept-older
returns-else-kept-older c =
    let s = c.self.inside in
    let here : slice_get (kept_entries c.args.self.now.entries) c.args.at ≡ slice_get s.newer.entries (c.args.at - s.dropped - c.len-older.result) =
    ap (λ (x : ChronicleState). slice_get (kept_entries x.entries) c.args.at) (sym c.self.view_is)
    ∙ kept_entry_in_newer_block s.older.entries s.newer.entries s.dropped (entries_of s.noted.items) c.args.at c.self.invariant.0 (omega (arith, c.if-at-self.false)) (omega (arith, c.len-older.ensures, c.if-kept-older.false))
    ∙ ap (λ n. slice_get s.newer.entries (c.args.at - s.dropped - n)) (sym c.len-older.ensures) in
    let le : dropped_of c.args.self.now.rolls (length c.args.self.now.entries) ≤ c.args.at = omega (arith, ap (λ (x : ChronicleState). dropped_of x.rolls (length x.entries)) c.self.view_is, c.self.invariant.1, c.if-at-self.false) in
    known_flag_at_index c.is_known-else-kept-older.result _ c.args.self.now.entries c.args.at _ le here c.is_known-else-kept-older.ensures
