use Rattle.std.proofs.Common.{◌≡◌, ◌-◌, ◌≤◌, length, sym, ap, ◌∙◌, arith}
use Rattle.std.specs.Prelude.{slice_get}
use Rattle.std.proofs.lemmas.Option.{IfSome_then}
use Rattle.heap_history.specs.Chronicles.{ChronicleState, dropped_of, entries_of}
use Rattle.heap_history.specs.History.{entry}
use Rattle.heap_history.specs.Kept.{kept_entries}
use Rattle.heap_history.proofs.Cases.{case_of_none_weakened}
use Rattle.heap_history.proofs.KeptEntries.{dropped_entry_unknown_at_index, forgotten_entry_unknown_at_index, kept_entry_told_at_index}
use Rattle.heap_history.proofs.Rolls.{kept_entry_in_newer_block, kept_entry_in_older_block}
use Rattle.heap_history.proofs.chronicle.Chronicle.is_done.Goals as goal

pub returns-then-at-self-clause-unkept : goal.returns-then-at-self-clause-unkept
returns-then-at-self-clause-unkept c = dropped_entry_unknown_at_index _ c.args.self.now.entries c.args.at (omega (arith, ap (λ (x : ChronicleState). dropped_of x.rolls (length x.entries)) c.self.view_is, c.self.invariant.1, c.if-at-self.true))

pub returns-then-kept-older-clause-kept : goal.returns-then-kept-older-clause-kept
returns-then-kept-older-clause-kept c =
    let s = c.self.inside in
    let here : slice_get (kept_entries c.args.self.now.entries) c.args.at ≡ slice_get s.older.entries (c.args.at - s.dropped) =
    ap (λ (x : ChronicleState). slice_get (kept_entries x.entries) c.args.at) (sym c.self.view_is)
    ∙ kept_entry_in_older_block s.older.entries s.newer.entries s.dropped (entries_of s.noted.items) c.args.at c.self.invariant.0 (omega (arith, c.if-at-self.false)) (omega (arith, c.len-older.ensures, c.if-kept-older.true)) in
    let le : dropped_of c.args.self.now.rolls (length c.args.self.now.entries) ≤ c.args.at = omega (arith, ap (λ (x : ChronicleState). dropped_of x.rolls (length x.entries)) c.self.view_is, c.self.invariant.1, c.if-at-self.false) in
    IfSome_then c.is_done.result c.is_done.ensures.kept (λ b h. kept_entry_told_at_index _ c.args.self.now.entries c.args.at (entry c.args.seat c.args.action.now c.args.answer) b _ le here h.0 h.1)

pub returns-then-kept-older-clause-unkept : goal.returns-then-kept-older-clause-unkept
returns-then-kept-older-clause-unkept c =
    let s = c.self.inside in
    let here : slice_get (kept_entries c.args.self.now.entries) c.args.at ≡ slice_get s.older.entries (c.args.at - s.dropped) =
    ap (λ (x : ChronicleState). slice_get (kept_entries x.entries) c.args.at) (sym c.self.view_is)
    ∙ kept_entry_in_older_block s.older.entries s.newer.entries s.dropped (entries_of s.noted.items) c.args.at c.self.invariant.0 (omega (arith, c.if-at-self.false)) (omega (arith, c.len-older.ensures, c.if-kept-older.true)) in
    let le : dropped_of c.args.self.now.rolls (length c.args.self.now.entries) ≤ c.args.at = omega (arith, ap (λ (x : ChronicleState). dropped_of x.rolls (length x.entries)) c.self.view_is, c.self.invariant.1, c.if-at-self.false) in
    case_of_none_weakened c.is_done.result _ _ c.is_done.ensures.unkept (λ q. forgotten_entry_unknown_at_index _ c.args.self.now.entries c.args.at _ le here q)

pub returns-else-kept-older-clause-kept : goal.returns-else-kept-older-clause-kept
returns-else-kept-older-clause-kept c =
    let s = c.self.inside in
    let here : slice_get (kept_entries c.args.self.now.entries) c.args.at ≡ slice_get s.newer.entries (c.args.at - s.dropped - c.len-older.result) =
    ap (λ (x : ChronicleState). slice_get (kept_entries x.entries) c.args.at) (sym c.self.view_is)
    ∙ kept_entry_in_newer_block s.older.entries s.newer.entries s.dropped (entries_of s.noted.items) c.args.at c.self.invariant.0 (omega (arith, c.if-at-self.false)) (omega (arith, c.len-older.ensures, c.if-kept-older.false))
    ∙ ap (λ n. slice_get s.newer.entries (c.args.at - s.dropped - n)) (sym c.len-older.ensures) in
    let le : dropped_of c.args.self.now.rolls (length c.args.self.now.entries) ≤ c.args.at = omega (arith, ap (λ (x : ChronicleState). dropped_of x.rolls (length x.entries)) c.self.view_is, c.self.invariant.1, c.if-at-self.false) in
    IfSome_then c.is_done-else-kept-older.result c.is_done-else-kept-older.ensures.kept (λ b h. kept_entry_told_at_index _ c.args.self.now.entries c.args.at (entry c.args.seat c.args.action.now c.args.answer) b _ le here h.0 h.1)

pub returns-else-kept-older-clause-unkept : goal.returns-else-kept-older-clause-unkept
returns-else-kept-older-clause-unkept c =
    let s = c.self.inside in
    let here : slice_get (kept_entries c.args.self.now.entries) c.args.at ≡ slice_get s.newer.entries (c.args.at - s.dropped - c.len-older.result) =
    ap (λ (x : ChronicleState). slice_get (kept_entries x.entries) c.args.at) (sym c.self.view_is)
    ∙ kept_entry_in_newer_block s.older.entries s.newer.entries s.dropped (entries_of s.noted.items) c.args.at c.self.invariant.0 (omega (arith, c.if-at-self.false)) (omega (arith, c.len-older.ensures, c.if-kept-older.false))
    ∙ ap (λ n. slice_get s.newer.entries (c.args.at - s.dropped - n)) (sym c.len-older.ensures) in
    let le : dropped_of c.args.self.now.rolls (length c.args.self.now.entries) ≤ c.args.at = omega (arith, ap (λ (x : ChronicleState). dropped_of x.rolls (length x.entries)) c.self.view_is, c.self.invariant.1, c.if-at-self.false) in
    case_of_none_weakened c.is_done-else-kept-older.result _ _ c.is_done-else-kept-older.ensures.unkept (λ q. forgotten_entry_unknown_at_index _ c.args.self.now.entries c.args.at _ le here q)
