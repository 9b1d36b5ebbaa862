use Rattle.std.proofs.Common.{ℕ, ◌≡◌, ◌+◌, ◌-◌, ◌<◌, ◌++◌, sym, ap₂, ◌∙◌, subst, Some, arith}
use Rattle.heap_trail.specs.Trail.{retained}
use Rattle.heap_questions.proofs.PastTrails.{has_past}
use Rattle.heap_questions.specs.SlotChanges.{changed, word_before}
use Rattle.heap_questions.proofs.ChangedSlots.{AreChanges, all_retained, all_since_birth, no_changes, one_change_more}
use Rattle.heap_questions.proofs.Walk.{word_there}
use Rattle.heap_questions.proofs.past.slots.newest_changes.Goals as goal

pub loop-n-init : goal.loop-n-init
loop-n-init c =
    let t = c.args.past.now in
    no_changes t c.args.at c.args.slot c.args.now c.new-changes.result.items (word_there t.current c.args.at c.args.slot c.args.now c.requires) c.requires c.new-changes.ensures.items

pub returns-then-makes-clause-watched : goal.returns-then-makes-clause-watched
returns-then-makes-clause-watched c =
    let t = c.args.past.now in
    let n = c.loop-n.n in
    let lt : n < retained t = omega (arith, c.loop-n-test.true, c.retained_count-n-end.ensures) in
    let r = has_past t n c.record_ago-left.result.now c.place-place.ensures.trail c.record_ago-left.ensures in
    all_since_birth t c.args.at c.args.slot n c.loop-n.now c.record_ago-left.result.now c.loop-n.changes.items lt c.loop-n.invariant r (sym c.makes.ensures ∙ c.if-makes.true)

pub loop-n-preserved : goal.loop-n-preserved
loop-n-preserved c =
    let t = c.args.past.now in
    let n = c.loop-n.n in
    let left = c.record_ago-left.result.now in
    let old = c.word_before-old.result in
    let r = has_past t n left c.place-place.ensures.trail c.record_ago-left.ensures in
    let more : c.push_change.new.changes.items ≡ c.loop-n.changes.items ++ changed (t.place - n) (Some (word_before left c.args.at c.args.slot c.loop-n.now)) (Some c.loop-n.now) =
    c.in_ok-push_change.ensures.added
    ∙ ap₂ (λ (p o : ℕ). c.loop-n.changes.items ++ changed (p - n) (Some o) (Some c.loop-n.now)) c.place-place.ensures.value c.word_before-old.ensures in
    subst (λ o. AreChanges t c.args.at c.args.slot (n + 1) o c.push_change.new.changes.items) (sym c.word_before-old.ensures)
    (one_change_more t c.args.at c.args.slot n c.loop-n.now left c.loop-n.changes.items c.push_change.new.changes.items c.loop-n.invariant r (sym c.makes.ensures ∙ c.if-makes.false) more)

pub returns-clause-watched : goal.returns-clause-watched
returns-clause-watched c =
    let t = c.args.past.now in
    let all : c.loop-n.n ≡ retained t = omega (arith, c.loop-n-test.false, c.loop-n.auto.n-end, c.retained_count-n-end.ensures) in
    all_retained t c.args.at c.args.slot c.loop-n.n c.loop-n.now c.loop-n.changes.items all c.loop-n.invariant
