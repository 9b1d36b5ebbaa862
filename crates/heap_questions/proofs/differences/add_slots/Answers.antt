use Rattle.std.proofs.Common.{◌≡◌, ◌∙◌, ◌++◌, ◌==◌, ◌∷◌, [], Bool, List, Vec, Global, ap, ap₂, arith, length, sym, ℕ}
use Rattle.std.specs.Prelude.{not}
use Rattle.std.proofs.lemmas.Bool.{eq-eqb, ne_eqb}
use Rattle.heap_questions.specs.Differences.{changes_of_slots, differs_at, slot_seen}
use Rattle.heap_questions.specs.declared.differences.Difference.{Difference}
use Rattle.heap_questions.specs.declared.differences.Difference.TheVariants.{Changed}
use Rattle.heap_questions.specs.declared.past.seen.SeenSlot.{SeenSlot}
use Rattle.heap_questions.proofs.Passing.{passing, passing_one_more, passing_no_more}
use Rattle.heap_questions.proofs.differences.add_slots.Goals.{then-before-after+in_ok-push, else-before-after}
use Rattle.heap_questions.proofs.differences.add_slots.Goals as goal

pub loop-slot-preserved : goal.loop-slot-preserved
loop-slot-preserved c =
    let o = c.args.old.now in
    let n = c.args.new.now in
    let s = c.loop-slot.slot in
    let rows = c.loop-slot.rows.items in
    let p : ℕ → Bool = differs_at o n in
    let f : ℕ → Difference = λ s. Changed c.args.id s (slot_seen c.args.old_classes.now o s) (slot_seen c.args.new_classes.now n s) in
    let items = λ (v : Vec Difference Global). v.items in
    let tested : not (c.word_at-before.result == c.word_at-after.result) ≡ p s = ap₂ (λ (a b : ℕ). not (a == b)) c.word_at-before.ensures c.word_at-after.ensures in
    elim c.if-before-after.branch [
      | then-before-after+in_ok-push w ↦
          let pushed = ap₂ (λ (a b : SeenSlot). rows ++ Changed c.args.id s a b ∷ []) w.slot_seen-seen.ensures w.slot_seen-now.ensures in
          passing_one_more p f s c.args.rows.now.items rows c.if-before-after.rows.items (sym tested ∙ ap not (ne_eqb c.word_at-before.result c.word_at-after.result w.if-before-after.true)) c.loop-slot.invariant
          (ap items w.rows-is ∙ w.in_ok-push.ensures.items ∙ pushed)
      | else-before-after w ↦
          ap items w.rows-is ∙ passing_no_more p f s c.args.rows.now.items rows (sym tested ∙ ap not (eq-eqb c.word_at-before.result c.word_at-after.result w.if-before-after.false)) c.loop-slot.invariant
    ]

pub returns-clause-added : goal.returns-clause-added
unfolding changes_of_slots
returns-clause-added c =
    let o = c.args.old.now in
    let n = c.args.new.now in
    let many = ap (λ (ws : List ℕ). length ws) c.words-slot-end.ensures in
    let e : c.loop-slot.slot ≡ length o.words = omega (arith, c.loop-slot-test.false, c.loop-slot.auto.slot-end, many) in
    c.loop-slot.invariant
    ∙ ap (λ (k : ℕ). c.args.rows.now.items ++ passing (differs_at o n) (λ s. Changed c.args.id s (slot_seen c.args.old_classes.now o s) (slot_seen c.args.new_classes.now n s)) k) e
