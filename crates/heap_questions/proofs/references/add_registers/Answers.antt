use Rattle.std.proofs.Common.{ℕ, Bool, Vec, Global, ◌≡◌, ◌++◌, length, ap, ◌∙◌, arith}
use Rattle.std.specs.Prelude.{slice_index, ◌==◌}
use Rattle.std.proofs.lemmas.Bool.{eq-eqb, ne_eqb}
use Rattle.heap_questions.specs.Referrers.{naming_registers}
use Rattle.heap_questions.specs.declared.references.Referrer.{Referrer}
use Rattle.heap_questions.specs.declared.references.Referrer.TheVariants.{Register}
use Rattle.heap_questions.proofs.Passing.{passing, passing_one_more, passing_no_more}
use Rattle.heap_questions.proofs.references.add_registers.Goals.{then-registers-r+in_ok-push, else-registers-r}
use Rattle.heap_questions.proofs.references.add_registers.Goals as goal

pub loop-r-preserved : goal.loop-r-preserved
loop-r-preserved c =
    let p : ℕ → Bool = λ k. slice_index c.args.registers.now k == c.args.id in
    let items = λ (v : Vec Referrer Global). v.items in
    elim c.if-registers-r.branch [
      | then-registers-r+in_ok-push w ↦
          passing_one_more p Register c.loop-r.r c.args.all.now.items c.loop-r.all.items c.if-registers-r.all.items (eq-eqb (slice_index c.args.registers.now c.loop-r.r) c.args.id w.if-registers-r.true) c.loop-r.invariant (ap items w.all-is ∙ w.in_ok-push.ensures.items)
      | else-registers-r w ↦
          ap items w.all-is ∙ passing_no_more p Register c.loop-r.r c.args.all.now.items c.loop-r.all.items (ne_eqb (slice_index c.args.registers.now c.loop-r.r) c.args.id w.if-registers-r.false) c.loop-r.invariant
    ]

pub returns-clause-added : goal.returns-clause-added
unfolding naming_registers
returns-clause-added c =
    let e : c.loop-r.r ≡ length c.args.registers.now = omega arith in
    c.loop-r.invariant ∙ ap (λ n. c.args.all.now.items ++ passing (λ r. slice_index c.args.registers.now r == c.args.id) Register n) e
