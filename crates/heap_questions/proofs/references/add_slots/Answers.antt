use Rattle.std.proofs.Common.{Vec, Global, ◌≡◌, ◌<◌, ◌++◌, length, get_or, sym, ap, ◌∙◌, arith}
use Rattle.hprof_text.specs.Image.{DumpedObject}
use Rattle.heap_questions.specs.Referrers.{naming_slots, names_at}
use Rattle.std.proofs.lemmas.List.{get_or_default}
use Rattle.heap_questions.specs.declared.references.Referrer.{Referrer}
use Rattle.heap_questions.specs.declared.references.Referrer.TheVariants.{Slot}
use Rattle.heap_questions.proofs.Passing.{passing, passing_one_more, passing_no_more, named_so, other_word, no_reference}
use Rattle.heap_questions.proofs.references.add_slots.Goals.{then-words-slot+then-is_reference_slot+in_ok-push, else-words-slot, else-words-slot-via-then-words-slot+else-is_reference_slot, else-words-slot-via-else-words-slot}
use Rattle.heap_questions.proofs.references.add_slots.Goals as goal

pub loop-slot-preserved : goal.loop-slot-preserved
loop-slot-preserved c =
    let old = c.args.all.now.items in
    let s = c.loop-slot.slot in
    let id = c.args.id in
    let classes = c.args.classes.now in
    let words = c.args.words.now in
    let o : DumpedObject = record { id = c.args.object; kind = c.args.kind; words = words } in
    let h : s < length words = omega arith in
    let x = get_or words s 0 in
    let g : x ≡ get_or words s x = get_or_default words s 0 x h in
    let items = λ (v : Vec Referrer Global). v.items in
    elim c.if-words-slot.branch [
      | then-words-slot+then-is_reference_slot+in_ok-push w ↦
          passing_one_more (names_at classes id o) (Slot c.args.object) s old c.loop-slot.all.items c.if-words-slot.all.items
          (named_so classes id o s x h g (sym w.is_reference_slot.ensures ∙ w.if-is_reference_slot.true) w.if-words-slot.true) c.loop-slot.invariant (ap items w.all-is ∙ w.in_ok-push.ensures.items)
      | else-words-slot w ↦ elim w.else-words-slot.branch [
        | else-words-slot-via-then-words-slot+else-is_reference_slot v ↦
            ap items w.all-is ∙ passing_no_more (names_at classes id o) (Slot c.args.object) s old c.loop-slot.all.items (no_reference classes id o s (sym v.is_reference_slot.ensures ∙ v.if-is_reference_slot.false)) c.loop-slot.invariant
        | else-words-slot-via-else-words-slot v ↦
            ap items w.all-is ∙ passing_no_more (names_at classes id o) (Slot c.args.object) s old c.loop-slot.all.items (other_word classes id o s x h g v.if-words-slot.false) c.loop-slot.invariant
      ]
    ]

pub returns-clause-added : goal.returns-clause-added
unfolding naming_slots
returns-clause-added c =
    let e : c.loop-slot.slot ≡ length c.args.words.now = omega arith in
    let o : DumpedObject = record { id = c.args.object; kind = c.args.kind; words = c.args.words.now } in
    c.loop-slot.invariant ∙ ap (λ n. c.args.all.now.items ++ passing (names_at c.args.classes.now c.args.id o) (Slot c.args.object) n) e
