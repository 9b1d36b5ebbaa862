use Rattle.std.proofs.Common.{◌≡◌, ◌<◌, length, get_or, sym, ap, ◌∙◌, inl, inr, arith}
use Rattle.std.proofs.lemmas.Bool.{cases_eq}
use Rattle.std.proofs.lemmas.List.{get_or_default}
use Rattle.hprof_text.specs.Image.{DumpedObject}
use Rattle.heap_questions.specs.Referrers.{names_at}
use Rattle.heap_questions.proofs.Looking.{slot_is}
use Rattle.heap_questions.proofs.Passing.{no_reference, other_word}
use Rattle.heap_questions.proofs.WaysBack.{is_first_slot, no_first_slot}
use Rattle.heap_questions.proofs.paths.first_slot_to.Goals.{else-words-slot-via-then-words-slot+else-is_reference_slot, else-words-slot-via-else-words-slot}
use Rattle.heap_questions.proofs.paths.first_slot_to.Goals as goal

pub loop-slot-preserved : goal.loop-slot-preserved
loop-slot-preserved c t l =
    let s = c.loop-slot.slot in
    let words = c.args.words.now in
    let o : DumpedObject = record { id = 0; kind = c.args.kind; words = words } in
    let h : s < length words = omega arith in
    let x = get_or words s 0 in
    let g : x ≡ get_or words s x = get_or_default words s 0 x h in
    elim (cases_eq t s) [
      | inl e ↦ ap (names_at c.args.classes.now c.args.id o) e ∙ elim c.else-words-slot.branch [
        | else-words-slot-via-then-words-slot+else-is_reference_slot v ↦ no_reference c.args.classes.now c.args.id o s (sym v.is_reference_slot.ensures ∙ v.if-is_reference_slot.false)
        | else-words-slot-via-else-words-slot v ↦ other_word c.args.classes.now c.args.id o s x h g v.if-words-slot.false
      ]
      | inr n ↦ c.loop-slot.invariant t (omega (arith, l, n))
    ]

pub returns-then-is_reference_slot : goal.returns-then-is_reference_slot
returns-then-is_reference_slot c o k w =
    let s = c.loop-slot.slot in
    let words = c.args.words.now in
    let p : DumpedObject = record { id = 0; kind = c.args.kind; words = words } in
    let h : s < length words = omega arith in
    let held = sym c.if-words-slot.true ∙ get_or_default words s 0 c.args.id h in
    is_first_slot c.args.classes.now c.args.id o p s k w c.loop-slot.invariant (slot_is c.args.classes.now p s c.args.id h held (sym c.is_reference_slot.ensures ∙ c.if-is_reference_slot.true))

pub returns : goal.returns
returns c o k w =
    let p : DumpedObject = record { id = 0; kind = c.args.kind; words = c.args.words.now } in
    no_first_slot c.args.classes.now c.args.id o p c.loop-slot.slot _ k w c.loop-slot.invariant (omega arith)
