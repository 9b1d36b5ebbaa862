use Rattle.std.proofs.Common.{◌≡◌, ◌∙◌, ◌+◌, ◌-◌, ◌<◌, ℕ, List, ap, arith, length, subst, sym}
use Rattle.std.proofs.lemmas.Result.{err_from_is_err_and}
use Rattle.heap_class.specs.Classes.{Class}
use Rattle.hprof_text.specs.Image.{IsKnown}
use Rattle.question_rows.specs.Trees.{object_at_slot}
use Rattle.question_rows.proofs.TreeObjects.{named_known}
use Rattle.question_rows.proofs.TreeRoom.{level_left, nothing_listed, object_refused, room_alone, room_with, slot_refused, text_alone, text_with}
use Rattle.question_rows.proofs.tree.+push_level.Goals as goal

pub returns-in_err-push_slot-clause-refused : goal.returns-in_err-push_slot-clause-refused
returns-in_err-push_slot-clause-refused g t c =
    let size = ap (λ (ws : List ℕ). length ws) c.words-slot-end.ensures in
    let l : c.loop-slot.slot < length c.args.object.now.words = omega (arith, c.loop-slot-test.true, size) in
    let p = err_from_is_err_and c.from_residual.result c.from_residual.ensures.1 in
    rw (p.1, p.2)
    (slot_refused c.args.below c.args.index.now c.args.level c.args.object.now c.loop-slot.slot c.loop-slot.rows.room c.args.rows.now.room c.in_err-push_slot.field-0.0 l c.loop-slot.invariant.room c.in_err-push_slot.ensures.refused)

pub loop-slot-preserved-in_default : goal.loop-slot-preserved-in_default
loop-slot-preserved-in_default g t c =
    let image = c.args.index.now in
    let o = c.args.object.now in
    let k = c.loop-slot.slot in
    let alone = nothing_listed c.args.below c.object_below.result (object_at_slot image o k) c.object_below.ensures.named c.in_default.is in
    record {
      text = text_alone c.args.below image c.args.classes.now c.args.level o k c.args.rows.now.text.items c.loop-slot.rows.text.items c.push_slot.new.rows.text.items c.requires.classes alone c.loop-slot.invariant.text c.in_ok-push_slot.ensures.text;
      room = room_alone c.args.below image c.args.level o k c.loop-slot.rows.room c.push_slot.new.rows.room c.args.rows.now.room alone c.loop-slot.invariant.room c.in_ok-push_slot.ensures.room;
    }

pub push_level-requires : goal.push_level-requires
push_level-requires g t c κs within =
    let image = c.args.index.now in
    let o = c.args.object.now in
    let p = c.in-Some.named in
    let left : 0 < c.args.below = level_left c.args.below c.object_below.result p c.object_below.ensures.none c.in-Some.is in
    let named = sym (c.object_below.ensures.named left) ∙ c.in-Some.is in
    let known = subst (λ (cs : List Class). IsKnown cs p.kind (length p.words)) (sym c.requires.classes) (named_known image o p c.loop-slot.slot c.requires.limits named) in
    (omega (arith, c.decreases, left), (within, (c.requires.limits, (c.requires.classes, (known, omega (arith, c.requires.levels, left))))))

pub returns-in_err-push_level-clause-refused : goal.returns-in_err-push_level-clause-refused
returns-in_err-push_level-clause-refused g t c =
    let image = c.args.index.now in
    let o = c.args.object.now in
    let n = c.args.below in
    let size = ap (λ (ws : List ℕ). length ws) c.words-slot-end.ensures in
    let l : c.loop-slot.slot < length o.words = omega (arith, c.loop-slot-test.true, size) in
    let left : 0 < n = level_left n c.object_below.result c.in-Some.named c.object_below.ensures.none c.in-Some.is in
    let down : n ≡ (n - 1) + 1 = omega (arith, left) in
    let named = sym (c.object_below.ensures.named left) ∙ c.in-Some.is in
    let p = err_from_is_err_and c.from_residual-in_err-push_level.result c.from_residual-in_err-push_level.ensures.1 in
    rw (p.1, p.2)
    (object_refused n (n - 1) image c.args.level o c.in-Some.named c.loop-slot.slot c.loop-slot.rows.room c.push_slot.new.rows.room c.args.rows.now.room c.in_err-push_level.field-0.0 l down named c.loop-slot.invariant.room c.in_ok-push_slot.ensures.room c.in_err-push_level.ensures.refused)

pub loop-slot-preserved : goal.loop-slot-preserved
loop-slot-preserved g t c =
    let image = c.args.index.now in
    let o = c.args.object.now in
    let n = c.args.below in
    let k = c.loop-slot.slot in
    let left : 0 < n = level_left n c.object_below.result c.in-Some.named c.object_below.ensures.none c.in-Some.is in
    let down : n ≡ (n - 1) + 1 = omega (arith, left) in
    let named = sym (c.object_below.ensures.named left) ∙ c.in-Some.is in
    record {
      text = text_with n (n - 1) image c.args.classes.now c.args.level o c.in-Some.named k c.args.rows.now.text.items c.loop-slot.rows.text.items c.push_slot.new.rows.text.items c.push_level.new.rows.text.items c.requires.classes down named c.loop-slot.invariant.text c.in_ok-push_slot.ensures.text c.in_ok-push_level.ensures.text;
      room = room_with n (n - 1) image c.args.level o c.in-Some.named k c.loop-slot.rows.room c.push_slot.new.rows.room c.push_level.new.rows.room c.args.rows.now.room down named c.loop-slot.invariant.room c.in_ok-push_slot.ensures.room c.in_ok-push_level.ensures.room;
    }
