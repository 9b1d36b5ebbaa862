use Rattle.std.proofs.Common.{◌≡◌, ◌+◌, ◌<◌, ◌≤◌, ◌&&◌, Bool, ap, arith, cond, not, sym, subst, ◌∙◌}
use Rattle.std.specs.Prelude.{is_some, reverse}
use Rattle.heap_region.specs.Regions.{object_of}
use Rattle.heap_trail.specs.Trail.{retained, state_ago}
use Rattle.heap_world.specs.State.{HeapState}
use Rattle.heap_trail.proofs.RetainedRecords.{has_record}
use Rattle.heap_questions.specs.Lives.{AreLives, HasStayed, IsLifeAgo, IsLifeIf, stands_in}
use Rattle.heap_questions.specs.PastTrails.{HasCellSize, IsCellOf, size_before}
use Rattle.heap_questions.proofs.PastIds.{legal_ago}
use Rattle.heap_questions.proofs.PastTrails.{reclaim_cells, size_begins, size_step}
use Rattle.heap_questions.proofs.PastLives.{begins_at_last, begins_here, had_id, life_told, one_life_more, stands_by_cell, stayed_more, stayed_now}
use Rattle.heap_questions.proofs.Walk.{now_is}
use Rattle.heap_questions.proofs.past.lives.newest_lives.Goals as goal
use Rattle.heap_questions.proofs.past.lives.newest_lives.Goals.{else-stood, else-stood-2, then-stood, then-stood-2}

pub loop-n-init : goal.loop-n-init
loop-n-init c =
    let t = c.args.machine.now.trail in
    let size = c.size_at-size.result in
    let sized : HasCellSize (state_ago 0 t) c.args.region size = size_begins c.world.result.now t c.args.region size c.world.ensures.value c.size_at-size.ensures.value in
    let legal = legal_ago c.args.machine.now.keep t 0 c.place-place.ensures.trail (let z : 0 ≤ retained t = omega arith in z) in
    let cell = c.cell_by.result in
    let stands : c.stands_in-stood.result ≡ is_some (object_of (state_ago 0 t).regions c.args.id) =
    c.stands_in-stood.ensures ∙ ap (λ (w : HeapState). stands_in w cell) (c.world-2.ensures.value ∙ sym (now_is t)) ∙ sym (stands_by_cell (state_ago 0 t) c.args.id size c.args.region cell legal sized c.requires c.cell_by.ensures.cell) in
    record {
      sized = sized;
      limit = c.size_at-size.ensures.limit;
      stands = stands;
      since = stayed_now t c.args.id c.stands_in-stood.result stands;
      few = omega arith;
      told = ap reverse c.new-lives.ensures.items;
    }

pub size_before-size-requires-clause-cells : goal.size_before-size-requires-clause-cells
size_before-size-requires-clause-cells c =
    let t = c.args.machine.now.trail in
    let n = c.loop-n.n in
    let left = c.record_ago-record.result.now in
    let r = has_record c.args.machine.now.keep t n left c.place-place.ensures.trail c.record_ago-record.ensures in
    reclaim_cells left r.0 (state_ago (n + 1) t) (state_ago n t) r.1

pub loop-n-preserved : goal.loop-n-preserved
loop-n-preserved c =
    let t = c.args.machine.now.trail in
    let x = c.args.id in
    let n = c.loop-n.n in
    let i = c.loop-n.invariant in
    let stood = c.loop-n.stood in
    let was = c.stood_in-was.result in
    let newest = c.loop-n.newest in
    let left = c.record_ago-record.result.now in
    let r = has_record c.args.machine.now.keep t n left c.place-place.ensures.trail c.record_ago-record.ensures in
    let within : n < retained t = omega (arith, c.loop-n-test.true, c.retained_count-n-end.ensures) in
    let legal = legal_ago c.args.machine.now.keep t n c.place-place.ensures.trail (let z : n ≤ retained t = omega (arith, within) in z) in
    let sized : HasCellSize (state_ago (n + 1) t) c.args.region c.size_before-size.result =
    subst (HasCellSize (state_ago (n + 1) t) c.args.region) (sym c.size_before-size.ensures.value) (size_step left r.0 (state_ago (n + 1) t) (state_ago n t) c.args.region c.loop-n.size r.1 i.sized) in
    let cell : IsCellOf (size_before left c.args.region c.loop-n.size) c.args.region x c.cell_by-in-loop-n.result =
    subst (λ k. IsCellOf k c.args.region x c.cell_by-in-loop-n.result) c.size_before-size.ensures.value c.cell_by-in-loop-n.ensures.cell in
    let stands : was ≡ is_some (object_of (state_ago (n + 1) t).regions x) =
    c.stood_in-was.ensures ∙ had_id left r.0 (state_ago (n + 1) t) (state_ago n t) x c.loop-n.size c.args.region c.cell_by-in-loop-n.result stood r.1 legal i.sized c.requires cell i.stands in
    let begins = begins_here t x n newest stood was within i.stands stands i.since in
    let asked : c.if-stood.life_if ≡ (stood && not was) = elim c.if-stood.branch [
      | then-stood w ↦ w.life_if-is ∙ sym (ap (λ b. b && not was) w.if-stood.true)
      | else-stood w ↦ w.life_if-is ∙ w.if-stood.false ∙ sym (ap (λ b. b && not was) w.if-stood.false)
    ] in
    let first = c.in_ok-life_if.field-0 in
    let told : IsLifeAgo t x n first = life_told t x n newest (stood && not was) first begins.0 begins.1 (subst (λ b. IsLifeIf t x n newest b first) asked c.in_ok-life_if.ensures.life) in
    let since : c.if-stood-2.newest ≡ cond stood newest (n + 1) = elim c.if-stood-2.branch [
      | then-stood-2 w ↦ w.newest-is ∙ sym (ap (λ (b : Bool). cond b newest (n + 1)) w.if-stood-2.true)
      | else-stood-2 w ↦ w.newest-is ∙ sym (ap (λ (b : Bool). cond b newest (n + 1)) w.if-stood-2.false)
    ] in
    let few : c.if-stood-2.newest ≤ n + 1 = elim c.if-stood-2.branch [
      | then-stood-2 w ↦ omega (arith, w.newest-is, i.few)
      | else-stood-2 w ↦ omega (arith, w.newest-is)
    ] in
    record {
      sized = sized;
      limit = c.size_before-size.ensures.limit;
      stands = stands;
      since = λ e. subst (HasStayed t x (n + 1)) (sym since) (stayed_more t x n newest stood was i.stands stands i.since e);
      few = few;
      told = one_life_more t x n c.loop-n.lives.items c.push_life.new.lives.items first i.told told c.in_ok-push_life.ensures.added;
    }

pub returns-clause-lives : goal.returns-clause-lives
returns-clause-lives c =
    let t = c.args.machine.now.trail in
    let x = c.args.id in
    let i = c.loop-n.invariant in
    let all : c.loop-n.n ≡ retained t = omega (arith, c.loop-n-test.false, c.loop-n.auto.n-end, c.retained_count-n-end.ensures) in
    let begins = begins_at_last t x c.loop-n.newest c.loop-n.stood
    (i.stands ∙ ap (λ k. is_some (object_of (state_ago k t).regions x)) all)
    (λ e. subst (λ k. HasStayed t x k c.loop-n.newest) all (i.since e)) in
    let first = c.in_ok-life_if-2.field-0 in
    let told : IsLifeAgo t x (retained t) first = life_told t x (retained t) c.loop-n.newest c.loop-n.stood first begins.0 begins.1
    (subst (λ k. IsLifeIf t x k c.loop-n.newest c.loop-n.stood first) c.retained_count-oldest.ensures c.in_ok-life_if-2.ensures.life) in
    one_life_more t x (retained t) c.loop-n.lives.items c.push_life-2.new.lives.items first
    (subst (λ k. AreLives t x k (reverse c.loop-n.lives.items)) all i.told) told c.in_ok-push_life-2.ensures.added
