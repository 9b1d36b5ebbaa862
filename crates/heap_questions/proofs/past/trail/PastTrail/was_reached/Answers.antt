use Rattle.std.proofs.Common.{◌+◌, ◌≤◌, sym, ap, subst, ◌∙◌, arith}
use Rattle.std.specs.Prelude.{◌↔◌, IsTrue}
use Rattle.heap_world.specs.Reach.{Reaches}
use Rattle.heap_world.specs.State.{HeapState}
use Rattle.heap_pins.specs.Pin.{pin_image}
use Rattle.heap_pins.specs.View.{PinShown}
use Rattle.heap_trail.specs.Trail.{Trail, retained, state_ago}
use Rattle.heap_questions.proofs.PastIds.{legal_ago}
use Rattle.heap_questions.proofs.PastLosses.{told_by_path}
use Rattle.heap_trail.proofs.Rewinds.{retained_after_rewind}
use Rattle.heap_questions.proofs.PastTrails.{state_past}
use Rattle.heap_questions.proofs.past.trail.PastTrail.was_reached.Goals as goal

pub overflow_add-self-inside : goal.overflow_add-self-inside
overflow_add-self-inside c =
    let ago = c.self.inside.ago in
    omega (arith, c.requires, ap retained c.self.view_is, retained_after_rewind ago c.self.inside.machine.now.trail, c.self.invariant, c.retained_count-count.ensures, c.retained_count-count.type_inv)

pub pin_ago-requires : goal.pin_ago-requires
pin_ago-requires c =
    let t = c.self.inside.machine.now.trail in
    let ago = c.self.inside.ago in
    omega (arith, c.requires, ap retained c.self.view_is, retained_after_rewind ago t, c.self.invariant)

pub returns-clause-told : goal.returns-clause-told
returns-clause-told c =
    let m = c.self.inside.machine.now in
    let t = m.trail in
    let ago = c.self.inside.ago in
    let n = ago + c.args.n in
    let few : n ≤ retained t = omega (arith, c.requires, ap retained c.self.view_is, retained_after_rewind ago t, c.self.invariant) in
    let w = state_ago n t in
    let v = c.view.result in
    let image = pin_image v.pin v.state in
    let e = ap (λ (s : PinShown). pin_image s.pin s.state) c.view.ensures ∙ c.in_ok-pin.ensures.shown.image in
    let told = subst (λ b. IsTrue b ↔ Reaches w c.args.id) (sym c.is_some.ensures)
    (told_by_path w image c.args.id c.in_ok-path.path (legal_ago m.keep t n c.place-place.ensures.trail few) e c.in_ok-path.ensures.path c.in_ok-path.ensures.none) in
    subst (λ (v : HeapState). IsTrue c.is_some.result ↔ Reaches v c.args.id) (sym (state_past t ago c.args.n few) ∙ ap (λ (u : Trail). state_ago c.args.n u) c.self.view_is) told
