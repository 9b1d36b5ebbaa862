use Rattle.std.proofs.Common.{◌+◌, ◌∙◌, List, ap, arith, subst, sym}
use Rattle.std.specs.Prelude.{All}
use Rattle.heap_class.specs.Classes.{Class}
use Rattle.heap_world.specs.State.{HeapState}
use Rattle.heap_trail.specs.Trail.{retained}
use Rattle.heap_questions.specs.declared.past.lives.Life.{Life}
use Rattle.question_words.specs.Names.{IsClassThere}
use Rattle.question_rows.proofs.LivedRows.{lives_there}
use Rattle.question_rows.proofs.life.lives_text.Goals as goal

pub push_lives-requires : goal.push_lives-requires
push_lives-requires c =
    let t = c.args.machine.now.trail in
    let lives = c.in_ok-lives.lives.items in
    let same = c.all-classes.ensures ∙ (c.classes.ensures ∙ ap (λ (w : HeapState). w.classes) c.world.ensures.value) in
    let all = lives_there c.args.machine.now.keep t c.args.id (retained t + 1) lives c.place-place.ensures.trail (omega arith) c.in_ok-lives.ensures.lives in
    subst (λ (cs : List Class). All (λ (l : Life). IsClassThere cs l.kind) c.as_slice.result.now) (sym same)
    (subst (All (λ (l : Life). IsClassThere t.current.classes l.kind)) (sym c.as_slice.ensures.value) all)
