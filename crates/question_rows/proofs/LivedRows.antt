-- The classes of the objects that had an id are there.
use Rattle.std.proofs.Common.{◌≡◌, ℕ, zero, suc, add-one, ◌+◌, ◌≤◌, List, length, Option, Some, None, IsSome, ap, sym, subst, arith}
use Rattle.std.specs.Prelude.{All, IfSome}
use Rattle.std.proofs.lemmas.List.Elements.{All-cons, All-nil}
use Rattle.heap_class.specs.Classes.{Class}
use Rattle.heap_class.specs.declared.ObjKind.{ObjKind}
use Rattle.heap_class.specs.declared.ObjKind.TheVariants.{Array, Instance, Prim}
use Rattle.heap_class.specs.declared.ObjRef.{ObjRef}
use Rattle.heap_region.specs.Regions.{Object, object_at}
use Rattle.heap_region.proofs.ChangedLookups.{object_at_ref}
use Rattle.heap_world.specs.State.{HeapState}
use Rattle.heap_step.specs.declared.Undo.{Undo}
use Rattle.heap_step.specs.declared.Undo.TheVariants.{Class as ClassRecord}
use Rattle.heap_pins.specs.Walk.{classes_before}
use Rattle.heap_pins.proofs.DumpLimits.{kind_of_slots_is_known}
use Rattle.heap_trail.specs.Laws.{IsTrail}
use Rattle.heap_trail.specs.Trail.{Trail, retained, state_ago}
use Rattle.hprof_text.specs.Image.{IsKnown}
use Rattle.heap_questions.specs.Lives.{AreLives, IsLife, IsLifeAgo, before_lives}
use Rattle.heap_questions.specs.declared.past.lives.Life.{Life}
use Rattle.heap_questions.proofs.PastIds.{came_ago, legal_ago}
use Rattle.heap_questions.proofs.SeenSlots.{object_here}
use Rattle.heap_questions.proofs.ToldObjects.{step_tells_before}
use Rattle.heap_questions.proofs.Walk.{now_is}
use Rattle.question_words.specs.Names.{IsClassThere}
use Rattle.question_rows.proofs.NamedObjects.{known_kind_has_class}

-- ---- classes of the past

no_more : (left : Undo) (n : ℕ) → classes_before left n ≤ n
unfolding classes_before
no_more ClassRecord n = omega arith
no_more left n = omega arith

classes_grow : (keep : ℕ) (t : Trail) (n : ℕ) → IsTrail keep t → n ≤ retained t → length (state_ago n t).classes ≤ length t.current.classes
classes_grow keep t zero trail l = omega (arith, ap (λ (w : HeapState). length w.classes) (now_is t))
classes_grow keep t (suc n) trail l =
    let c = came_ago keep t n trail (omega (arith, l)) in
    let tells = step_tells_before c.1.0 (state_ago (n + 1) t) (state_ago n t) c.0 c.1.1 in
    let less = no_more c.0 (length (state_ago n t).classes) in
    let later = classes_grow keep t n trail (omega (arith, l)) in
    omega (arith, later, tells.classes, less, ap (λ k. length (state_ago k t).classes) (add-one n))

still_there : (few many : List Class) (kind : ObjKind) → length few ≤ length many → IsClassThere few kind → IsClassThere many kind
still_there few many (Instance k) l h = omega (arith, l, h)
still_there few many (Array k) l h = omega (arith, l, h)
still_there few many (Prim kind) l h = tt

-- the class of an object of a retained state
pub kind_there : (keep : ℕ) (t : Trail) (n : ℕ) (at : ObjRef) (o : Object) → IsTrail keep t → n ≤ retained t → object_at (state_ago n t).regions at ≡ Some o → IsClassThere t.current.classes o.kind
kind_there keep t n at o trail within here =
    let w = state_ago n t in
    let known : IsKnown w.classes o.kind (length o.words) = kind_of_slots_is_known w.classes o.kind (length o.words) ((legal_ago keep t n trail within).objects at o here).kind in
    still_there w.classes t.current.classes o.kind (classes_grow keep t n trail within) (known_kind_has_class w.classes o.kind (length o.words) known)

-- ---- lives

life_there : (keep : ℕ) (t : Trail) (x n : ℕ) (l : Life) → IsTrail keep t → n ≤ retained t → IsLife t x n l → IsClassThere t.current.classes l.kind
life_there keep t x n l trail few i =
    let m = i.last in
    let w = state_ago m t in
    let within : m ≤ retained t = omega (arith, i.stayed.within, few) in
    let at = i.told.at in
    let here : IsSome (object_at w.regions at) = subst (λ (y : Option Object). IsSome y) (object_at_ref w.regions x at i.told.named) (i.stayed.each m (omega arith) (omega (arith, i.stayed.within))) in
    let o = object_here w at here in
    let kind : l.kind ≡ o.0.kind = subst (λ (y : Option Object). IfSome y (λ o. l.kind ≡ o.kind)) o.1 i.told.kind in
    subst (IsClassThere t.current.classes) (sym kind) (kind_there keep t m at o.0 trail within o.1)

pub lives_there : (keep : ℕ) (t : Trail) (x n : ℕ) (lives : List Life) → IsTrail keep t → n ≤ retained t + 1 → AreLives t x n lives → All (λ l. IsClassThere t.current.classes l.kind) lives
lives_there keep t x zero lives trail few e = subst (All (λ l. IsClassThere t.current.classes l.kind)) (sym e) (All-nil (λ (l : Life). IsClassThere t.current.classes l.kind))
lives_there keep t x (suc n) lives trail few a =
    subst (All (λ l. IsClassThere t.current.classes l.kind)) (sym a.4) (go a.0 a.2 (lives_there keep t x n a.1 trail (omega (arith, few)) a.3))
  where
    go : (first : Option Life) → IsLifeAgo t x n first → All (λ l. IsClassThere t.current.classes l.kind) a.1 → All (λ l. IsClassThere t.current.classes l.kind) (before_lives first a.1)
    go None h rest = rest
    go (Some l) h rest = All-cons (λ (l : Life). IsClassThere t.current.classes l.kind) l a.1 (life_there keep t x n l trail (omega (arith, few)) h) rest
