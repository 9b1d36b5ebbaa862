use Rattle.std.proofs.Common.{sym}
use Rattle.std.proofs.lemmas.Result.{err_from_is_err_and}
use Rattle.heap_world.proofs.Barrier.{source_there, store_by, logged_word_is_old_word, store_refused_without_log_room, store_made, store_held, old_by}
use Rattle.heap_world.proofs.WriteEvents.{place_of_id_by_ref}
use Rattle.heap_world.proofs.World.store.Goals as goal

pub word-old-requires-clause-there : goal.word-old-requires-clause-there
word-old-requires-clause-there c = (store_by _ _ _ _ _ c.args.source _ _ c.self.invariant c.self.view_is c.in_ok-at.ensures.accepted c.in_ok-at.ensures.placed).there

pub word-old-requires-clause-within : goal.word-old-requires-clause-within
word-old-requires-clause-within c = (store_by _ _ _ _ _ c.args.source _ _ c.self.invariant c.self.view_is c.in_ok-at.ensures.accepted c.in_ok-at.ensures.placed).within

pub register-word-requires : goal.register-word-requires
register-word-requires c = source_there _ _ _ _ _ c.in_ok-at.ensures.accepted

pub returns-in_err-logged-clause-answered : goal.returns-in_err-logged-clause-answered
returns-in_err-logged-clause-answered c =
    let p = err_from_is_err_and c.from_residual-in_err-logged.result c.from_residual-in_err-logged.ensures.1 in
    rw (p.1, p.2) (store_refused_without_log_room _ _ _ _ _ _ _ _ c.self.view_is c.in_ok-at.ensures.accepted
    (old_by _ _ _ _ _ _ _ _ _ c.self.invariant c.self.view_is c.in_ok-at.ensures.accepted c.in_ok-at.ensures.placed c.word-old.ensures) c.in_err-logged.ensures.refused)

pub set_word-requires-clause-there : goal.set_word-requires-clause-there
set_word-requires-clause-there c = (store_by _ _ _ _ _ c.args.source _ _ c.self.invariant c.self.view_is c.in_ok-at.ensures.accepted c.in_ok-at.ensures.placed).there

pub set_word-requires-clause-within : goal.set_word-requires-clause-within
set_word-requires-clause-within c = (store_by _ _ _ _ _ c.args.source _ _ c.self.invariant c.self.view_is c.in_ok-at.ensures.accepted c.in_ok-at.ensures.placed).within

pub invariant_of-self-2 : goal.invariant_of-self-2
invariant_of-self-2 c =
    let old = old_by _ _ _ _ _ _ _ _ _ c.self.invariant c.self.view_is c.in_ok-at.ensures.accepted c.in_ok-at.ensures.placed c.word-old.ensures in
    store_held _ _ _ _ _ _ _ _ _ _ _ _ _ c.self.invariant c.self.view_is c.in_ok-at.ensures.accepted c.in_ok-at.ensures.placed old c.register-word.ensures
    (logged_word_is_old_word _ _ _ _ _ _ _ c.self.view_is old c.in_ok-logged.ensures.logged) c.in_ok-logged.ensures.log c.set_word.ensures

pub returns-clause-stored : goal.returns-clause-stored
returns-clause-stored c =
    let old = old_by _ _ _ _ _ _ _ _ _ c.self.invariant c.self.view_is c.in_ok-at.ensures.accepted c.in_ok-at.ensures.placed c.word-old.ensures in
    store_made _ _ _ _ _ _ _ _ _ _ _ _ _ c.self.view_is c.in_ok-at.ensures.placed old c.register-word.ensures
    (logged_word_is_old_word _ _ _ _ _ _ _ c.self.view_is old c.in_ok-logged.ensures.logged) c.in_ok-logged.ensures.log c.set_word.ensures

pub returns-clause-slot : goal.returns-clause-slot
returns-clause-slot c = record {
  placed = sym (place_of_id_by_ref c.args.self.now _ _ c.in_ok-at.ensures.placed);
  held = old_by _ _ _ _ _ _ _ _ _ c.self.invariant c.self.view_is c.in_ok-at.ensures.accepted c.in_ok-at.ensures.placed c.word-old.ensures;
  within = (store_by _ _ _ _ _ c.args.source _ _ c.self.invariant c.self.view_is c.in_ok-at.ensures.accepted c.in_ok-at.ensures.placed).few;
}

pub returns-clause-logged : goal.returns-clause-logged
returns-clause-logged c = logged_word_is_old_word _ _ _ _ _ _ _ c.self.view_is (old_by _ _ _ _ _ _ _ _ _ c.self.invariant c.self.view_is c.in_ok-at.ensures.accepted c.in_ok-at.ensures.placed c.word-old.ensures) c.in_ok-logged.ensures.logged
