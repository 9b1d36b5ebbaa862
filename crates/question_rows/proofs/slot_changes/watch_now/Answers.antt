use Rattle.std.proofs.Common.{◌≡◌, sym, subst, inl, inr, ap, refl, ◌∙◌, IsSome}
use Rattle.heap_world.specs.Regions.{object_at}
use Rattle.heap_trail.specs.Trail.{Trail}
use Rattle.heap_trail.proofs.RewoundMachines.{rewound_none}
use Rattle.heap_questions.specs.PastTrails.{seen_slot}
use Rattle.question_words.specs.Moments.{no_object_text, told_text}
use Rattle.question_rows.specs.SlotChanges.{IsWatchText}
use Rattle.question_rows.proofs.slot_changes.watch_now.Goals as goal

pub slot_now-requires : goal.slot_now-requires
slot_now-requires c =
    let t = c.args.machine.now.trail in
    let e : c.new-past.result ≡ t = c.new-past.ensures ∙ rewound_none t in
    subst (λ (u : Trail). IsSome (object_at u.current.regions c.in-Some.at)) e c.in-Some.ensures.1

pub changes_of_slot-requires : goal.changes_of_slot-requires
changes_of_slot-requires c =
    let t = c.args.machine.now.trail in
    let e : c.new-past.result ≡ t = c.new-past.ensures ∙ rewound_none t in
    c.slot_now.ensures ∙ ap (λ (u : Trail). seen_slot u.current c.in-Some.at c.args.slot) (sym e)

pub returns-in-Some : goal.returns-in-Some
returns-in-Some c =
    let t = c.args.machine.now.trail in
    let e : c.new-past.result ≡ t = c.new-past.ensures ∙ rewound_none t in
    subst (λ (u : Trail). IsWatchText c.args.id c.args.slot u (told_text c.changes_of_slot.result)) e (inl (c.in-Some.at, c.in-Some.ensures, c.changes_of_slot.ensures))

pub returns-in-None : goal.returns-in-None
returns-in-None c =
    let t = c.args.machine.now.trail in
    let e : c.new-past.result ≡ t = c.new-past.ensures ∙ rewound_none t in
    subst (λ (u : Trail). IsWatchText c.args.id c.args.slot u no_object_text) e (inr (c.in-None.ensures, refl))
