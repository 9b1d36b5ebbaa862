use Rattle.std.proofs.Common.{◌≡◌, sym, subst, inl, inr, ap, ◌∙◌, IsSome}
use Rattle.heap_world.specs.Regions.{object_at}
use Rattle.heap_trail.specs.Trail.{Trail}
use Rattle.heap_trail.proofs.RewoundMachines.{rewound_none}
use Rattle.heap_questions.specs.PastTrails.{seen_slot}
use Rattle.session_text.specs.Replies.{line_answer_text}
use Rattle.question_rows.specs.Writes.{IsWroteText}
use Rattle.question_rows.proofs.write.wrote_now.Goals as goal

pub slot_now-requires : goal.slot_now-requires
slot_now-requires c =
    let t = c.args.machine.now.trail in
    let e : c.new-past.result ≡ t = c.new-past.ensures ∙ rewound_none t in
    subst (λ (u : Trail). IsSome (object_at u.current.regions c.in-Some.at)) e c.in-Some.ensures.1

pub slot_line-requires : goal.slot_line-requires
slot_line-requires c =
    let t = c.args.machine.now.trail in
    let e : c.new-past.result ≡ t = c.new-past.ensures ∙ rewound_none t in
    c.slot_now.ensures ∙ ap (λ (u : Trail). seen_slot u.current c.in-Some.at c.args.slot) (sym e)

pub returns-in-Some : goal.returns-in-Some
returns-in-Some c =
    let t = c.args.machine.now.trail in
    let e : c.new-past.result ≡ t = c.new-past.ensures ∙ rewound_none t in
    subst (λ (u : Trail). IsWroteText c.args.id c.args.slot u (line_answer_text c.slot_line.result)) e (inl (c.in-Some.at, c.in-Some.ensures, c.slot_line.ensures))

pub returns-in-None : goal.returns-in-None
returns-in-None c =
    let t = c.args.machine.now.trail in
    let e : c.new-past.result ≡ t = c.new-past.ensures ∙ rewound_none t in
    subst (λ (u : Trail). IsWroteText c.args.id c.args.slot u (line_answer_text c.reason_line.result)) e (inr (c.in-None.ensures, c.reason_line.ensures))
