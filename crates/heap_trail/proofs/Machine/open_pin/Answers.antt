use Rattle.std.proofs.Common.{◌≡◌, ◌+◌, ◌-◌, ◌<◌, ◌≤◌, true, false, length, List, inl, inr, sym, ap, subst, ◌∙◌, arith}
use Rattle.std.proofs.lemmas.Result.{err_from_is_err_and}
use Rattle.heap_class.specs.declared.Refusal.TheVariants.{NotRetained, PinLimit}
use Rattle.heap_trail.specs.declared.Action.TheVariants.{OpenPin}
use Rattle.heap_trail.specs.declared.Reply.TheVariants.{Pinned, Refused}
use Rattle.heap_trail.specs.declared.held.NumberedPin.{NumberedPin}
use Rattle.heap_world.specs.declared.Limits.{Limits}
use Rattle.heap_trail.specs.Limits.{last_pin}
use Rattle.heap_trail.specs.Pins.{is_retained}
use Rattle.heap_trail.specs.Machine.{Machine, Denied, MayStand, acted}
use Rattle.heap_trail.specs.Records.{IsPinning, machine_of}
use Rattle.heap_trail.proofs.RecordedPast.{length-past_of}
use Rattle.heap_trail.proofs.PinsAtPlaces.{retained_parts, pinning_more, open_done, open_unretained, open_full, open_starved, full_by_many, full_by_number}
use Rattle.heap_trail.proofs.Machine.open_pin.Goals.{then-len-limits-via-then-len-limits, then-len-limits-via-else-len-limits+then-self-gt-LAST_PIN}
use Rattle.heap_trail.proofs.Machine.open_pin.Goals as goal

pub returns-then-not-has_retained-clause-refused : goal.returns-then-not-has_retained-clause-refused
returns-then-not-has_retained-clause-refused c =
    let i = c.self.inside in
    let r : is_retained c.unwrap_or-at.result (machine_of i.ids i.world i.records i.place i.keep i.next i.pins.items).trail ≡ false
    = ap (λ (m : Machine). is_retained c.unwrap_or-at.result m.trail) c.self.view_is ∙ sym c.has_retained.ensures ∙ c.if-not-has_retained.true in
    inl (subst (λ (m : Machine). acted m (OpenPin c.args.at) ≡ (m, Refused NotRetained)) c.self.view_is
    (open_unretained i.ids i.world i.records i.place i.keep i.next i.pins.items c.args.at c.unwrap_or-at.result c.unwrap_or-at.ensures r))

pub returns-then-len-limits-clause-refused : goal.returns-then-len-limits-clause-refused
returns-then-len-limits-clause-refused c =
    let i = c.self.inside in
    let r : is_retained c.unwrap_or-at.result (machine_of i.ids i.world i.records i.place i.keep i.next i.pins.items).trail ≡ true
    = ap (λ (m : Machine). is_retained c.unwrap_or-at.result m.trail) c.self.view_is ∙ sym c.has_retained.ensures ∙ c.if-not-has_retained.false in
    elim c.then-len-limits.branch [
      | then-len-limits-via-then-len-limits w ↦ inl (subst (λ (m : Machine). acted m (OpenPin c.args.at) ≡ (m, Refused PinLimit)) c.self.view_is
          (open_full i.ids i.world i.records i.place i.keep i.next i.pins.items c.args.at c.unwrap_or-at.result c.unwrap_or-at.ensures r
          (full_by_many i.world.limits.pins (length i.pins.items) i.next (omega (arith, c.len.ensures, ap (λ (l : Limits). l.pins) c.limits.ensures.value, w.if-len-limits.true, i.pins.ok.0)))))
      | then-len-limits-via-else-len-limits+then-self-gt-LAST_PIN w ↦ inl (subst (λ (m : Machine). acted m (OpenPin c.args.at) ≡ (m, Refused PinLimit)) c.self.view_is
          (open_full i.ids i.world i.records i.place i.keep i.next i.pins.items c.args.at c.unwrap_or-at.result c.unwrap_or-at.ensures r
          (full_by_number i.world.limits.pins (length i.pins.items) i.next (omega (arith, w.if-self-gt-LAST_PIN.true)))))
    ]

pub overflow_sub-self-inside : goal.overflow_sub-self-inside
overflow_sub-self-inside c =
    let i = c.self.inside in
    let r : is_retained c.unwrap_or-at.result (machine_of i.ids i.world i.records i.place i.keep i.next i.pins.items).trail ≡ true
    = ap (λ (m : Machine). is_retained c.unwrap_or-at.result m.trail) c.self.view_is ∙ sym c.has_retained.ensures ∙ c.if-not-has_retained.false in
    (retained_parts (machine_of i.ids i.world i.records i.place i.keep i.next i.pins.items).trail c.unwrap_or-at.result r).0

pub past_pin-requires-clause-retained : goal.past_pin-requires-clause-retained
past_pin-requires-clause-retained c =
    let i = c.self.inside in
    let r : is_retained c.unwrap_or-at.result (machine_of i.ids i.world i.records i.place i.keep i.next i.pins.items).trail ≡ true
    = ap (λ (m : Machine). is_retained c.unwrap_or-at.result m.trail) c.self.view_is ∙ sym c.has_retained.ensures ∙ c.if-not-has_retained.false in
    let parts = retained_parts (machine_of i.ids i.world i.records i.place i.keep i.next i.pins.items).trail c.unwrap_or-at.result r in
    subst (λ n. i.place - c.unwrap_or-at.result ≤ n) (length-past_of i.world i.records.items) parts.1

pub returns-in_err-pin-clause-refused : goal.returns-in_err-pin-clause-refused
returns-in_err-pin-clause-refused c =
    let i = c.self.inside in
    let p = err_from_is_err_and c.from_residual.result c.from_residual.ensures.1 in
    let r : is_retained c.unwrap_or-at.result (machine_of i.ids i.world i.records i.place i.keep i.next i.pins.items).trail ≡ true
    = ap (λ (m : Machine). is_retained c.unwrap_or-at.result m.trail) c.self.view_is ∙ sym c.has_retained.ensures ∙ c.if-not-has_retained.false in
    let few : length i.pins.items < i.world.limits.pins = omega (arith, c.len.ensures, ap (λ (l : Limits). l.pins) c.limits.ensures.value, c.if-len-limits.false, i.pins.ok.0) in
    let low : i.next ≤ last_pin = omega (arith, c.if-self-gt-LAST_PIN.false) in
    rw (p.1, p.2)
    (inr (
      subst (λ (m : Machine). MayStand m (OpenPin c.args.at, Denied)) c.self.view_is
          (open_starved i.ids i.world i.records i.place i.keep i.next i.pins.items c.args.at c.unwrap_or-at.result c.unwrap_or-at.ensures r few low),
      c.in_err-pin.ensures.refused,
    ))

pub invariant_of-self : goal.invariant_of-self
invariant_of-self c =
    let i = c.self.inside in
    let r : is_retained c.unwrap_or-at.result (machine_of i.ids i.world i.records i.place i.keep i.next i.pins.items).trail ≡ true
    = ap (λ (m : Machine). is_retained c.unwrap_or-at.result m.trail) c.self.view_is ∙ sym c.has_retained.ensures ∙ c.if-not-has_retained.false in
    let parts = retained_parts (machine_of i.ids i.world i.records i.place i.keep i.next i.pins.items).trail c.unwrap_or-at.result r in
    let few : length i.pins.items < i.world.limits.pins = omega (arith, c.len.ensures, ap (λ (l : Limits). l.pins) c.limits.ensures.value, c.if-len-limits.false, i.pins.ok.0) in
    let low : i.next ≤ last_pin = omega (arith, c.if-self-gt-LAST_PIN.false) in (
      c.self.invariant.0,
      subst (λ (ss : List NumberedPin). IsPinning i.ids i.world i.records i.place (i.next + 1) ss) (sym c.push_reserved.ensures.items)
          (pinning_more i.ids i.world i.records i.place i.next c.unwrap_or-at.result i.pins.items c.in_ok-pin.pin c.self.invariant.1 parts.0 c.in_ok-pin.ensures.held (omega (arith, few, c.self.invariant.0.legal.sized.limits.pins)) low),
      subst (λ n. i.world.limits.pins ≤ n) (sym c.push_reserved.ensures.capacity) c.self.invariant.2,
    )

pub returns-clause-done : goal.returns-clause-done
returns-clause-done c =
    let i = c.self.inside in
    let r : is_retained c.unwrap_or-at.result (machine_of i.ids i.world i.records i.place i.keep i.next i.pins.items).trail ≡ true
    = ap (λ (m : Machine). is_retained c.unwrap_or-at.result m.trail) c.self.view_is ∙ sym c.has_retained.ensures ∙ c.if-not-has_retained.false in
    let few : length i.pins.items < i.world.limits.pins = omega (arith, c.len.ensures, ap (λ (l : Limits). l.pins) c.limits.ensures.value, c.if-len-limits.false, i.pins.ok.0) in
    let low : i.next ≤ last_pin = omega (arith, c.if-self-gt-LAST_PIN.false) in
    ap (λ (m : Machine). acted m (OpenPin c.args.at)) (sym c.self.view_is)
    ∙ open_done i.ids i.world i.records i.place i.keep i.next i.pins.items c.args.at c.unwrap_or-at.result c.in_ok-pin.pin c.unwrap_or-at.ensures r c.in_ok-pin.ensures.held few low
    ∙ ap (λ (ss : List NumberedPin). (machine_of i.ids i.world i.records i.place i.keep (i.next + 1) ss, Pinned i.next c.unwrap_or-at.result)) (sym c.push_reserved.ensures.items)
