use Rattle.std.proofs.Common.{◌≡◌, ◌∙◌, ◌+◌, ◌-◌, ◌<◌, ap, sym, subst, inl, inr, length, get_or, arith, ℕ}
use Rattle.std.specs.Prelude.{nat_eq, if◌then◌else◌}
use Rattle.id_table.specs.Tables.{home, looked_at}
use Rattle.id_table.proofs.Probes.{home_is_looked_at_first, looked_at_is_found, next_slot_looked_at, no_others_before_first, none_before_first, not_there, others_and_one, looked_at_within, none_empty_and_one}
use Rattle.id_table.proofs.probing.probe.Goals as goal

pub loop-d-init : goal.loop-d-init
loop-d-init c = record {
  slot = c.home-slot.ensures.value ∙ home_is_looked_at_first (length c.args.slots.now) (home (length c.args.slots.now) c.args.id) (subst (λ (h : ℕ). h < length c.args.slots.now) c.home-slot.ensures.value c.home-slot.ensures.within);
  taken = none_before_first c.args.slots.now c.args.id;
  others = no_others_before_first c.args.slots.now c.args.ids.now c.args.id;
}

pub bounds-slots-slot : goal.bounds-slots-slot
bounds-slots-slot c =
    let size = length c.args.slots.now in
    let first = home size c.args.id in
    let within : first < size = subst (λ (h : ℕ). h < size) c.home-slot.ensures.value c.home-slot.ensures.within in
    subst (λ (k : ℕ). k < size) (sym c.loop-d.invariant.slot) (looked_at_within size first c.loop-d._d within c.loop-d-test.true)

pub offset_bounds-slots-slot : goal.offset_bounds-slots-slot
offset_bounds-slots-slot c =
    let size = length c.args.slots.now in
    let first = home size c.args.id in
    let within : first < size = subst (λ (h : ℕ). h < size) c.home-slot.ensures.value c.home-slot.ensures.within in
    let inside : c.loop-d.slot < size = subst (λ (k : ℕ). k < size) (sym c.loop-d.invariant.slot) (looked_at_within size first c.loop-d._d within c.loop-d-test.true) in
    omega (arith, inside, c.requires.size)

pub returns-then-number-eq0 : goal.returns-then-number-eq0
returns-then-number-eq0 c =
    let slots = c.args.slots.now in
    let size = length slots in
    let first = home size c.args.id in
    let within : first < size = subst (λ (h : ℕ). h < size) c.home-slot.ensures.value c.home-slot.ensures.within in
    let empty : looked_at slots c.args.id c.loop-d._d ≡ 0 = ap (λ (k : ℕ). get_or slots k 0) (sym c.loop-d.invariant.slot) ∙ c.if-number-eq0.true in (
      not_there slots c.args.ids.now c.args.id c.loop-d._d c.requires c.loop-d.invariant.others (inl empty),
      record {
        others = c.loop-d._d;
        within = c.loop-d-test.true;
        there = subst (λ (k : ℕ). k < size) (sym c.loop-d.invariant.slot) (looked_at_within size first c.loop-d._d within c.loop-d-test.true);
        place = c.loop-d.invariant.slot;
        empty = c.if-number-eq0.true;
        taken = c.loop-d.invariant.taken;
      },
    )

pub returns-then-ids-number : goal.returns-then-ids-number
returns-then-ids-number c = looked_at_is_found c.args.slots.now c.args.ids.now c.args.id c.loop-d.slot c.requires c.if-number-eq0.false c.if-ids-number.true

pub loop-d-preserved : goal.loop-d-preserved
loop-d-preserved c =
    let slots = c.args.slots.now in
    let ids = c.args.ids.now in
    let size = length slots in
    let first = home size c.args.id in
    let within : first < size = subst (λ (h : ℕ). h < size) c.home-slot.ensures.value c.home-slot.ensures.within in
    record {
      slot = c.after-slot.ensures ∙ (ap (λ (k : ℕ). if nat_eq (k + 1) size then 0 else k + 1) c.loop-d.invariant.slot ∙ next_slot_looked_at size first c.loop-d._d within c.loop-d-test.true);
      taken = none_empty_and_one slots c.args.id c.loop-d._d c.loop-d.invariant.taken (λ z. c.if-number-eq0.false (ap (λ (k : ℕ). get_or slots k 0) c.loop-d.invariant.slot ∙ z));
      others = others_and_one slots ids c.args.id c.loop-d._d c.loop-d.invariant.others (λ z. c.if-ids-number.false (ap (λ (k : ℕ). get_or ids (get_or slots k 0 - 1) 0) c.loop-d.invariant.slot ∙ z));
    }

pub returns : goal.returns
returns c = not_there c.args.slots.now c.args.ids.now c.args.id c.loop-d._d c.requires c.loop-d.invariant.others (inr c.loop-d-test.false)
