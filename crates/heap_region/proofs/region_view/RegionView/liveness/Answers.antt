use Rattle.std.proofs.Common.{◌≡◌, Bool, Option, Some, None, option_map, refl, sym, ap, ◌∙◌}
use Rattle.heap_region.specs.Quarters.{since}
use Rattle.heap_region.specs.Regions.{Object}
use Rattle.heap_region.specs.Turns.{object_turned_by}
use Rattle.heap_region.specs.declared.quarter.Quarter.{Quarter}
use Rattle.heap_region.proofs.LateTurns.{cell_of_turned, nothing_missed}
use Rattle.heap_region.proofs.region_view.RegionView.liveness.Goals as goal

abbrev bits_of : Object → Bool × Bool
bits_of o = (o.live, o.mark)

abbrev live_bit_of : Object → Bool
live_bit_of o = o.live

none_shown : (q : Quarter) (x : Option Object) → None ≡ option_map bits_of x → None ≡ option_map live_bit_of (option_map (object_turned_by q) x)
none_shown q None e = refl
none_shown q (Some o) e = cc

live_bit_told : (x : Option Object) (bits : Bool × Bool) → Some bits ≡ option_map bits_of x → Some bits.0 ≡ option_map live_bit_of x
live_bit_told None bits e = cc
live_bit_told (Some o) bits e = (let same : bits ≡ bits_of o = cc in ap (λ (p : Bool × Bool). Some p.0) same)

live_bit_shown : (q : Quarter) (x : Option Object) (bits r : Bool × Bool) → Some bits ≡ option_map bits_of x → ((o : Object) → o.live ≡ bits.0 → o.mark ≡ bits.1 → (r.0 ≡ (object_turned_by q o).live) × (r.1 ≡ (object_turned_by q o).mark))
    → Some r.0 ≡ option_map live_bit_of (option_map (object_turned_by q) x)
live_bit_shown q None bits r e turns = cc
live_bit_shown q (Some o) bits r e turns =
    let same : bits_of o ≡ bits = cc in
    ap Some (turns o (ap (λ (p : Bool × Bool). p.0) same) (ap (λ (p : Bool × Bool). p.1) same)).0

pub returns-in_default : goal.returns-in_default
returns-in_default c =
    let i = c.self.inside in
    rw (← c.self.view_is, cell_of_turned (since i.turns i.seen) i.storage.now c.args.cell) (none_shown (since i.turns i.seen) _ c.in_default.ensures)

pub returns-then-is : goal.returns-then-is
returns-then-is c =
    let i = c.self.inside in
    rw (← c.self.view_is, nothing_missed i.turns i.seen i.storage.now (sym c.is.ensures ∙ c.if-is.true)) (live_bit_told _ c.in-Some.bits c.in-Some.ensures)

pub returns : goal.returns
returns c =
    let i = c.self.inside in
    rw (← c.self.view_is, cell_of_turned (since i.turns i.seen) i.storage.now c.args.cell) (live_bit_shown (since i.turns i.seen) _ c.in-Some.bits c.bits_turned.result c.in-Some.ensures (rw c.since.ensures at c.bits_turned.ensures))
