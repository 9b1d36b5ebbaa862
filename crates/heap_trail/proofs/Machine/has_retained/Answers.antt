use Rattle.std.proofs.Common.{◌≡◌, ◌-◌, ◌<◌, ◌≤◌, ap, subst, ◌∙◌}
use Rattle.std.specs.Prelude.{nat_le}
use Rattle.heap_trail.specs.Machine.{Machine}
use Rattle.heap_trail.proofs.PinsAtPlaces.{retained_below, retained_above}
use Rattle.heap_trail.proofs.Machine.has_retained.Goals as goal

pub returns-then-at-self : goal.returns-then-at-self
returns-then-at-self c =
    let t = c.args.self.now.trail in
    let place : c.self.inside.place ≡ t.place = ap (λ (m : Machine). m.trail.place) c.self.view_is in
    (λ j. nat_le (place j - c.args.at) (c.retained_count.ensures j))
    ∙ retained_below t c.args.at (subst (λ n. c.args.at ≤ n) place c.if-at-self.true)

pub returns-else-at-self : goal.returns-else-at-self
returns-else-at-self c =
    let t = c.args.self.now.trail in
    let place : c.self.inside.place ≡ t.place = ap (λ (m : Machine). m.trail.place) c.self.view_is in
    ap (nat_le c.args.at) place ∙ retained_above t c.args.at (subst (λ n. n < c.args.at) place c.if-at-self.false)
