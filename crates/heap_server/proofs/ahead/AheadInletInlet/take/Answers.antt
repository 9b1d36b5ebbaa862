use Rattle.std.proofs.Common.{rules, arith, ap, ◌∙◌, ◌++◌, ◌∷◌, [], ℕ}
use Rattle.std.specs.Prelude.{map}
use Rattle.std.proofs.lemmas.List.{map-append}
use Rattle.heap_server.proofs.AheadSeen.{faults_of, bytes_ahead_given_on}
use Rattle.heap_server.proofs.ahead.AheadInletInlet.take.Goals as goal

pub invariant_of-self : goal.invariant_of-self
invariant_of-self g c = (
  c.self.invariant.0,
  c.self.invariant.1,
  bytes_ahead_given_on _ _ _ _ _ _ _ _ _ _ _ _ c.take_on-took.result _ _ _ c.self.invariant.0 c.self.invariant.1 c.self.invariant.2 c.take_on-took.ensures.on (search rules) (ap (map (λ (e : ℕ × Unit {0}). e.0)) c.and-self-inside.ensures ∙ map-append _ c.self.inside.asked.items _ ∙ ap (λ n. map (λ (e : ℕ × Unit {0}). e.0) c.self.inside.asked.items ++ n ∷ []) c.count_of.ensures) (omega (arith, ap faults_of c.in-Got.is)),
)
