-- Sums that stop at the largest number of 64 bits.
use Rattle.std.proofs.Common.{◌≡◌, ℕ, ◌+◌, ◌-◌, ◌^◌, ◌<◌, List, length, take, get_or, min, ap, arith, All, subst}
use Rattle.std.proofs.lemmas.List.Sums.{sum_by_more}
use Rattle.std.proofs.lemmas.List.Elements.{All-more}
use Rattle.heap_runtime.specs.Actors.{ActorState}
use Rattle.heap_runtime.specs.Totals.{capped_sum}

-- the sum with the number x of the next actor
pub capped_sum_one_actor_further : (number_of : ActorState → ℕ) (actors : List ActorState) (i : ℕ) (a : ActorState) (x before after : ℕ)
    → i < length actors → a ≡ get_or actors i a → x ≡ number_of a → before ≡ capped_sum number_of (take i actors) → after ≡ min (before + x) (2 ^ 64 - 1)
    → after ≡ capped_sum number_of (take (i + 1) actors)
capped_sum_one_actor_further number_of actors i a x before after below at is sum grows =
    let e = ap number_of at in omega (arith, sum_by_more number_of actors i a below)

-- what holds of the first actors and of the next one
pub holds_of_actors_one_further : (P : ActorState → Type 0) (actors : List ActorState) (i : ℕ) (a : ActorState)
    → i < length actors → a ≡ get_or actors i a → All P (take i actors) → P a → All P (take (i + 1) actors)
holds_of_actors_one_further P actors i a below at all p = All-more P actors i a below all (subst P at p)
