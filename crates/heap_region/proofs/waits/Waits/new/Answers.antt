use Rattle.std.proofs.Common.{◌≡◌, ℕ, zero, suc, ◌∷◌, List, false, map, replicate, refl, ap, rules, ◌∙◌}
use Rattle.heap_region.specs.Waits.{wait_turned}
use Rattle.heap_region.proofs.waits.Waits.new.Goals as goal

none_waits : (n : ℕ) → map (wait_turned false) (replicate n 0) ≡ replicate n 0
none_waits zero = refl
none_waits (suc n) = ap (λ (l : List ℕ). 0 ∷ l) (none_waits n)

zeros_turned_are_zeros : (l : List ℕ) (n : ℕ) → l ≡ replicate n 0 → map (wait_turned false) l ≡ replicate n 0
zeros_turned_are_zeros l n e = ap (map (wait_turned false)) e ∙ none_waits n

pub returns : goal.returns
returns c = zeros_turned_are_zeros _ c.args.count (search rules)
