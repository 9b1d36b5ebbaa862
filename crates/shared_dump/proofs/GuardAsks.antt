-- A guard that is asked once more.
use Rattle.std.proofs.Common.{◌≡◌, ◌⊎◌, ℕ, suc, Bool, true, Option, refl, ⊎_elim, subst}
use Rattle.shared_dump.specs.Guards.{WasAsked, SaidOver, IsAsking}

module _ {G : Type 0} (says : G → Bool → G → Type 0) where
  said_more : (first guard guard' : G) (over : Bool) → SaidOver says first guard → says guard over guard' → SaidOver says first guard'
  said_more first guard guard' over s h = (s.0, s.1, s.2, s.3, s.4, suc s.5, (guard, s.6, over, h))

  said_now : (first guard guard' : G) (n : ℕ) (over : Bool) → over ≡ true → WasAsked says first n guard → says guard over guard' → SaidOver says first guard'
  said_now first guard guard' n over is w h = (n, guard, w, guard', subst (λ b. says guard b guard') is h, 0, refl)

  pub asked_more : (start : Option G) (guard guard' : G) (over asked asked' : Bool) → IsAsking says start guard asked → says guard over guard' → (asked' ≡ true → (asked ≡ true) ⊎ (over ≡ true)) → IsAsking says start guard' asked'
  asked_more start guard guard' over asked asked' a h why =
      (a.0, a.1, (suc a.2.0, (guard, a.2.1, over, h)), λ t. ⊎_elim (λ u. said_more a.0 guard guard' over (a.3 u) h) (λ is. said_now a.0 guard guard' a.2.0 over is a.2.1 h) (why t))
