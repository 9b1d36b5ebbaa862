-- Sessions from seats, in order.
use Rattle.std.proofs.Common.{◌≡◌, List, [], ◌∷◌, ◌++◌, refl, subst}
use Rattle.heap_lock.specs.LockStates.{SeatModel}
use Rattle.heap_server.specs.Stations.{InTurn}

-- the next seat led to one more
pub lead_more : {A : Type 0} (Leads : SeatModel → A → Type 0) (seats : List SeatModel) (xs : List A) (s : SeatModel) (rest : List SeatModel) (x : A) → InTurn Leads seats xs (s ∷ rest) → Leads s x → InTurn Leads seats (xs ++ x ∷ []) rest
lead_more Leads seats [] s rest x is leads = subst (λ l. InTurn Leads l (x ∷ []) rest) is (leads, refl)
lead_more Leads [] (y ∷ ys) s rest x is leads = is
lead_more Leads (t ∷ seats) (y ∷ ys) s rest x is leads = (is.0, lead_more Leads seats ys s rest x is.1 leads)

-- the first of them, and the others
pub lead_first : {A : Type 0} (Leads : SeatModel → A → Type 0) (seats : List SeatModel) (x : A) (xs : List A) (rest : List SeatModel) → InTurn Leads seats (x ∷ xs) rest
    → (s : SeatModel) × (next : List SeatModel) × (seats ≡ s ∷ next) × Leads s x × InTurn Leads next xs rest
lead_first Leads [] x xs rest is = absurd is
lead_first Leads (s ∷ next) x xs rest is = (s, next, refl, is.0, is.1)
