-- Seats of users.
use Rattle.std.proofs.Common.{◌≡◌, ℕ, zero, suc, ◌+◌, List, [], ◌∷◌, length, replicate, Result, Ok, Err, IfOk, refl, sym, ap, ◌∙◌, subst}
use Rattle.heap_lock.specs.declared.role.Role.{Role}
use Rattle.heap_lock.specs.declared.role.Role.TheVariants.{Marker, Sweeper, User}
use Rattle.heap_lock.specs.LockStates.{SeatModel}
use Rattle.heap_lock.specs.Blanks.{seat_models}
use Rattle.heap_server.specs.SessionSeats.{AreUsers}
use Rattle.heap_server.specs.Tending.{AreStaff}

user_roles_make_user_seats : (k n : ℕ) → AreUsers (seat_models n (replicate k User))
user_roles_make_user_seats zero n = tt
user_roles_make_user_seats (suc k) n = (refl, user_roles_make_user_seats k (n + 1))

length_models : (n : ℕ) (roles : List Role) → length (seat_models n roles) ≡ length roles
length_models n [] = refl
length_models n (r ∷ roles) = ap suc (length_models (n + 1) roles)

length_copies : (k : ℕ) → length (replicate k User) ≡ k
length_copies zero = refl
length_copies (suc k) = ap suc (length_copies k)

-- the seats of users
pub user_seats : (roles : List Role) (k : ℕ) → roles ≡ replicate k User → AreUsers (seat_models 0 roles) × (length (seat_models 0 roles) ≡ k)
user_seats roles k all = (subst (λ r. AreUsers (seat_models 0 r)) (sym all) (user_roles_make_user_seats k 0), length_models 0 roles ∙ ap length all ∙ length_copies k)

-- the seats of workers and users
pub staff_seats : (roles : List Role) (k : ℕ) → roles ≡ Marker ∷ Sweeper ∷ replicate k User → AreStaff k (seat_models 0 roles)
staff_seats roles k all = subst (λ r. AreStaff k (seat_models 0 r)) (sym all) (refl, refl, user_roles_make_user_seats k 2, length_models 2 (replicate k User) ∙ length_copies k)

-- what holds of the seats of these roles holds of those of a result, where there are any
pub result_seats_of_roles_hold : {A E : Type 0} (Holds : List SeatModel → Type 0) (r : Result A E) (seats : A → List SeatModel) (roles : List Role)
    → IfOk r (λ b. seats b ≡ seat_models 0 roles) → Holds (seat_models 0 roles) → IfOk r (λ b. Holds (seats b))
result_seats_of_roles_hold Holds (Ok b) seats roles is all = subst Holds (sym is) all
result_seats_of_roles_hold Holds (Err e) seats roles is all = tt
