-- Rooms with a secret word.
use Rattle.std.proofs.Common.{◌≡◌, ◌∙◌, ◌-◌, ℕ, List, ◌++◌, length, take, replicate, sym, ap, arith, length-take-le, take-append-drop}
use Rattle.secret_word.specs.Words.{IsWordRoom, room_of}

-- the size of the word is that which the room is of
pub size_back : (size : ℕ) (room : List ℕ) → IsWordRoom size room → length (take size room) ≡ size
size_back size room h = length-take-le size room (omega (arith, h.most, h.whole))

-- a room is that of its word
pub room_back : (size : ℕ) (room : List ℕ) → IsWordRoom size room → room_of (take size room) ≡ room
room_back size room h =
    ap (λ n. take size room ++ replicate (64 - n) 0) (size_back size room h) ∙ ap (λ l. take size room ++ l) (sym h.zeros) ∙ take-append-drop size room
