-- The bytes that a connection takes in and puts out.
use Rattle.std.specs.Prelude.{◌≡◌, ℕ, List, ◌++◌, Option}
use Rattle.std.specs.Io.KnownBytes.{Appends, Consumes}
use Rattle.http_server.specs.History.{History}

-- bytes went from what a reader has left into a connection; nothing went out, and no request was answered
pub record Receives (a b : Option (List ℕ)) (h h' : History) : Type 0 where
  pub bytes : List ℕ
  pub taken : Consumes a b bytes
  pub received : h'.received ≡ h.received ++ bytes
  pub sent : h'.sent ≡ h.sent
  pub calls : h'.calls ≡ h.calls

-- bytes went from a connection to what a writer holds; nothing came in, and no request was answered
pub record Sends (a b : Option (List ℕ)) (h h' : History) : Type 0 where
  pub bytes : List ℕ
  pub put : Appends a b bytes
  pub sent : h'.sent ≡ h.sent ++ bytes
  pub received : h'.received ≡ h.received
  pub calls : h'.calls ≡ h.calls

-- the bytes that a connection received are those taken from a reader, and those that it sent went to a writer
pub record Moves (a b w w' : Option (List ℕ)) (h h' : History) : Type 0 where
  pub came : List ℕ
  pub taken : Consumes a b came
  pub received : h'.received ≡ h.received ++ came
  pub went : List ℕ
  pub put : Appends w w' went
  pub sent : h'.sent ≡ h.sent ++ went
