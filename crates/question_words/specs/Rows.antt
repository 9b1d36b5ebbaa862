-- The rows of answers.
use Rattle.std.specs.Prelude.{ℕ, List, ◌++◌, codes}
use Rattle.session_text.specs.Replies.{and_number, line}

-- the last line of an answer that counts its rows
abbrev pub count_text : ℕ → List ℕ
count_text n = line (codes "ok" ++ and_number n)
