-- Secret words.
use Rattle.std.specs.Prelude.{◌≡◌, ◌⊎◌, ℕ, ◌-◌, ◌≤◌, List, [], ◌∷◌, ◌++◌, length, take, drop, replicate, All}
use Rattle.std.specs.Char.{IsAsciiAlphanumeric}
use Rattle.secret_word.specs.declared.secret.TheConstants.{WORD_LEAST, WORD_LIMIT}

-- 16 to 64 ASCII letters and digits
abbrev pub IsSecret : List ℕ → Type 0
IsSecret word =
    (WORD_LEAST ≤ length word) × (length word ≤ WORD_LIMIT) × All IsAsciiAlphanumeric word

-- the text is the word, perhaps with one LF or CR LF behind it
abbrev pub IsTextOf : List ℕ → List ℕ → Type 0
IsTextOf word text =
    (text ≡ word) ⊎ ((text ≡ word ++ 10 ∷ []) ⊎ (text ≡ word ++ 13 ∷ (10 ∷ [])))

-- the bytes are the word, an LF or a CR LF, and then these
abbrev pub IsBehindWord : List ℕ → List ℕ → List ℕ → Type 0
IsBehindWord word bytes rest =
    (bytes ≡ word ++ 10 ∷ rest) ⊎ (bytes ≡ word ++ 13 ∷ (10 ∷ rest))

-- the word, and zeros behind it, 64 bytes in all
abbrev pub room_of : List ℕ → List ℕ
room_of word = word ++ replicate (WORD_LIMIT - length word) 0

-- a room of 64 bytes begins with a secret word of this size, and has zeros behind it
pub record IsWordRoom (size : ℕ) (room : List ℕ) : Type 0 where
  pub word : IsSecret (take size room)
  pub most : size ≤ WORD_LIMIT
  pub whole : length room ≡ WORD_LIMIT
  pub zeros : drop size room ≡ replicate (WORD_LIMIT - size) 0
