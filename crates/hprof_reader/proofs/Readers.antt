-- Readers: each takes the text of a value from the front of bytes, and reads each text that fits as its value.
use Rattle.std.proofs.Common.{◌≡◌, ℕ, ◌+◌, ◌%◌, ◌^◌, ◌<◌, ◌≤◌, Bool, true, false, cond, ltb, List, [], ◌∷◌, ◌++◌, length, get_or, take, drop, Result, Ok, Err, refl, sym, ap, subst, ◌∙◌, append_assoc, arith, inl, inr}
use Rattle.std.specs.Prelude.{IfOk}
use Rattle.std.specs.Int.{Width, w8, w16, w32, w64, byte_len, from_be_bytes, to_be_bytes}
use Rattle.std.proofs.lemmas.Bool.{cases_lt, ltb-false, le-ltb}
use Rattle.std.proofs.lemmas.List.{take_at, drop_at, take-append-drop, length-append, length-take, get_or-drop, get_or-take, get_or_past}
use Rattle.std.proofs.lemmas.Nat.{be_bytes_2, be_bytes_4, be_bytes_8, from_be_bytes-to_be_bytes_2, from_be_bytes-to_be_bytes_4, from_be_bytes-to_be_bytes_8}
use Rattle.hprof_reader.specs.declared.fault.Fault.{Fault}
use Rattle.hprof_reader.specs.declared.fault.Fault.TheVariants.{Short}
use Rattle.hprof_reader.specs.Reading.{◌>>=◌, Gives, IsRead, read_in_turn, made, number_at, taken_at}

-- each is a byte
abbrev pub IsBytes : List ℕ → Type 0
IsBytes bytes = (i : ℕ) → get_or bytes i 0 < 256

bytes_dropped_are_bytes : (n : ℕ) (bytes : List ℕ) → IsBytes bytes → IsBytes (drop n bytes)
bytes_dropped_are_bytes n bytes small i = rw get_or-drop (small (n + i))

bytes_taken_are_bytes : (n : ℕ) (bytes : List ℕ) → IsBytes bytes → IsBytes (take n bytes)
bytes_taken_are_bytes n bytes small i = elim (cases_lt i n) [
  | inl within ↦ rw (get_or-take n bytes i 0 within) (small i)
  | inr past ↦ rw (get_or_past (take n bytes) i 0 (omega (arith, past, length-take n bytes))) (omega arith)
]

pub record IsReader {A : Type 0} (text : A → List ℕ) (fits : A → Type 0) (read : List ℕ → Result (A × List ℕ) Fault) : Type 0 where
  pub takes : (bytes : List ℕ) (x : A × List ℕ) → IsBytes bytes → read bytes ≡ Ok x → (bytes ≡ text x.0 ++ x.1) × IsBytes x.1 × fits x.0
  pub again : (a : A) (rest : List ℕ) → fits a → read (text a ++ rest) ≡ Ok (a, rest)

-- ---- results

abbrev read_without_fault : {A : Type 0} → A → Result A Fault
read_without_fault x = Ok x

pub made_value_has_its_source : {A B : Type 0} (make : A → B) (r : Result (A × List ℕ) Fault) (y : B × List ℕ) → made make r ≡ Ok y → (x : A × List ℕ) × (r ≡ Ok x) × (read_without_fault {A = B × List ℕ} (make x.0, x.1) ≡ Ok y)
made_value_has_its_source make (Ok x) y e = (x, refl, e)
made_value_has_its_source make (Err d) y e = absurd cc

pub bound_result_has_its_source : {A B : Type 0} (r : Result A Fault) (f : A → Result B Fault) (y : B) → (r >>= f) ≡ Ok y → (x : A) × (r ≡ Ok x) × (f x ≡ Ok y)
bound_result_has_its_source (Ok x) f y e = (x, refl, e)
bound_result_has_its_source (Err d) f y e = absurd cc

bytes_long_enough_are_read : {A : Type 0} (b : Bool) (d : Fault) (x y : A) → cond b (Err d) (Ok x) ≡ Ok y → (b ≡ false) × (x ≡ y)
bytes_long_enough_are_read true d x y e = absurd cc
bytes_long_enough_are_read false d x y e = (refl, cc)

pub equal_reads_have_equal_values : {A : Type 0} (x y : A) → read_without_fault x ≡ read_without_fault y → x ≡ y
equal_reads_have_equal_values x y e = cc

-- ---- a number

pub record IsExact (w : Width) (limit : ℕ) : Type 0 where
  pub sized : (n : ℕ) → length (to_be_bytes w n) ≡ byte_len w
  pub back : (bytes : List ℕ) → length bytes ≡ byte_len w → IsBytes bytes → to_be_bytes w (from_be_bytes w bytes) ≡ bytes
  pub again : (n : ℕ) → n < limit → from_be_bytes w (to_be_bytes w n) ≡ n
  pub below : (bytes : List ℕ) → IsBytes bytes → from_be_bytes w bytes < limit

single_byte_back_from_number : (bytes : List ℕ) → length bytes ≡ 1 → IsBytes bytes → to_be_bytes w8 (from_be_bytes w8 bytes) ≡ bytes
single_byte_back_from_number [] size small = absurd (omega (arith, size))
single_byte_back_from_number (b ∷ []) size small = let same : b % 256 ≡ b = omega (arith, small 0) in rw same refl
single_byte_back_from_number (b ∷ c ∷ more) size small = absurd (omega (arith, size))

byte_number_back_from_byte : (n : ℕ) → n < 2 ^ 8 → from_be_bytes w8 (to_be_bytes w8 n) ≡ n
byte_number_back_from_byte n less = omega (arith, less)

pub one_byte_numbers_are_exact : IsExact w8 (2 ^ 8)
one_byte_numbers_are_exact = record {
  sized = λ n. refl;
  back = single_byte_back_from_number;
  again = byte_number_back_from_byte;
  below = λ bytes small. omega (arith, small 0);
}

pub two_byte_numbers_are_exact : IsExact w16 (2 ^ 16)
two_byte_numbers_are_exact = record {
  sized = λ n. refl;
  back = λ bytes size small. be_bytes_2 bytes _ size small refl;
  again = λ n less. from_be_bytes-to_be_bytes_2 n less;
  below = λ bytes small. omega (arith, small 0, small 1);
}

pub four_byte_numbers_are_exact : IsExact w32 (2 ^ 32)
four_byte_numbers_are_exact = record {
  sized = λ n. refl;
  back = λ bytes size small. be_bytes_4 bytes _ size small refl;
  again = λ n less. from_be_bytes-to_be_bytes_4 n less;
  below = λ bytes small. omega (arith, small 0, small 1, small 2, small 3);
}

pub eight_byte_numbers_are_exact : IsExact w64 (2 ^ 64)
eight_byte_numbers_are_exact = record {
  sized = λ n. refl;
  back = λ bytes size small. be_bytes_8 bytes _ size small refl;
  again = λ n less. from_be_bytes-to_be_bytes_8 n less;
  below = λ bytes small. omega (arith, small 0, small 1, small 2, small 3, small 4, small 5, small 6, small 7);
}

number_read_is_taken : (w : Width) (limit : ℕ) → IsExact w limit → (bytes : List ℕ) (x : ℕ × List ℕ) → IsBytes bytes → number_at w bytes ≡ Ok x
    → (bytes ≡ to_be_bytes w x.0 ++ x.1) × IsBytes x.1 × (x.0 < limit)
number_read_is_taken w limit exact bytes x small e =
    let front = take (byte_len w) bytes in
    let g = bytes_long_enough_are_read (ltb (length bytes) (byte_len w)) Short (from_be_bytes w front, drop (byte_len w) bytes) x e in
    let enough : byte_len w ≤ length bytes = ltb-false _ _ g.0 in
    let spelled : to_be_bytes w (from_be_bytes w front) ≡ front = exact.back front (omega (arith, enough, length-take (byte_len w) bytes)) (bytes_taken_are_bytes (byte_len w) bytes small) in
    subst (λ (y : ℕ × List ℕ). (bytes ≡ to_be_bytes w y.0 ++ y.1) × IsBytes y.1 × (y.0 < limit)) g.1
    (rw spelled (sym (take-append-drop (byte_len w) bytes)), bytes_dropped_are_bytes (byte_len w) bytes small, exact.below front (bytes_taken_are_bytes (byte_len w) bytes small))

number_written_reads_again : (w : Width) (limit : ℕ) → IsExact w limit → (n : ℕ) (rest : List ℕ) → n < limit → number_at w (to_be_bytes w n ++ rest) ≡ Ok (n, rest)
number_written_reads_again w limit exact n rest less =
    let size = exact.sized n in
    let enough : ltb (length (to_be_bytes w n ++ rest)) (byte_len w) ≡ false = le-ltb _ _ (omega (arith, size, length-append (to_be_bytes w n) rest)) in
    rw (enough, take_at (to_be_bytes w n) rest (byte_len w) size, drop_at (to_be_bytes w n) rest (byte_len w) size, exact.again n less) refl

pub number_reader : (w : Width) (limit : ℕ) → IsExact w limit → IsReader (to_be_bytes w) (λ n. n < limit) (number_at w)
number_reader w limit exact = record { takes = number_read_is_taken w limit exact; again = number_written_reads_again w limit exact }

-- ---- bytes

bytes_taken : (n : ℕ) (bytes : List ℕ) (x : List ℕ × List ℕ) → IsBytes bytes → taken_at n bytes ≡ Ok x → (bytes ≡ x.0 ++ x.1) × IsBytes x.1 × (length x.0 ≡ n)
bytes_taken n bytes x small e =
    let g = bytes_long_enough_are_read (ltb (length bytes) n) Short (take n bytes, drop n bytes) x e in
    let enough : n ≤ length bytes = ltb-false _ _ g.0 in
    subst (λ (y : List ℕ × List ℕ). (bytes ≡ y.0 ++ y.1) × IsBytes y.1 × (length y.0 ≡ n)) g.1
    (sym (take-append-drop n bytes), bytes_dropped_are_bytes n bytes small, omega (arith, enough, length-take n bytes))

bytes_again : (n : ℕ) (bytes rest : List ℕ) → length bytes ≡ n → taken_at n (bytes ++ rest) ≡ Ok (bytes, rest)
bytes_again n bytes rest size =
    let enough : ltb (length (bytes ++ rest)) n ≡ false = le-ltb _ _ (omega (arith, size, length-append bytes rest)) in
    rw (enough, take_at bytes rest n size, drop_at bytes rest n size) refl

pub bytes_reader : (n : ℕ) → IsReader (λ (b : List ℕ). b) (λ b. length b ≡ n) (taken_at n)
bytes_reader n = record { takes = bytes_taken n; again = bytes_again n }

-- ---- a reader after a reader

two_readers_take_in_turn : {A B : Type 0} (ta : A → List ℕ) (fa : A → Type 0) (ra : List ℕ → Result (A × List ℕ) Fault) (tb : A → B → List ℕ) (fb : A → B → Type 0) (rb : A → List ℕ → Result (B × List ℕ) Fault)
    → IsReader ta fa ra → ((a : A) → fa a → IsReader (tb a) (fb a) (rb a)) → (bytes : List ℕ) (x : (A × B) × List ℕ) → IsBytes bytes → read_in_turn ra rb bytes ≡ Ok x
    → (bytes ≡ ta x.0.0 ++ tb x.0.0 x.0.1 ++ x.1) × IsBytes x.1 × (fa x.0.0 × fb x.0.0 x.0.1)
two_readers_take_in_turn {A = A} {B = B} ta fa ra tb fb rb first second bytes x small e =
    let p = bound_result_has_its_source (ra bytes) (λ a. rb a.0 a.1 >>= λ b. Ok ((a.0, b.0), b.1)) x e in
    let q = bound_result_has_its_source (rb p.0.0 p.0.1) (λ b. Ok ((p.0.0, b.0), b.1)) x p.2 in
    let u = first.takes bytes p.0 small p.1 in
    let v = (second p.0.0 u.2).takes p.0.1 q.0 u.1 q.1 in
    let made : (A × B) × List ℕ = ((p.0.0, q.0.0), q.0.1) in
    let parts : bytes ≡ ta p.0.0 ++ tb p.0.0 q.0.0 ++ q.0.1 = u.0 ∙ ap (λ (r : List ℕ). ta p.0.0 ++ r) v.0 ∙ sym (append_assoc (ta p.0.0) (tb p.0.0 q.0.0) q.0.1) in
    subst (λ (y : (A × B) × List ℕ). (bytes ≡ ta y.0.0 ++ tb y.0.0 y.0.1 ++ y.1) × IsBytes y.1 × (fa y.0.0 × fb y.0.0 y.0.1)) (equal_reads_have_equal_values made x q.2) (parts, v.1, (u.2, v.2))

two_readers_read_again : {A B : Type 0} (ta : A → List ℕ) (fa : A → Type 0) (ra : List ℕ → Result (A × List ℕ) Fault) (tb : A → B → List ℕ) (fb : A → B → Type 0) (rb : A → List ℕ → Result (B × List ℕ) Fault)
    → IsReader ta fa ra → ((a : A) → fa a → IsReader (tb a) (fb a) (rb a)) → (x : A × B) (rest : List ℕ) → fa x.0 × fb x.0 x.1 → read_in_turn ra rb (ta x.0 ++ tb x.0 x.1 ++ rest) ≡ Ok (x, rest)
two_readers_read_again ta fa ra tb fb rb first second x rest fits =
    ap (read_in_turn ra rb) (append_assoc (ta x.0) (tb x.0 x.1) rest) ∙ rw (first.again x.0 (tb x.0 x.1 ++ rest) fits.0, (second x.0 fits.0).again x.1 rest fits.1) refl

pub reader_of_two_in_turn : {A B : Type 0} (ta : A → List ℕ) (fa : A → Type 0) (ra : List ℕ → Result (A × List ℕ) Fault) (tb : A → B → List ℕ) (fb : A → B → Type 0) (rb : A → List ℕ → Result (B × List ℕ) Fault)
    → IsReader ta fa ra → ((a : A) → fa a → IsReader (tb a) (fb a) (rb a)) → IsReader (λ (x : A × B). ta x.0 ++ tb x.0 x.1) (λ x. fa x.0 × fb x.0 x.1) (read_in_turn ra rb)
reader_of_two_in_turn ta fa ra tb fb rb first second = record { takes = two_readers_take_in_turn ta fa ra tb fb rb first second; again = two_readers_read_again ta fa ra tb fb rb first second }

-- ---- a value that is made of what was read

pub record IsMaking {A B : Type 0} (ta : A → List ℕ) (fa : A → Type 0) (make : A → B) (tb : B → List ℕ) (fb : B → Type 0) : Type 0 where
  pub spelled : (a : A) → fa a → (ta a ≡ tb (make a)) × fb (make a)
  pub each : (b : B) → fb b → (a : A) × fa a × (make a ≡ b) × (tb b ≡ ta a)

made_reader_takes_bytes : {A B : Type 0} (ta : A → List ℕ) (fa : A → Type 0) (read : List ℕ → Result (A × List ℕ) Fault) (make : A → B) (tb : B → List ℕ) (fb : B → Type 0)
    → IsReader ta fa read → IsMaking ta fa make tb fb → (bytes : List ℕ) (x : B × List ℕ) → IsBytes bytes → made make (read bytes) ≡ Ok x → (bytes ≡ tb x.0 ++ x.1) × IsBytes x.1 × fb x.0
made_reader_takes_bytes {A = A} {B = B} ta fa read make tb fb reader reader_that_makes_value bytes x small e =
    let p = made_value_has_its_source make (read bytes) x e in
    let u = reader.takes bytes p.0 small p.1 in
    let m = reader_that_makes_value.spelled p.0.0 u.2 in
    let y : B × List ℕ = (make p.0.0, p.0.1) in
    subst (λ (y : B × List ℕ). (bytes ≡ tb y.0 ++ y.1) × IsBytes y.1 × fb y.0) (equal_reads_have_equal_values y x p.2) (u.0 ∙ ap (λ (t : List ℕ). t ++ p.0.1) m.0, u.1, m.1)

made_reader_reads_again : {A B : Type 0} (ta : A → List ℕ) (fa : A → Type 0) (read : List ℕ → Result (A × List ℕ) Fault) (make : A → B) (tb : B → List ℕ) (fb : B → Type 0)
    → IsReader ta fa read → IsMaking ta fa make tb fb → (b : B) (rest : List ℕ) → fb b → made make (read (tb b ++ rest)) ≡ Ok (b, rest)
made_reader_reads_again {A = A} {B = B} ta fa read make tb fb reader reader_that_makes_value b rest fits =
    let m = reader_that_makes_value.each b fits in
    ap (λ (t : List ℕ). made make (read (t ++ rest))) m.3 ∙ ap (made make) (reader.again m.0 rest m.1) ∙ ap (λ (y : B). Ok (y, rest)) m.2

pub reader_that_makes_value : {A B : Type 0} (ta : A → List ℕ) (fa : A → Type 0) (read : List ℕ → Result (A × List ℕ) Fault) (make : A → B) (tb : B → List ℕ) (fb : B → Type 0)
    → IsReader ta fa read → IsMaking ta fa make tb fb → IsReader tb fb (λ bytes. made make (read bytes))
reader_that_makes_value ta fa read make tb fb reader is = record { takes = made_reader_takes_bytes ta fa read make tb fb reader is; again = made_reader_reads_again ta fa read make tb fb reader is }

-- ---- what a function returns that reads so

-- what is read is spelled so
pub read_value_is_spelled_so : {X A : Type 0} (view : X → A × List ℕ) (text : A → List ℕ) (fits : A → Type 0) (read : List ℕ → Result (A × List ℕ) Fault) → IsReader text fits read → (bytes : List ℕ) → IsBytes bytes
    → (result : Result X Fault) → Gives view result (read bytes) → IfOk result (λ x. fits (view x).0 × (bytes ≡ text (view x).0 ++ (view x).1))
read_value_is_spelled_so view text fits read reader bytes small (Ok x) given = let t = reader.takes bytes (view x) small given in (t.2, t.0)
read_value_is_spelled_so view text fits read reader bytes small (Err e) given = tt

-- what is spelled so is read
pub spelled_value_is_read : {X A : Type 0} (view : X → A × List ℕ) (text : A → List ℕ) (fits : A → Type 0) (read : List ℕ → Result (A × List ℕ) Fault) → IsReader text fits read → (bytes : List ℕ)
    → (result : Result X Fault) → Gives view result (read bytes) → (a : A) (rest : List ℕ) → fits a → bytes ≡ text a ++ rest → IsRead view result a rest
spelled_value_is_read view text fits read reader bytes result given a rest small is = subst (λ r. Gives view result r) (ap read is ∙ reader.again a rest small) given
