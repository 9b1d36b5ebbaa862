-- The heads of a dump's records, byte by byte.
use Rattle.std.proofs.Common.{◌≡◌, ◌+◌, ◌-◌, ◌<◌, ◌≤◌, ◌&&◌, ℕ, zero, suc, min, Bool, true, false, List, [], ◌∷◌, ◌++◌, take, drop, length, if◌then◌else◌, refl, ap, sym, ◌∙◌, arith, append_assoc}
use Rattle.std.specs.Prelude.{◌==◌, nat_le, slice_index, slice_set}
use Rattle.std.specs.Int.{w32, from_be_bytes}
use Rattle.std.proofs.lemmas.List.{length-drop, length-append, length-take, take_more_set}
use Rattle.std.proofs.lemmas.Bool.{le-leb, lt-leb, eq-eqb, ne_eqb}
use Rattle.hprof_records.specs.Records.{are_records, body_size, completes, end_tag, ends_in_records}
use Rattle.hprof_records.specs.declared.front.Front.{Front}
use Rattle.hprof_records.specs.declared.scan.Scan.TheVariants.{Within, Head, Ended, Broken}

-- the number of records that is allowed doesn't matter, if it is as large as the text
record_limit_does_not_matter : (k m : ℕ) (text : List ℕ) → length text ≤ k → length text ≤ m → are_records k text ≡ are_records m text
unfolding are_records
record_limit_does_not_matter zero zero text a b = refl
record_limit_does_not_matter zero (suc m) [] a b = refl
record_limit_does_not_matter zero (suc m) (x ∷ xs) a b = absurd (omega (arith, a))
record_limit_does_not_matter (suc k) zero [] a b = refl
record_limit_does_not_matter (suc k) zero (x ∷ xs) a b = absurd (omega (arith, b))
record_limit_does_not_matter (suc k) (suc m) text a b =
    ap (λ r. nat_le 9 (length text) && (if slice_index text 0 == end_tag then (body_size text == 0) && (length text == 9) else r))
    (record_limit_does_not_matter k m (drop (9 + body_size text) text) (omega (arith, a, length-drop (9 + body_size text) text)) (omega (arith, b, length-drop (9 + body_size text) text)))

-- one record more
records_with_one_more_allowed : (k : ℕ) (text : List ℕ)
    → are_records (suc k) text ≡ (nat_le 9 (length text) && (if slice_index text 0 == end_tag then (body_size text == 0) && (length text == 9) else are_records k (drop (9 + body_size text) text)))
unfolding are_records
records_with_one_more_allowed k text = refl

no_record_allowed_none_read : (text : List ℕ) → are_records zero text ≡ false
unfolding are_records
no_record_allowed_none_read text = refl

-- a text that is shorter than a head has no records
text_shorter_than_head_refused : (k : ℕ) (text : List ℕ) → length text < 9 → are_records k text ≡ false
text_shorter_than_head_refused zero text less = no_record_allowed_none_read text
text_shorter_than_head_refused (suc k) text less = records_with_one_more_allowed k text ∙ ap (λ b. b && (if slice_index text 0 == end_tag then (body_size text == 0) && (length text == 9) else are_records k (drop (9 + body_size text) text))) (lt-leb 9 (length text) less)

-- what follows a whole head
abbrev completes_after_head : ℕ → ℕ → List ℕ → Bool
completes_after_head tag size rest = if tag == end_tag then (size == 0) && (length rest == 0) else ends_in_records (drop size rest)

nine_and_more_is_nine : (n : ℕ) → (suc (suc (suc (suc (suc (suc (suc (suc (suc n)))))))) == 9) ≡ (n == 0)
nine_and_more_is_nine zero = refl
nine_and_more_is_nine (suc n) = ne_eqb (suc (suc (suc (suc (suc (suc (suc (suc (suc (suc n)))))))))) 9 (λ e. omega (arith, e)) ∙ sym (ne_eqb (suc n) 0 (λ e. omega (arith, e)))

nine_head_bytes_dropped : (a b c d e f g h i size : ℕ) (rest : List ℕ) → drop (9 + size) (a ∷ b ∷ c ∷ d ∷ e ∷ f ∷ g ∷ h ∷ i ∷ rest) ≡ drop size rest
nine_head_bytes_dropped a b c d e f g h i size rest =
    let more : 9 + size ≡ suc (suc (suc (suc (suc (suc (suc (suc (suc size)))))))) = omega arith in
    ap (λ k. drop k (a ∷ b ∷ c ∷ d ∷ e ∷ f ∷ g ∷ h ∷ i ∷ rest)) more

records_after_whole_body : (k size : ℕ) (rest : List ℕ) → length rest ≤ k → are_records k (drop size rest) ≡ ends_in_records (drop size rest)
records_after_whole_body k size rest most = record_limit_does_not_matter k (length (drop size rest)) (drop size rest) (omega (arith, most, length-drop size rest)) (omega arith)

records_of_head_and_rest : (a b c d e f g h i : ℕ) (rest : List ℕ) → ends_in_records (a ∷ b ∷ c ∷ d ∷ e ∷ f ∷ g ∷ h ∷ i ∷ rest) ≡ completes_after_head a (from_be_bytes w32 (f ∷ g ∷ h ∷ i ∷ [])) rest
records_of_head_and_rest a b c d e f g h i rest =
    let text = a ∷ b ∷ c ∷ d ∷ e ∷ f ∷ g ∷ h ∷ i ∷ rest in
    let size = from_be_bytes w32 (f ∷ g ∷ h ∷ i ∷ []) in
    let k = suc (suc (suc (suc (suc (suc (suc (suc (length rest)))))))) in
    let long : nat_le 9 (suc k) ≡ true = le-leb 9 (suc k) (omega arith) in
    let next : are_records k (drop (9 + size) text) ≡ ends_in_records (drop size rest) = ap (are_records k) (nine_head_bytes_dropped a b c d e f g h i size rest) ∙ records_after_whole_body k size rest (omega arith) in
    records_with_one_more_allowed k text
    ∙ (λ j. long j && (if a == end_tag then (size == 0) && nine_and_more_is_nine (length rest) j else next j))

-- ---- one byte more

full_head_ends_in_records : (head : List ℕ) (count byte : ℕ) (rest : List ℕ) → length head ≡ 8 → 8 ≤ count
    → ends_in_records (take (min count 8) head ++ byte ∷ rest) ≡ completes_after_head (slice_index head 0) (from_be_bytes w32 (slice_index head 5 ∷ slice_index head 6 ∷ slice_index head 7 ∷ byte ∷ [])) rest
full_head_ends_in_records [] count byte rest size record_limit_does_not_matter = absurd (omega (arith, size))
full_head_ends_in_records (a ∷ []) count byte rest size record_limit_does_not_matter = absurd (omega (arith, size))
full_head_ends_in_records (a ∷ b ∷ []) count byte rest size record_limit_does_not_matter = absurd (omega (arith, size))
full_head_ends_in_records (a ∷ b ∷ c ∷ []) count byte rest size record_limit_does_not_matter = absurd (omega (arith, size))
full_head_ends_in_records (a ∷ b ∷ c ∷ d ∷ []) count byte rest size record_limit_does_not_matter = absurd (omega (arith, size))
full_head_ends_in_records (a ∷ b ∷ c ∷ d ∷ e ∷ []) count byte rest size record_limit_does_not_matter = absurd (omega (arith, size))
full_head_ends_in_records (a ∷ b ∷ c ∷ d ∷ e ∷ f ∷ []) count byte rest size record_limit_does_not_matter = absurd (omega (arith, size))
full_head_ends_in_records (a ∷ b ∷ c ∷ d ∷ e ∷ f ∷ g ∷ []) count byte rest size record_limit_does_not_matter = absurd (omega (arith, size))
full_head_ends_in_records (a ∷ b ∷ c ∷ d ∷ e ∷ f ∷ g ∷ h ∷ []) count byte rest size record_limit_does_not_matter =
    let all : min count 8 ≡ 8 = omega (arith, record_limit_does_not_matter) in
    ap (λ n. ends_in_records (take n (a ∷ b ∷ c ∷ d ∷ e ∷ f ∷ g ∷ h ∷ []) ++ byte ∷ rest)) all ∙ records_of_head_and_rest a b c d e f g h byte rest
full_head_ends_in_records (a ∷ b ∷ c ∷ d ∷ e ∷ f ∷ g ∷ h ∷ i ∷ more) count byte rest size record_limit_does_not_matter = absurd (omega (arith, size))

-- the size of the body of a record whose head ends in this byte
abbrev body_size_by_last_byte : Front → ℕ → ℕ
body_size_by_last_byte front byte = from_be_bytes w32 (slice_index front.bytes 5 ∷ slice_index front.bytes 6 ∷ slice_index front.bytes 7 ∷ byte ∷ [])

-- a whole head has come: a body follows, or the end has come, or what is no end
pub head_followed_by_its_body : (front : Front) (byte size : ℕ) (rest : List ℕ) → 8 ≤ front.count → (slice_index front.bytes 0 ≡ end_tag → ⊥) → size ≡ body_size_by_last_byte front byte
    → completes (Head front) (byte ∷ rest) ≡ completes (Within size) rest
unfolding completes
head_followed_by_its_body front byte size rest record_limit_does_not_matter other is =
    full_head_ends_in_records front.bytes front.count byte rest front.sized record_limit_does_not_matter ∙ ap (λ b. if b then (body_size_by_last_byte front byte == 0) && (length rest == 0) else ends_in_records (drop (body_size_by_last_byte front byte) rest)) (ne_eqb (slice_index front.bytes 0) end_tag other)
    ∙ ap (λ n. ends_in_records (drop n rest)) (sym is)

pub end_record_head_read : (front : Front) (byte size : ℕ) (rest : List ℕ) → 8 ≤ front.count → slice_index front.bytes 0 ≡ end_tag → size ≡ body_size_by_last_byte front byte → size ≡ 0
    → completes (Head front) (byte ∷ rest) ≡ completes Ended rest
unfolding completes
end_record_head_read front byte size rest record_limit_does_not_matter end is empty =
    full_head_ends_in_records front.bytes front.count byte rest front.sized record_limit_does_not_matter ∙ ap (λ b. if b then (body_size_by_last_byte front byte == 0) && (length rest == 0) else ends_in_records (drop (body_size_by_last_byte front byte) rest)) (eq-eqb (slice_index front.bytes 0) end_tag end)
    ∙ ap (λ b. b && (length rest == 0)) (eq-eqb (body_size_by_last_byte front byte) 0 (sym is ∙ empty))

pub no_end_came : (front : Front) (byte size : ℕ) (rest : List ℕ) → 8 ≤ front.count → slice_index front.bytes 0 ≡ end_tag → size ≡ body_size_by_last_byte front byte → (size ≡ 0 → ⊥)
    → completes (Head front) (byte ∷ rest) ≡ completes Broken rest
unfolding completes
no_end_came front byte size rest record_limit_does_not_matter end is some =
    full_head_ends_in_records front.bytes front.count byte rest front.sized record_limit_does_not_matter ∙ ap (λ b. if b then (body_size_by_last_byte front byte == 0) && (length rest == 0) else ends_in_records (drop (body_size_by_last_byte front byte) rest)) (eq-eqb (slice_index front.bytes 0) end_tag end)
    ∙ ap (λ b. b && (length rest == 0)) (ne_eqb (body_size_by_last_byte front byte) 0 (λ e. some (is ∙ e)))

-- a part of a head has come
pub part_of_head_read : (front : Front) (byte : ℕ) (rest : List ℕ) (sized : length (slice_set front.bytes front.count byte) ≡ 8) → front.count < 8
    → completes (Head front) (byte ∷ rest) ≡ completes (Head (record { bytes = slice_set front.bytes front.count byte; count = front.count + 1; sized = sized })) rest
unfolding completes
part_of_head_read front byte rest sized part =
    let here : min front.count 8 ≡ front.count = omega (arith, part) in
    let there : min (front.count + 1) 8 ≡ front.count + 1 = omega (arith, part) in
    ap (λ n. ends_in_records (take n front.bytes ++ byte ∷ rest)) here ∙ ap ends_in_records (sym (append_assoc (take front.count front.bytes) (byte ∷ []) rest))
    ∙ ap (λ l. ends_in_records (l ++ rest)) (sym (take_more_set front.bytes front.count byte (omega (arith, part, front.sized))))
    ∙ ap (λ n. ends_in_records (take n (slice_set front.bytes front.count byte) ++ rest)) (sym there)

pub body_byte_leaves_one_less : (left byte : ℕ) (rest : List ℕ) → 0 < left → completes (Within left) (byte ∷ rest) ≡ completes (Within (left - 1)) rest
unfolding completes
body_byte_leaves_one_less zero byte rest some = absurd (omega (arith, some))
body_byte_leaves_one_less (suc n) byte rest some = let less : n ≡ suc n - 1 = omega arith in ap (λ k. ends_in_records (drop k rest)) less

pub byte_after_body_begins_head : (left byte : ℕ) (rest : List ℕ) (sized : length (byte ∷ 0 ∷ 0 ∷ 0 ∷ 0 ∷ 0 ∷ 0 ∷ 0 ∷ []) ≡ 8) → left ≤ 0
    → completes (Within left) (byte ∷ rest) ≡ completes (Head (record { bytes = byte ∷ 0 ∷ 0 ∷ 0 ∷ 0 ∷ 0 ∷ 0 ∷ 0 ∷ []; count = 1; sized = sized })) rest
unfolding completes
byte_after_body_begins_head zero byte rest sized no_record_allowed_none_read = refl
byte_after_body_begins_head (suc n) byte rest sized no_record_allowed_none_read = absurd (omega (arith, no_record_allowed_none_read))

pub byte_past_end_breaks : (byte : ℕ) (rest : List ℕ) → completes Ended (byte ∷ rest) ≡ completes Broken rest
unfolding completes
byte_past_end_breaks byte rest = ne_eqb (suc (length rest)) 0 (λ e. omega (arith, e))

pub broken_scan_stays_broken : (byte : ℕ) (rest : List ℕ) → completes Broken (byte ∷ rest) ≡ completes Broken rest
unfolding completes
broken_scan_stays_broken byte rest = refl

-- ---- nothing more

pub text_cut_in_body_incomplete : (left : ℕ) → false ≡ completes (Within left) []
unfolding completes
text_cut_in_body_incomplete zero = sym (no_record_allowed_none_read [])
text_cut_in_body_incomplete (suc n) = sym (no_record_allowed_none_read [])

pub text_cut_in_head_incomplete : (front : Front) → false ≡ completes (Head front) []
unfolding completes
text_cut_in_head_incomplete front =
    let text = take (min front.count 8) front.bytes ++ [] in
    sym (text_shorter_than_head_refused (length text) text (omega (arith, length-append (take (min front.count 8) front.bytes) [], length-take (min front.count 8) front.bytes)))

pub broken_scan_never_completes : false ≡ completes Broken []
unfolding completes
broken_scan_never_completes = refl

pub ended_scan_completes : true ≡ completes Ended []
unfolding completes
ended_scan_completes = refl
