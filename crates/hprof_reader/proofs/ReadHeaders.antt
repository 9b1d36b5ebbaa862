-- Headers are read as they are spelled.
use Rattle.std.proofs.Common.{◌≡◌, ℕ, ◌+◌, ◌*◌, ◌/◌, ◌%◌, ◌^◌, ◌<◌, Bool, cond, eqb, List, ◌++◌, Option, Some, None, Result, Ok, Err, refl, sym, ap, subst, ◌∙◌, append_assoc, arith, inl, inr}
use Rattle.std.specs.Int.{w32}
use Rattle.std.specs.Str.{bytes_eq}
use Rattle.std.proofs.lemmas.Bool.{eqb-true}
use Rattle.std.proofs.lemmas.Slice.Eq.{bytes_eq-Decides}
use Rattle.heap_class.specs.declared.IdSize.{IdSize}
use Rattle.heap_class.specs.declared.IdSize.TheVariants.{Four, Eight}
use Rattle.heap_class.specs.Kinds.{id_bytes}
use Rattle.hprof_text.specs.Text.{u4, header}
use Rattle.hprof_reader.specs.declared.fault.Fault.{Fault}
use Rattle.hprof_reader.specs.declared.fault.Fault.TheVariants as faults
use Rattle.hprof_reader.specs.declared.header.Header.{Header}
use Rattle.hprof_reader.specs.Headers.{header_text, format_name, ids_of, times_at, after_name, header_parts}
use Rattle.hprof_reader.specs.Reading.{◌>>=◌, number_at, taken_at}
use Rattle.hprof_reader.proofs.Readers.{IsBytes, IsReader, bytes_reader, bound_result_has_its_source, equal_reads_have_equal_values}
use Rattle.hprof_reader.proofs.ReadKinds.{branch_of_condition_taken, four_byte_number_reader}

abbrev some_id_size : IdSize → Option IdSize
some_id_size ids = Some ids

equal_some_id_sizes : (a b : IdSize) → some_id_size a ≡ some_id_size b → a ≡ b
equal_some_id_sizes a b e = cc

id_size_back_from_number : (n : ℕ) (ids : IdSize) → ids_of n ≡ some_id_size ids → n ≡ id_bytes ids
id_size_back_from_number n ids e = elim (branch_of_condition_taken (eqb n 4) (Some Four) _ (some_id_size ids) e) [
  | inl hit ↦ eqb-true n 4 hit.0 ∙ ap id_bytes (equal_some_id_sizes Four ids hit.1)
  | inr miss ↦ elim (branch_of_condition_taken (eqb n 8) (Some Eight) None (some_id_size ids) miss.1) [
    | inl hit ↦ eqb-true n 8 hit.0 ∙ ap id_bytes (equal_some_id_sizes Eight ids hit.1)
    | inr miss ↦ absurd cc
  ]
]

id_number_reads_again : (ids : IdSize) → ids_of (id_bytes ids) ≡ some_id_size ids
id_number_reads_again Four = refl
id_number_reads_again Eight = refl

ids_small : (ids : IdSize) → id_bytes ids < 2 ^ 32
ids_small Four = omega arith
ids_small Eight = omega arith

-- the halves of a time
high_half_of_time : (high low : ℕ) → low < 2 ^ 32 → (high * 2 ^ 32 + low) / 2 ^ 32 ≡ high
high_half_of_time high low less = omega (arith, less)

low_half_of_time : (high low : ℕ) → low < 2 ^ 32 → (high * 2 ^ 32 + low) % 2 ^ 32 ≡ low
low_half_of_time high low less = omega (arith, less)

time_from_its_two_halves : (time : ℕ) → time / 2 ^ 32 * 2 ^ 32 + time % 2 ^ 32 ≡ time
time_from_its_two_halves time = omega arith

regrouped_5 : (n s h l r : List ℕ) → n ++ (s ++ (h ++ (l ++ r))) ≡ n ++ s ++ h ++ l ++ r
regrouped_5 n s h l r = simp append_assoc

-- the halves of the time, after an option of identifiers
times_taken : (o : Option IdSize) (bytes : List ℕ) (x : Header × List ℕ) → IsBytes bytes → times_at o bytes ≡ Ok x
    → (o ≡ some_id_size x.0.ids) × (bytes ≡ u4 (x.0.time / 2 ^ 32) ++ (u4 (x.0.time % 2 ^ 32) ++ x.1)) × IsBytes x.1 × (x.0.time < 2 ^ 64)
times_taken None bytes x small e = absurd cc
times_taken (Some ids) bytes x small e =
    let p = bound_result_has_its_source {B = Header × List ℕ} (number_at w32 bytes) (λ high. number_at w32 high.1 >>= λ low. Ok (record { ids = ids; time = high.0 * 2 ^ 32 + low.0 }, low.1)) x e in
    let t = four_byte_number_reader.takes bytes p.0 small p.1 in
    let q = bound_result_has_its_source {B = Header × List ℕ} (number_at w32 p.0.1) (λ low. Ok (record { ids = ids; time = p.0.0 * 2 ^ 32 + low.0 }, low.1)) x p.2 in
    let v = four_byte_number_reader.takes p.0.1 q.0 t.1 q.1 in
    let y : Header × List ℕ = (record { ids = ids; time = p.0.0 * 2 ^ 32 + q.0.0 }, q.0.1) in
    subst (λ (y : Header × List ℕ). (Some ids ≡ some_id_size y.0.ids) × (bytes ≡ u4 (y.0.time / 2 ^ 32) ++ (u4 (y.0.time % 2 ^ 32) ++ y.1)) × IsBytes y.1 × (y.0.time < 2 ^ 64)) (equal_reads_have_equal_values y x q.2) (
      refl,
      t.0 ∙ ap (λ (r : List ℕ). u4 p.0.0 ++ r) v.0 ∙ ap (λ (n : ℕ). u4 n ++ (u4 q.0.0 ++ q.0.1)) (sym (high_half_of_time p.0.0 q.0.0 v.2))
          ∙ ap (λ (n : ℕ). u4 (y.0.time / 2 ^ 32) ++ (u4 n ++ q.0.1)) (sym (low_half_of_time p.0.0 q.0.0 v.2)),
      v.1,
      omega (arith, t.2, v.2),
    )

header_taken : (bytes : List ℕ) (x : Header × List ℕ) → IsBytes bytes → header_parts bytes ≡ Ok x → (bytes ≡ header_text x.0 ++ x.1) × IsBytes x.1 × (x.0.time < 2 ^ 64)
unfolding header_parts header
header_taken bytes x small e =
    let p = bound_result_has_its_source (taken_at 19 bytes) (λ n. cond (bytes_eq n.0 format_name) (after_name n.1) (Err faults.Header)) x e in
    let t = (bytes_reader 19).takes bytes p.0 small p.1 in
    elim (branch_of_condition_taken (bytes_eq p.0.0 format_name) (after_name p.0.1) (Err faults.Header) (Ok x) p.2) [
      | inl hit ↦
          let name : p.0.0 ≡ format_name = (bytes_eq-Decides p.0.0 format_name).0 hit.0 in
          let q = bound_result_has_its_source (number_at w32 p.0.1) (λ s. times_at (ids_of s.0) s.1) x hit.1 in
          let s = four_byte_number_reader.takes p.0.1 q.0 t.1 q.1 in
          let v = times_taken (ids_of q.0.0) q.0.1 x s.1 q.2 in
          let sized : q.0.0 ≡ id_bytes x.0.ids = id_size_back_from_number q.0.0 x.0.ids v.0 in (
            t.0 ∙ ap (λ (n : List ℕ). n ++ p.0.1) name ∙ ap (λ (r : List ℕ). format_name ++ r) (s.0 ∙ ap (λ (r : List ℕ). u4 q.0.0 ++ r) v.1 ∙ ap (λ (n : ℕ). u4 n ++ (u4 (x.0.time / 2 ^ 32) ++ (u4 (x.0.time % 2 ^ 32) ++ x.1))) sized)
                ∙ regrouped_5 format_name (u4 (id_bytes x.0.ids)) (u4 (x.0.time / 2 ^ 32)) (u4 (x.0.time % 2 ^ 32)) x.1,
            v.2,
            v.3,
          )
      | inr miss ↦ absurd cc
    ]

times_again : (h : Header) (rest : List ℕ) → h.time < 2 ^ 64 → times_at (some_id_size h.ids) (u4 (h.time / 2 ^ 32) ++ (u4 (h.time % 2 ^ 32) ++ rest)) ≡ Ok (h, rest)
times_again h rest less =
    ap (λ (r : Result (ℕ × List ℕ) Fault). r >>= λ high. number_at w32 high.1 >>= λ low. Ok (record { ids = h.ids; time = high.0 * 2 ^ 32 + low.0 }, low.1)) (four_byte_number_reader.again (h.time / 2 ^ 32) (u4 (h.time % 2 ^ 32) ++ rest) (omega (arith, less)))
    ∙ ap (λ (r : Result (ℕ × List ℕ) Fault). r >>= λ low. Ok (record { ids = h.ids; time = h.time / 2 ^ 32 * 2 ^ 32 + low.0 }, low.1)) (four_byte_number_reader.again (h.time % 2 ^ 32) rest (omega arith))
    ∙ ap (λ (n : ℕ). Ok (record { ids = h.ids; time = n }, rest)) (time_from_its_two_halves h.time)

header_again : (h : Header) (rest : List ℕ) → h.time < 2 ^ 64 → header_parts (header_text h ++ rest) ≡ Ok (h, rest)
unfolding header_parts header
header_again h rest less =
    let times = u4 (h.time / 2 ^ 32) ++ (u4 (h.time % 2 ^ 32) ++ rest) in
    ap header_parts (sym (regrouped_5 format_name (u4 (id_bytes h.ids)) (u4 (h.time / 2 ^ 32)) (u4 (h.time % 2 ^ 32)) rest))
    ∙ ap (λ (r : Result (List ℕ × List ℕ) Fault). r >>= λ n. cond (bytes_eq n.0 format_name) (after_name n.1) (Err faults.Header)) ((bytes_reader 19).again format_name (u4 (id_bytes h.ids) ++ times) refl)
    ∙ ap (λ (b : Bool). cond b (after_name (u4 (id_bytes h.ids) ++ times)) (Err faults.Header)) ((bytes_eq-Decides format_name format_name).1 refl)
    ∙ ap (λ (r : Result (ℕ × List ℕ) Fault). r >>= λ s. times_at (ids_of s.0) s.1) (four_byte_number_reader.again (id_bytes h.ids) times (ids_small h.ids))
    ∙ ap (λ (o : Option IdSize). times_at o times) (id_number_reads_again h.ids) ∙ times_again h rest less

pub header_reader : IsReader header_text (λ h. h.time < 2 ^ 64) header_parts
header_reader = record { takes = header_taken; again = header_again }
