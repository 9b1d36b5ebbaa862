-- Kinds and identifiers are read as they are spelled.
use Rattle.std.proofs.Common.{◌≡◌, ℕ, ◌^◌, ◌<◌, Bool, true, false, cond, eqb, List, ◌++◌, Option, Some, None, Result, Ok, refl, sym, ap, subst, ◌∙◌, arith, inl, inr}
use Rattle.std.specs.Prelude.{◌⊎◌}
use Rattle.std.specs.Int.{w8, w32, w64}
use Rattle.std.proofs.lemmas.Bool.{eqb-true}
use Rattle.heap_class.specs.declared.IdSize.{IdSize}
use Rattle.heap_class.specs.declared.IdSize.TheVariants.{Four, Eight}
use Rattle.heap_class.specs.declared.Kind.{Kind}
use Rattle.heap_class.specs.declared.Kind.TheVariants.{Boolean, Char, Float, Double, Byte, Short, Int, Long}
use Rattle.heap_class.specs.Kinds.{type_code}
use Rattle.hprof_text.specs.Text.{u1, u4, id}
use Rattle.hprof_text.specs.Fits.{FitsId}
use Rattle.hprof_reader.specs.declared.fault.Fault.{Fault}
use Rattle.hprof_reader.specs.Kinds.{kind_coded, known_kind, kind_parts}
use Rattle.hprof_reader.specs.Reading.{◌>>=◌, number_at}
use Rattle.hprof_reader.specs.SubParts.{id_at}
use Rattle.hprof_reader.proofs.Readers.{IsBytes, IsReader, one_byte_numbers_are_exact, four_byte_numbers_are_exact, eight_byte_numbers_are_exact, number_reader, bound_result_has_its_source, equal_reads_have_equal_values}

-- which branch was taken
pub branch_of_condition_taken : {A : Type 0} (b : Bool) (x y z : A) → cond b x y ≡ z → ((b ≡ true) × (x ≡ z)) ⊎ ((b ≡ false) × (y ≡ z))
branch_of_condition_taken true x y z e = inl (refl, e)
branch_of_condition_taken false x y z e = inr (refl, e)

pub one_byte_number_reader : IsReader u1 (λ n. n < 2 ^ 8) (number_at w8)
one_byte_number_reader = number_reader w8 (2 ^ 8) one_byte_numbers_are_exact

pub four_byte_number_reader : IsReader u4 (λ n. n < 2 ^ 32) (number_at w32)
four_byte_number_reader = number_reader w32 (2 ^ 32) four_byte_numbers_are_exact

pub id_reader : (ids : IdSize) → IsReader (id ids) (FitsId ids) (id_at ids)
id_reader Four = number_reader w32 (2 ^ 32) four_byte_numbers_are_exact
id_reader Eight = number_reader w64 (2 ^ 64) eight_byte_numbers_are_exact

abbrev kind_that_is_known : Kind → Option Kind
kind_that_is_known k = Some k

equal_some_kinds : (a b : Kind) → kind_that_is_known a ≡ kind_that_is_known b → a ≡ b
equal_some_kinds a b e = cc

coded_step : (n m : ℕ) (first k : Kind) (other : Option Kind) → cond (eqb n m) (Some first) other ≡ Some k → type_code first ≡ m → (other ≡ Some k → type_code k ≡ n) → type_code k ≡ n
coded_step n m first k other e code next = elim (branch_of_condition_taken (eqb n m) (Some first) other (Some k) e) [
  | inl hit ↦ sym (ap type_code (equal_some_kinds first k hit.1)) ∙ code ∙ sym (eqb-true n m hit.0)
  | inr miss ↦ next miss.1
]

coded_back : (n : ℕ) (k : Kind) → kind_coded n ≡ Some k → type_code k ≡ n
coded_back n k e =
    coded_step n 2 Kind.Object k _ e refl (λ e. coded_step n 4 Boolean k _ e refl (λ e. coded_step n 5 Char k _ e refl (λ e. coded_step n 6 Float k _ e refl
    (λ e. coded_step n 7 Double k _ e refl (λ e. coded_step n 8 Byte k _ e refl (λ e. coded_step n 9 Short k _ e refl (λ e. coded_step n 10 Int k _ e refl
    (λ e. coded_step n 11 Long k _ e refl (λ e. absurd cc)))))))))

code_again : (k : Kind) → kind_coded (type_code k) ≡ Some k
code_again Kind.Object = refl
code_again Boolean = refl
code_again Char = refl
code_again Float = refl
code_again Double = refl
code_again Byte = refl
code_again Short = refl
code_again Int = refl
code_again Long = refl

pub type_code_below_byte_limit : (k : Kind) → type_code k < 2 ^ 8
type_code_below_byte_limit Kind.Object = omega arith
type_code_below_byte_limit Boolean = omega arith
type_code_below_byte_limit Char = omega arith
type_code_below_byte_limit Float = omega arith
type_code_below_byte_limit Double = omega arith
type_code_below_byte_limit Byte = omega arith
type_code_below_byte_limit Short = omega arith
type_code_below_byte_limit Int = omega arith
type_code_below_byte_limit Long = omega arith

known_kind_is_read : (o : Option Kind) (rest : List ℕ) (x : Kind × List ℕ) → known_kind o rest ≡ Ok x → (o ≡ kind_that_is_known x.0) × (rest ≡ x.1)
known_kind_is_read (Some k) rest x e = let s = equal_reads_have_equal_values {A = Kind × List ℕ} (k, rest) x e in (ap (λ (y : Kind × List ℕ). kind_that_is_known y.0) s, ap (λ (y : Kind × List ℕ). y.1) s)
known_kind_is_read None rest x e = absurd cc

kind_taken : (bytes : List ℕ) (x : Kind × List ℕ) → IsBytes bytes → kind_parts bytes ≡ Ok x → (bytes ≡ u1 (type_code x.0) ++ x.1) × IsBytes x.1 × Unit {0}
unfolding kind_parts
kind_taken bytes x small e =
    let p = bound_result_has_its_source (number_at w8 bytes) (λ c. known_kind (kind_coded c.0) c.1) x e in
    let t = one_byte_number_reader.takes bytes p.0 small p.1 in
    let k = known_kind_is_read (kind_coded p.0.0) p.0.1 x p.2 in
    (t.0 ∙ ap (λ (n : ℕ). u1 n ++ p.0.1) (sym (coded_back p.0.0 x.0 k.0)) ∙ ap (λ (r : List ℕ). u1 (type_code x.0) ++ r) k.1, subst IsBytes k.1 t.1, tt)

kind_again : (k : Kind) (rest : List ℕ) → Unit {0} → kind_parts (u1 (type_code k) ++ rest) ≡ Ok (k, rest)
unfolding kind_parts
kind_again k rest any = ap (λ (r : Result (ℕ × List ℕ) Fault). r >>= λ c. known_kind (kind_coded c.0) c.1) (one_byte_number_reader.again (type_code k) rest (type_code_below_byte_limit k)) ∙ ap (λ (o : Option Kind). known_kind o rest) (code_again k)

pub kind_reader : IsReader (λ k. u1 (type_code k)) (λ k. Unit {0}) kind_parts
kind_reader = record { takes = kind_taken; again = kind_again }
