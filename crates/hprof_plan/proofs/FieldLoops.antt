-- Items read one after another, as a loop reads them.
use Rattle.std.proofs.Common.{◌≡◌, ℕ, zero, suc, min, length, ◌+◌, ◌-◌, ◌<◌, ◌≤◌, List, [], ◌∷◌, ◌++◌, Option, Some, None, Result, Ok, Err, refl, sym, ap, ◌∙◌, append_assoc, arith, map}
use Rattle.std.specs.Result.{result_ok}
use Rattle.std.proofs.lemmas.List.{append-nil, length-map}
use Rattle.heap_class.specs.declared.IdSize.{IdSize}
use Rattle.hprof_reader.specs.declared.fields.StaticField.{StaticField}
use Rattle.hprof_reader.specs.Fields.{static_told}
use Rattle.hprof_reader.specs.declared.fault.Fault.{Fault}
use Rattle.hprof_reader.proofs.Readers.{IsBytes, IsReader}
use Rattle.hprof_plan.specs.Fields.{first_and, each_read, static_fields, static_parts}

module _ {A : Type 0} (parts : List ℕ → Option (A × List ℕ)) where
  opened : (n i : ℕ) (bytes : List ℕ) (r : Option (A × List ℕ)) → i < n → parts bytes ≡ r → each_read parts (n - i) bytes ≡ first_and (each_read parts (n - (i + 1))) r
  unfolding each_read
  opened n i bytes r less h =
      let k : n - i ≡ suc (n - (i + 1)) = omega (arith, less) in
      ap (λ (m : ℕ). each_read parts m bytes) k ∙ ap (first_and (each_read parts (n - (i + 1)))) h

  pub goes_on : (n i : ℕ) (bytes : List ℕ) (done : List A) (a : A) (rest : List ℕ) (all : List A) → i < n → Some (a, rest) ≡ parts bytes
      → done ++ each_read parts (n - i) bytes ≡ all → (done ++ a ∷ []) ++ each_read parts (n - (i + 1)) rest ≡ all
  goes_on n i bytes done a rest all less h so_far =
      append_assoc done (a ∷ []) (each_read parts (n - (i + 1)) rest)
      ∙ ap (λ (t : List A). done ++ t) (sym (opened n i bytes (Some (a, rest)) less (sym h)))
      ∙ so_far

  pub ends : (n i : ℕ) (bytes : List ℕ) (done all : List A) → i < n → None ≡ parts bytes → done ++ each_read parts (n - i) bytes ≡ all → done ≡ all
  ends n i bytes done all less h so_far =
      sym (append-nil done) ∙ ap (λ (t : List A). done ++ t) (sym (opened n i bytes None less (sym h))) ∙ so_far

  pub is_done : (n i : ℕ) (bytes : List ℕ) (done all : List A) → n ≤ i → done ++ each_read parts (n - i) bytes ≡ all → done ≡ all
  unfolding each_read
  is_done n i bytes done all past so_far =
      let k : n - i ≡ 0 = omega (arith, past) in
      sym (append-nil done) ∙ ap (λ (t : List A). done ++ t) (sym (ap (λ (m : ℕ). each_read parts m bytes) k)) ∙ so_far

module _ {A : Type 0} (text : A → List ℕ) (fits : A → Type 0) (parts : List ℕ → Result (A × List ℕ) Fault) (reader : IsReader text fits parts) where
  pub is_read : (bytes : List ℕ) (a : A) (rest : List ℕ) → fits a → bytes ≡ text a ++ rest → Some (a, rest) ≡ result_ok (parts bytes)
  is_read bytes a rest fit spelled = sym (ap (λ (r : Result (A × List ℕ) Fault). result_ok r) (ap parts spelled ∙ reader.again a rest fit))

  none_as : (bytes : List ℕ) (r : Result (A × List ℕ) Fault) → IsBytes bytes → ((a : A) (rest : List ℕ) → fits a → bytes ≡ text a ++ rest → ⊥) → parts bytes ≡ r → None ≡ result_ok r
  none_as bytes (Ok x) small lacking h = let t = reader.takes bytes x small h in absurd (lacking x.0 x.1 t.2 t.0)
  none_as bytes (Err e) small lacking h = refl

  pub none_read : (bytes : List ℕ) → IsBytes bytes → ((a : A) (rest : List ℕ) → fits a → bytes ≡ text a ++ rest → ⊥) → None ≡ result_ok (parts bytes)
  none_read bytes small lacking = none_as bytes (parts bytes) small lacking refl

pub map_and : {A B : Type 0} (f : A → B) (xs : List A) (x : A) → map f (xs ++ x ∷ []) ≡ map f xs ++ f x ∷ []
map_and f [] x = refl
map_and f (y ∷ xs) x = ap (λ t. f y ∷ t) (map_and f xs x)

-- ---- how many

first_few : {A : Type 0} (n : ℕ) (more : List ℕ → List A) (r : Option (A × List ℕ)) → ((b : List ℕ) → length (more b) ≤ n) → length (first_and more r) ≤ suc n
first_few n more None few = omega arith
first_few n more (Some x) few = omega (arith, few x.1)

length-each_read : {A : Type 0} (parts : List ℕ → Option (A × List ℕ)) (n : ℕ) (bytes : List ℕ) → length (each_read parts n bytes) ≤ n
unfolding each_read
length-each_read parts zero bytes = omega arith
length-each_read parts (suc n) bytes = first_few n (each_read parts n) (parts bytes) (λ b. length-each_read parts n b)

pub few_statics : (statics : List StaticField) (ids : IdSize) (n : ℕ) (bytes : List ℕ) → map static_told statics ≡ static_fields ids (min n 64) bytes → length statics ≤ 64
few_statics statics ids n bytes e = omega (arith, length-map statics static_told, ap length e, length-each_read (static_parts ids) (min n 64) bytes)
