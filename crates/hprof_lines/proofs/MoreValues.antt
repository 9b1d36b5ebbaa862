-- Values, one after another, as loops go over them.
use Rattle.std.proofs.Common.{◌≡◌, ℕ, suc, ◌+◌, ◌-◌, ◌<◌, ◌≤◌, nat_lt, List, [], ◌∷◌, ◌++◌, length, drop, get_or, sym, ap, ◌∙◌, append_assoc, add-one, drop-cons, arith}
use Rattle.std.proofs.lemmas.List.{append-nil}
use Rattle.heap_class.specs.declared.IdSize.{IdSize}
use Rattle.heap_class.specs.declared.Kind.{Kind}
use Rattle.heap_class.specs.Kinds.{width_of}
use Rattle.hprof_reader.specs.declared.fields.StaticField.{StaticField}
use Rattle.hprof_lines.specs.declared.values.SlotValue.{SlotValue}
use Rattle.hprof_lines.specs.Values.{elements_from, fields_from, after_fields, statics_from, value_at, value_if, number_in}

pub one_element : (ids : IdSize) (kind : Kind) (count i : ℕ) (bytes : List ℕ) (slots all : List SlotValue) → i < count
    → slots ++ elements_from ids kind (count - i) i bytes ≡ all
    → (slots ++ value_at ids kind i bytes ∷ []) ++ elements_from ids kind (count - (i + 1)) (i + 1) (drop (width_of ids kind) bytes) ≡ all
unfolding elements_from
one_element ids kind count i bytes slots all less so_far =
    let k : count - i ≡ suc (count - (i + 1)) = omega (arith, less) in
    append_assoc slots (value_at ids kind i bytes ∷ []) (elements_from ids kind (count - (i + 1)) (i + 1) (drop (width_of ids kind) bytes))
    ∙ sym (ap (λ (n : ℕ). slots ++ elements_from ids kind n i bytes) k) ∙ so_far

pub no_elements : (ids : IdSize) (kind : Kind) (count i : ℕ) (bytes : List ℕ) (slots all : List SlotValue) → count ≤ i
    → slots ++ elements_from ids kind (count - i) i bytes ≡ all → slots ≡ all
unfolding elements_from
no_elements ids kind count i bytes slots all past so_far =
    let k : count - i ≡ 0 = omega (arith, past) in
    sym (append-nil slots) ∙ sym (ap (λ (n : ℕ). slots ++ elements_from ids kind n i bytes) k) ∙ so_far

-- the fields so far, and those that are left, are all; and the bytes after those that are left are the bytes after all
pub record IsOnWay (ids : IdSize) (kept base i : ℕ) (kinds : List Kind) (bytes : List ℕ) (slots all : List SlotValue) (after : List ℕ) : Type 0 where
  pub slots_left : slots ++ fields_from ids kept base i (drop i kinds) bytes ≡ all
  pub bytes_left : after_fields ids (drop i kinds) bytes ≡ after

pub one_field : (ids : IdSize) (kept base i : ℕ) (kinds : List Kind) (d : Kind) (bytes : List ℕ) (slots all : List SlotValue) (after : List ℕ)
    → i < length kinds → IsOnWay ids kept base i kinds bytes slots all after
    → IsOnWay ids kept base (i + 1) kinds (drop (width_of ids (get_or kinds i d)) bytes) (slots ++ value_if (nat_lt i kept) (value_at ids (get_or kinds i d) (base + i) bytes)) all after
unfolding fields_from after_fields
one_field ids kept base i kinds d bytes slots all after less so_far =
    let kind = get_or kinds i d in
    let next : drop i kinds ≡ kind ∷ drop (i + 1) kinds = drop-cons kinds i d less ∙ ap (λ (n : ℕ). kind ∷ drop n kinds) (sym (add-one i)) in
    record {
      slots_left =
          append_assoc slots (value_if (nat_lt i kept) (value_at ids kind (base + i) bytes)) (fields_from ids kept base (i + 1) (drop (i + 1) kinds) (drop (width_of ids kind) bytes))
          ∙ sym (ap (λ (ks : List Kind). slots ++ fields_from ids kept base i ks bytes) next) ∙ so_far.slots_left;
      bytes_left = sym (ap (λ (ks : List Kind). after_fields ids ks bytes) next) ∙ so_far.bytes_left;
    }

pub no_fields : (ids : IdSize) (kept base i : ℕ) (kinds : List Kind) (bytes : List ℕ) (slots all : List SlotValue) (after : List ℕ)
    → drop i kinds ≡ [] → IsOnWay ids kept base i kinds bytes slots all after → (slots ≡ all) × (bytes ≡ after)
unfolding fields_from after_fields
no_fields ids kept base i kinds bytes slots all after none so_far = (
  sym (append-nil slots) ∙ sym (ap (λ (ks : List Kind). slots ++ fields_from ids kept base i ks bytes) none) ∙ so_far.slots_left,
  sym (ap (λ (ks : List Kind). after_fields ids ks bytes) none) ∙ so_far.bytes_left,
)

pub one_static : (i : ℕ) (fields : List StaticField) (d : StaticField) (slots all : List SlotValue)
    → i < length fields → slots ++ statics_from i (drop i fields) ≡ all
    → (slots ++ record { slot = i; kind = (get_or fields i d).kind; value = number_in (get_or fields i d).value.now } ∷ []) ++ statics_from (i + 1) (drop (i + 1) fields) ≡ all
unfolding statics_from
one_static i fields d slots all less so_far =
    let f = get_or fields i d in
    let next : drop i fields ≡ f ∷ drop (i + 1) fields = drop-cons fields i d less ∙ ap (λ (n : ℕ). f ∷ drop n fields) (sym (add-one i)) in
    append_assoc slots (record { slot = i; kind = f.kind; value = number_in f.value.now } ∷ []) (statics_from (i + 1) (drop (i + 1) fields))
    ∙ sym (ap (λ (fs : List StaticField). slots ++ statics_from i fs) next) ∙ so_far

pub no_statics : (i : ℕ) (fields : List StaticField) (slots all : List SlotValue)
    → drop i fields ≡ [] → slots ++ statics_from i (drop i fields) ≡ all → slots ≡ all
unfolding statics_from
no_statics i fields slots all none so_far =
    sym (append-nil slots) ∙ sym (ap (λ (fs : List StaticField). slots ++ statics_from i fs) none) ∙ so_far
