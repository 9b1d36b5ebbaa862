-- Own fields and static fields are read as they are spelled.
use Rattle.std.proofs.Common.{◌≡◌, ℕ, List, ◌++◌, length, refl, sym, append_assoc}
use Rattle.heap_class.specs.declared.IdSize.{IdSize}
use Rattle.heap_class.specs.declared.Kind.{Kind}
use Rattle.heap_class.specs.Kinds.{width_of, type_code}
use Rattle.hprof_text.specs.Text.{u1, id}
use Rattle.hprof_text.specs.Fits.{FitsId}
use Rattle.hprof_reader.specs.Fields.{own_field_text, FitsOwnField, own_field_pair, made_own_field, own_field_parts, static_field_text, FitsStaticField, static_field_pair, made_static_field, static_field_parts}
use Rattle.hprof_reader.specs.Kinds.{kind_parts}
use Rattle.hprof_reader.specs.Reading.{read_in_turn, number_at, taken_at, id_width}
use Rattle.hprof_reader.proofs.Readers.{IsReader, bytes_reader, reader_of_two_in_turn, reader_that_makes_value}
use Rattle.hprof_reader.proofs.ReadKinds.{id_reader, kind_reader}

-- ---- own fields

abbrev own_text : IdSize → ℕ × Kind → List ℕ
own_text ids x = id ids x.0 ++ u1 (type_code x.1)

abbrev OwnFieldFits : IdSize → ℕ × Kind → Type 0
OwnFieldFits ids x = FitsId ids x.0 × Unit {0}

own_reader : (ids : IdSize) → IsReader (own_text ids) (OwnFieldFits ids) (own_field_pair ids)
own_reader ids =
    reader_of_two_in_turn {A = ℕ} {B = Kind} (id ids) (FitsId ids) (number_at (id_width ids)) (λ n k. u1 (type_code k)) (λ n k. Unit {0}) (λ n. kind_parts) (id_reader ids) (λ n _. kind_reader)

pub own_field_reader : (ids : IdSize) → IsReader (own_field_text ids) (FitsOwnField ids) (own_field_parts ids)
unfolding own_field_parts
own_field_reader ids =
    reader_that_makes_value (own_text ids) (OwnFieldFits ids) (own_field_pair ids) made_own_field (own_field_text ids) (FitsOwnField ids) (own_reader ids)
    (record { spelled = λ x fits. (refl, fits.0); each = λ f fits. ((f.name, f.kind), (fits, tt), refl, refl) })

-- ---- static fields

abbrev static_text : IdSize → ℕ × (Kind × List ℕ) → List ℕ
static_text ids x = id ids x.0 ++ (u1 (type_code x.1.0) ++ x.1.1)

abbrev StaticFieldFits : IdSize → ℕ × (Kind × List ℕ) → Type 0
StaticFieldFits ids x = FitsId ids x.0 × (Unit {0} × (length x.1.1 ≡ width_of ids x.1.0))

static_reader : (ids : IdSize) → IsReader (static_text ids) (StaticFieldFits ids) (static_field_pair ids)
static_reader ids =
    reader_of_two_in_turn {A = ℕ} {B = Kind × List ℕ} (id ids) (FitsId ids) (number_at (id_width ids)) (λ n x. u1 (type_code x.0) ++ x.1) (λ n x. Unit {0} × (length x.1 ≡ width_of ids x.0)) (λ n. read_in_turn kind_parts (λ kind. taken_at (width_of ids kind)))
    (id_reader ids)
    (λ n _. reader_of_two_in_turn {A = Kind} {B = List ℕ} (λ k. u1 (type_code k)) (λ k. Unit {0}) kind_parts (λ k v. v) (λ k v. length v ≡ width_of ids k) (λ k. taken_at (width_of ids k)) kind_reader (λ k _. bytes_reader (width_of ids k)))

pub static_field_reader : (ids : IdSize) → IsReader (static_field_text ids) (FitsStaticField ids) (static_field_parts ids)
unfolding static_field_parts
static_field_reader ids =
    reader_that_makes_value (static_text ids) (StaticFieldFits ids) (static_field_pair ids) made_static_field (static_field_text ids) (FitsStaticField ids) (static_reader ids)
    (record {
      spelled = λ x fits. (sym (append_assoc (id ids x.0) (u1 (type_code x.1.0)) x.1.1), (fits.0, fits.1.1));
      each = λ f fits. ((f.name, (f.kind, f.value)), (fits.0, (tt, fits.1)), refl, append_assoc (id ids f.name) (u1 (type_code f.kind)) f.value);
    })
