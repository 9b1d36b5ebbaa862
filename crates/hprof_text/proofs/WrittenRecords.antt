-- Each record as it is written: its head, then its parts.
use Rattle.std.proofs.Common.{◌≡◌, ℕ, zero, suc, ◌+◌, ◌*◌, List, [], ◌∷◌, ◌++◌, length, refl, sym, ap, ap₂, ◌∙◌, arith, length-append, append_assoc}
use Rattle.std.specs.Prelude.{flat_map, zip}
use Rattle.std.specs.Option.{option_map_or}
use Rattle.heap_class.specs.declared.IdSize.{IdSize}
use Rattle.heap_class.specs.declared.Kind.{Kind}
use Rattle.heap_class.specs.declared.ObjKind.TheVariants.{Instance}
use Rattle.heap_class.specs.Kinds.{id_bytes}
use Rattle.heap_class.specs.Classes.{Class, slots_of, sup_of, fields_of, name_of, name_id, instance_size}
use Rattle.hprof_text.specs.Records.{class_at, record_head, class_ids, class_counts}
use Rattle.hprof_text.specs.Text.{u1, u2, u4, id, class_id, record_of, load_class, field_entry, class_dump, value_bytes, dump_of}
use Rattle.hprof_text.proofs.Lengths.{id_length, values_length}

-- the bodies of two records
pub utf8_body : (ids : IdSize) (n : ℕ) (name : List ℕ) → length (id ids n ++ name) ≡ id_bytes ids + length name
utf8_body ids n name = omega (arith, length-append (id ids n) name, id_length ids n)

pub load_body : (ids : IdSize) (k n : ℕ) → length (u4 (k + 1) ++ id ids (class_id k) ++ u4 1 ++ id ids n) ≡ 8 + 2 * id_bytes ids
load_body ids k n = simp length-append (omega (arith, id_length ids (class_id k), id_length ids n))

-- the name of a class that is there
pub name_at : (classes : List Class) (k : ℕ) → name_of classes k ≡ (class_at classes k).name
unfolding name_of
name_at [] k = refl
name_at (c ∷ cs) zero = refl
name_at (c ∷ cs) (suc k) = name_at cs k

pub sup_at : (classes : List Class) (k : ℕ) → sup_of classes k ≡ (class_at classes k).sup
unfolding sup_of
sup_at [] k = refl
sup_at (c ∷ cs) zero = refl
sup_at (c ∷ cs) (suc k) = sup_at cs k

pub fields_at : (classes : List Class) (k : ℕ) → fields_of classes k ≡ (class_at classes k).fields
unfolding fields_of
fields_at [] k = refl
fields_at (c ∷ cs) zero = refl
fields_at (c ∷ cs) (suc k) = fields_at cs k

pub load_class_parts : (ids : IdSize) (classes : List Class) (k : ℕ) → record_head 0x02 (8 + 2 * id_bytes ids) ++ u4 (k + 1) ++ id ids (class_id k) ++ u4 1 ++ id ids (name_id classes (name_of classes k)) ≡ load_class ids classes (k, class_at classes k)
unfolding load_class record_of
load_class_parts ids classes k =
    let n : ℕ = name_id classes (class_at classes k).name in
    ap (λ m. record_head 0x02 (8 + 2 * id_bytes ids) ++ u4 (k + 1) ++ id ids (class_id k) ++ u4 1 ++ id ids (name_id classes m)) (name_at classes k)
    ∙ regrouped (record_head 0x02 (8 + 2 * id_bytes ids)) (u4 (k + 1)) (id ids (class_id k)) (u4 1) (id ids n)
    ∙ ap (λ m. record_head 0x02 m ++ (u4 (k + 1) ++ id ids (class_id k) ++ u4 1 ++ id ids n)) (sym (load_body ids k n))
  where
    regrouped : (h a b c d : List ℕ) → h ++ a ++ b ++ c ++ d ≡ h ++ (a ++ b ++ c ++ d)
    regrouped h a b c d = simp append_assoc refl

pub class_dump_parts : (ids : IdSize) (classes : List Class) (k sup size fields : ℕ) → sup ≡ option_map_or class_id (sup_of classes k) 0 → size ≡ instance_size ids classes k → fields ≡ length (fields_of classes k)
    → class_dump ids classes (k, class_at classes k) ≡ class_ids ids k sup ++ class_counts size fields ++ flat_map (field_entry ids classes) (fields_of classes k)
unfolding class_dump
class_dump_parts ids classes k sup size fields a b d =
    grouped (class_ids ids k (option_map_or class_id (class_at classes k).sup 0)) (u4 (instance_size ids classes k)) (u2 0) (u2 0) (u2 (length (class_at classes k).fields)) (flat_map (field_entry ids classes) (class_at classes k).fields)
    ∙ ap₂ (λ s fs. class_ids ids k (option_map_or class_id s 0) ++ class_counts (instance_size ids classes k) (length fs) ++ flat_map (field_entry ids classes) fs) (sym (sup_at classes k)) (sym (fields_at classes k))
    ∙ ap (λ s. class_ids ids k s ++ class_counts (instance_size ids classes k) (length (fields_of classes k)) ++ flat_map (field_entry ids classes) (fields_of classes k)) (sym a)
    ∙ ap₂ (λ m n. class_ids ids k sup ++ class_counts m n ++ flat_map (field_entry ids classes) (fields_of classes k)) (sym b) (sym d)
  where
    grouped : (h a b c d e : List ℕ) → h ++ a ++ b ++ c ++ d ++ e ≡ h ++ (a ++ b ++ c ++ d) ++ e
    grouped h a b c d e = simp append_assoc refl

pub instance_dump_by_its_parts : (ids : IdSize) (classes : List Class) (x k size : ℕ) (kinds : List Kind) (words : List ℕ) → length words ≡ length (slots_of classes k) → size ≡ instance_size ids classes k → kinds ≡ slots_of classes k
    → u1 0x21 ++ id ids x ++ u4 1 ++ id ids (class_id k) ++ u4 size ++ flat_map (value_bytes ids) (zip kinds words) ≡ dump_of ids classes x (Instance k) words
unfolding dump_of instance_size
instance_dump_by_its_parts ids classes x k size kinds words h a b =
    ap₂ (λ m ks. u1 0x21 ++ id ids x ++ u4 1 ++ id ids (class_id k) ++ u4 m ++ flat_map (value_bytes ids) (zip ks words)) a b
    ∙ ap (λ n. u1 0x21 ++ id ids x ++ u4 1 ++ id ids (class_id k) ++ u4 n ++ flat_map (value_bytes ids) (zip (slots_of classes k) words)) (sym (values_length ids (slots_of classes k) words h))
