-- The numbers of a text fit in their bytes.
use Rattle.std.proofs.Common.{◌≡◌, ℕ, ◌+◌, ◌^◌, ◌<◌, ◌≤◌, not, Bool, true, false, List, [], ◌∷◌, length, map, arith, Option, Some, None, refl, sym, subst}
use Rattle.std.specs.Prelude.{nat_le, All}
use Rattle.std.specs.Option.{option_map_or}
use Rattle.std.specs.List.{enumerate_from}
use Rattle.std.specs.Str.{bytes_eq}
use Rattle.std.proofs.lemmas.List.Elements.{All-nil, All-cons, All-head, All-tail, All-map}
use Rattle.std.proofs.lemmas.List.Sums.{prefix_len-le-length}
use Rattle.heap_class.specs.declared.IdSize.{IdSize}
use Rattle.heap_class.specs.declared.IdSize.TheVariants.{Four, Eight}
use Rattle.heap_class.specs.declared.Kind.{Kind}
use Rattle.heap_class.specs.declared.Field.{Field}
use Rattle.heap_class.specs.declared.ObjKind.{ObjKind}
use Rattle.heap_class.specs.declared.ObjKind.TheVariants.{Instance, Array, Prim}
use Rattle.heap_class.specs.Limits.{large_array_limit}
use Rattle.heap_class.specs.Kinds.{type_code}
use Rattle.heap_class.specs.Classes.{slots_of, name_table, name_id, instance_size}
use Rattle.hprof_text.specs.Image.{Image, IsKnown, IsDumpable}
use Rattle.hprof_text.specs.Text.{class_id, sub_records}
use Rattle.hprof_text.specs.Segments.{segment_limit, size_of, segments_of, sizes_at, segment_sizes}
use Rattle.hprof_text.specs.Fits.{FitsBytes, FitsId, Utf8Fits, LoadClassFits, FieldFits, ClassDumpFits, DumpFits, HoldsWhole}
use Rattle.hprof_text.proofs.Bounds.{instance_small, id_small}
use Rattle.hprof_text.proofs.Lengths.{utf8_length, load_length, trace_length, values_length}
use Rattle.hprof_text.proofs.Loops.{all_hold_with_their_numbers}
use Rattle.hprof_text.proofs.Sections.{sub_records_within_limit}
use Rattle.hprof_text.proofs.SegmentSizes.{sizes_of_all_segments}
use Rattle.heap_class.proofs.FewSlots.{slots_few}
use Rattle.hprof_text.proofs.Tables.{IsShort, IsSmall, classes_small, name_table_is_short, table_names_few}

-- ---- single numbers

pub small_number_fits_id : (ids : IdSize) (n : ℕ) → n < 2 ^ 32 → FitsId ids n
small_number_fits_id Four n h = h
small_number_fits_id Eight n h = omega (arith, h)

type_code_fits_byte : (k : Kind) → FitsBytes 1 (type_code k)
type_code_fits_byte Kind.Object = omega arith
type_code_fits_byte _ = omega arith

-- ---- the segments

-- the body of a sub-record or of a segment has at most 16777201 bytes
abbrev IsBodyWithinMost : ℕ → Type 0
IsBodyWithinMost n = n ≤ 16777201

open_segment_sizes_are_short : (size : ℕ) (ns : List ℕ) → size ≤ 16777201 → All IsBodyWithinMost ns → All IsBodyWithinMost (sizes_at segment_limit size ns)
unfolding sizes_at
open_segment_sizes_are_short size [] h a = All-cons IsBodyWithinMost size [] h (All-nil IsBodyWithinMost)
open_segment_sizes_are_short size (n ∷ ns) h a = go (nat_le (size + n) segment_limit) refl (λ l. open_segment_sizes_are_short (size + n) ns l (All-tail IsBodyWithinMost n ns a)) (open_segment_sizes_are_short n ns (All-head IsBodyWithinMost n ns a) (All-tail IsBodyWithinMost n ns a))
  where
    go : (b : Bool) → nat_le (size + n) segment_limit ≡ b → (size + n ≤ 16777201 → All IsBodyWithinMost (sizes_at segment_limit (size + n) ns)) → All IsBodyWithinMost (sizes_at segment_limit n ns)
        → All IsBodyWithinMost (elim b [ true ↦ sizes_at segment_limit (size + n) ns | false ↦ size ∷ sizes_at segment_limit n ns ])
    go true e fits over = fits (let l : size + n ≤ 4096 = grind (arith, e) in omega (arith, l))
    go false e fits over = All-cons IsBodyWithinMost size (sizes_at segment_limit n ns) h over

segment_bodies_are_short : (ns : List ℕ) → All IsBodyWithinMost ns → All IsBodyWithinMost (segment_sizes segment_limit ns)
unfolding segment_sizes
segment_bodies_are_short [] a = All-nil IsBodyWithinMost
segment_bodies_are_short (n ∷ ns) a = open_segment_sizes_are_short n ns (All-head IsBodyWithinMost n ns a) (All-tail IsBodyWithinMost n ns a)

segment_sizes_fit_four_bytes : (ids : IdSize) (image : Image) → IsDumpable image → All (λ s. FitsBytes 4 (size_of s)) (segments_of segment_limit (sub_records ids image))
segment_sizes_fit_four_bytes ids image d =
    let subs = sub_records ids image in
    let short = segment_bodies_are_short (map length subs) (All-map IsBodyWithinMost length subs (sub_records_within_limit ids image d)) in
    let a : All IsBodyWithinMost (map size_of (segments_of segment_limit subs)) = subst (All IsBodyWithinMost) (sym (sizes_of_all_segments segment_limit subs)) short in
    unmapped (segments_of segment_limit (sub_records ids image)) a
  where
    unmapped : (ss : List (List (List ℕ))) → All IsBodyWithinMost (map size_of ss) → All (λ s. FitsBytes 4 (size_of s)) ss
    unmapped [] a = All-nil (λ s. FitsBytes 4 (size_of s))
    unmapped (s ∷ ss) a =
        let h : size_of s ≤ 16777201 = All-head IsBodyWithinMost (size_of s) (map size_of ss) a in
        All-cons (λ s. FitsBytes 4 (size_of s)) s ss (omega (arith, h)) (unmapped ss (All-tail IsBodyWithinMost (size_of s) (map size_of ss) a))

-- ---- each part

module _ (ids : IdSize) (image : Image) (d : IsDumpable image) where
  few_names : length (name_table image.classes) ≤ 266240
  few_names = omega (arith, table_names_few image.classes d.classes, d.few_classes)

  name_fits : (name : List ℕ) → FitsId ids (name_id image.classes name)
  unfolding name_id
  name_fits name = small_number_fits_id ids _ (omega (arith, few_names, prefix_len-le-length (λ n. not (bytes_eq name n)) (name_table image.classes)))

  sup_fits : (sup : Option ℕ) → ((s : ℕ) → sup ≡ Some s → s < length image.classes) → FitsId ids (option_map_or class_id sup 0)
  sup_fits None h = small_number_fits_id ids 0 (omega arith)
  sup_fits (Some s) h = let l : s < length image.classes = h s refl in small_number_fits_id ids (class_id s) (omega (arith, l, d.few_classes))

  names_fit : All (Utf8Fits ids) (enumerate_from 1 (name_table image.classes))
  names_fit =
      all_hold_with_their_numbers (Utf8Fits ids) IsShort (1 + length (name_table image.classes)) 1 (name_table image.classes) (omega arith)
      (λ k n l s. (omega (arith, utf8_length ids k n, id_small ids, s), small_number_fits_id ids k (omega (arith, l, few_names))))
      (name_table_is_short image.classes d.classes)

  loaded_fit : All (LoadClassFits ids image.classes) (enumerate_from 0 image.classes)
  loaded_fit =
      all_hold_with_their_numbers (LoadClassFits ids image.classes) (IsSmall (length image.classes)) (length image.classes) 0 image.classes (omega arith)
      (λ k c l s. (omega (arith, load_length ids image.classes (k, c), id_small ids), omega (arith, l, d.few_classes), small_number_fits_id ids (class_id k) (omega (arith, l, d.few_classes)), name_fits c.name))
      (classes_small image.classes d.classes)

  fields_fit : (fs : List Field) → All (FieldFits ids image.classes) fs
  fields_fit [] = All-nil (FieldFits ids image.classes)
  fields_fit (f ∷ fs) = All-cons (FieldFits ids image.classes) f fs (name_fits f.name, type_code_fits_byte f.kind) (fields_fit fs)

  size_fits : (k : ℕ) → FitsBytes 4 (instance_size ids image.classes k)
  size_fits k = omega (arith, instance_small ids image.classes k (slots_few image.classes d.classes k))

  dumps_fit : All (ClassDumpFits ids image.classes) (enumerate_from 0 image.classes)
  dumps_fit =
      all_hold_with_their_numbers (ClassDumpFits ids image.classes) (IsSmall (length image.classes)) (length image.classes) 0 image.classes (omega arith)
      (λ k c l s. (small_number_fits_id ids (class_id k) (omega (arith, l, d.few_classes)), sup_fits c.sup s.sup, size_fits k, omega (arith, s.fields), fields_fit c.fields))
      (classes_small image.classes d.classes)

  dump_fits : (kind : ObjKind) (words : List ℕ) → IsKnown image.classes kind (length words) → length words ≤ large_array_limit → DumpFits ids image.classes kind words
  unfolding instance_size
  dump_fits (Instance k) words h l = (
    small_number_fits_id ids (class_id k) (omega (arith, h.0, d.few_classes)),
    omega (arith, values_length ids (slots_of image.classes k) words h.1, instance_small ids image.classes k (slots_few image.classes d.classes k)),
  )
  dump_fits (Array k) words h l = (omega (arith, l), small_number_fits_id ids (class_id k) (omega (arith, h, d.few_classes)))
  dump_fits (Prim kind) words h l = (omega (arith, l), type_code_fits_byte kind)

  pub numbers_fit : (time : ℕ) → time < 2 ^ 64 → HoldsWhole ids image time
  numbers_fit time h = record {
    header = (omega (arith, id_small ids), omega (arith, h), omega arith);
    names = names_fit;
    loaded = loaded_fit;
    trace = omega (arith, trace_length);
    segments = segment_sizes_fit_four_bytes ids image d;
    classes = dumps_fit;
    objects = λ k o l. dump_fits _ _ (d.known k o l) (d.small k o l);
  }
