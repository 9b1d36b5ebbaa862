-- Classes in order of definition, their slots, and names in order of first use.
use Rattle.std.specs.Prelude.{◌≡◌, ℕ, ◌+◌, Bool, true, false, not, ◌&&◌, ◌||◌, nat_le, nat_lt, ◌==◌, List, [], ◌∷◌, ◌++◌, length, map, filter, replicate, slice_get, Option, None, unwrap_or, codes, flat_map, sum_by, Result, IfOk, OnOk, OnErr}
use Rattle.std.specs.Option.{option_map_or}
use Rattle.std.specs.List.{list_any, list_all, position_or_len}
use Rattle.std.specs.Str.{bytes_eq}
use Rattle.std.specs.Char.{is_ascii_alphanumeric, is_ascii_graphic}
use Rattle.heap_class.specs.declared.ClassLimits.{ClassLimits}
use Rattle.heap_class.specs.declared.IdSize.{IdSize}
use Rattle.heap_class.specs.declared.Kind.{Kind}
use Rattle.heap_class.specs.declared.ObjKind.{ObjKind}
use Rattle.heap_class.specs.declared.ObjKind.TheVariants.{Instance, Array, Prim}
use Rattle.heap_class.specs.declared.Field.{Field}
use Rattle.heap_class.specs.declared.Refusal.{Refusal}
use Rattle.heap_class.specs.declared.Refusal.TheVariants.{NoClass, ClassLimit, BadName, DuplicateName, FieldLimit}
use Rattle.heap_class.specs.Kinds.{width_of}
use Rattle.heap_class.specs.Limits.{slot_limit, widest_classes}
use Rattle.heap_class.specs.Refusals.{first_refusal, IsAnswered}

-- a class: its name, its super's number, its own fields in order, and whether it is an array class
pub record Class : Type 0 where
  pub name : List ℕ
  pub sup : Option ℕ
  pub fields : List Field
  pub is_array : Bool

-- the slots of a class: its own fields, then its super's slots, which `above` has
unfoldable pub slots_under : List (List Kind) → Class → List Kind
slots_under above c =
    map (λ f. f.kind) c.fields ++ option_map_or (λ s. unwrap_or (slice_get above s) []) c.sup []

-- the slots of each class, in order of definition, after `above`, those of the classes before them
unfoldable pub slot_table_after : List (List Kind) → List Class → List (List Kind)
slot_table_after above [] = above
slot_table_after above (c ∷ cs) = slot_table_after (above ++ slots_under above c ∷ []) cs

-- the kinds of the slots of class k
unfoldable pub slots_of : List Class → ℕ → List Kind
slots_of classes k = unwrap_or (slice_get (slot_table_after [] classes) k) []

-- the kinds of the n slots of an object of this kind; an instance has as many slots as its class, whatever n is
unfoldable pub slot_kinds_of : List Class → ObjKind → ℕ → List Kind
slot_kinds_of classes (Instance k) n = slots_of classes k
slot_kinds_of classes (Array k) n = replicate n Kind.Object
slot_kinds_of classes (Prim kind) n = replicate n kind

-- the sizes of all of a class's slots together in a dump, inherited ones included
unfoldable pub instance_size : IdSize → List Class → ℕ → ℕ
instance_size ids classes k = sum_by (width_of ids) (slots_of classes k)

-- the names of a class: its own, then its fields'
unfoldable pub names_in : Class → List (List ℕ)
names_in c = c.name ∷ map (λ f. f.name) c.fields

-- the list without the items that stand further up in it
unfoldable pub first_uses : List (List ℕ) → List (List ℕ)
first_uses [] = []
first_uses (x ∷ xs) = x ∷ filter (λ y. not (bytes_eq x y)) (first_uses xs)

-- the distinct names of classes and fields, in order of first use
unfoldable pub name_table : List Class → List (List ℕ)
name_table classes = first_uses (flat_map names_in classes)

-- whether no item stands twice
unfoldable pub all_distinct : List (List ℕ) → Bool
all_distinct [] = true
all_distinct (x ∷ xs) = not (list_any (bytes_eq x) xs) && all_distinct xs

-- whether a byte may stand in a name: a letter, a digit or one of _ $ / [ ; ., and with `any_sign` each byte that prints a sign,
-- except the colon
unfoldable pub is_name_byte : Bool → ℕ → Bool
is_name_byte any_sign b =
    (any_sign && (is_ascii_graphic b && not (list_any (λ c. b == c) (codes ":"))))
    || (is_ascii_alphanumeric b || list_any (λ c. b == c) (codes "_$/[;."))

-- whether this is a name in a heap with these limits: 1 to `name_bytes` bytes, each of them allowed
unfoldable pub is_name : ClassLimits → List ℕ → Bool
is_name limits n =
    nat_le 1 (length n)
    && nat_le (length n) limits.name_bytes
    && list_all (is_name_byte limits.any_sign) n

-- whether k is the number of an instance class
unfoldable pub is_instance_class : List Class → ℕ → Bool
is_instance_class classes k = option_map_or (λ c. not c.is_array) (slice_get classes k) false

-- whether k is the number of an array class
unfoldable pub is_array_class : List Class → ℕ → Bool
is_array_class classes k = option_map_or (λ c. c.is_array) (slice_get classes k) false

-- an instance class with this name, super and own fields
abbrev pub instance_class : List ℕ → Option ℕ → List Field → Class
instance_class name sup fields =
    record { name = name; sup = sup; fields = fields; is_array = false }

-- an array class with this name, which has no super and no fields
abbrev pub array_class : List ℕ → Class
array_class name = record { name = name; sup = None; fields = []; is_array = true }

-- the first refusal of a new class, be it an instance class or an array class, in a heap with these limits
unfoldable pub class_refusal : ClassLimits → List Class → Class → Option Refusal
class_refusal limits classes c = first_refusal
    ((not (option_map_or (is_instance_class classes) c.sup true), NoClass)
    ∷ (nat_le limits.classes (length classes), ClassLimit)
    ∷ (not (list_all (is_name limits) (names_in c)), BadName)
    ∷ (
      list_any (λ d. bytes_eq d.name c.name) classes
          || not (all_distinct (map (λ f. f.name) c.fields)),
      DuplicateName,
    )
    ∷ (nat_lt slot_limit (length (slots_under (slot_table_after [] classes) c)), FieldLimit)
    ∷ [])

-- a call that defines this class after those of `before`, in a heap with these limits, unless it is refused, had this result
pub record IsDefined (limits : ClassLimits) (c : Class) (before after : List Class)
    (result : Result ℕ Refusal) : Type 0 where
  pub answered : IsAnswered (class_refusal limits before c) true result
  pub defined : OnOk result (after ≡ before ++ c ∷ [])
  pub number : IfOk result (λ k. k ≡ length before)
  pub unchanged : OnErr result (after ≡ before)

-- the classes are defined after those of `before`, one after another: none is refused, and an array class has no super and no
-- field
abbrev pub IsClassTable : List Class → List Class → Type 0
IsClassTable before [] = Unit {0}
IsClassTable before (c ∷ cs) =
    (class_refusal widest_classes before c ≡ None)
    × (c.is_array ≡ true → (c.sup ≡ None) × (c.fields ≡ []))
    × IsClassTable (before ++ c ∷ []) cs

-- the name of class k, which must be there
unfoldable pub name_of : List Class → ℕ → List ℕ
name_of classes k = option_map_or (λ c. c.name) (slice_get classes k) []

-- the own fields of class k, which must be there
unfoldable pub fields_of : List Class → ℕ → List Field
fields_of classes k = option_map_or (λ c. c.fields) (slice_get classes k) []

-- the super of class k, which must be there
unfoldable pub sup_of : List Class → ℕ → Option ℕ
sup_of classes k = option_map_or (λ c. c.sup) (slice_get classes k) None

-- the id of a name: names have 1, 2, 3, .. in order of first use
unfoldable pub name_id : List Class → List ℕ → ℕ
name_id classes name = 1 + position_or_len (bytes_eq name) (name_table classes)
