-- Why a class is refused, by its tests in their order.
use Rattle.std.proofs.Common.{◌≡◌, Bool, true, false, not, ◌||◌, cond, List, [], ◌++◌, ◌+◌, ◌∙◌, ap, sym, length, length-append, map, Some, None, refl}
use Rattle.std.proofs.lemmas.List.{length-map}
use Rattle.heap_class.specs.declared.Kind.{Kind}
use Rattle.std.specs.Prelude.{nat_le, nat_lt, Option}
use Rattle.std.specs.List.{list_any, list_all}
use Rattle.std.specs.Option.{option_map_or}
use Rattle.std.specs.Str.{bytes_eq}
use Rattle.heap_class.specs.Limits.{slot_limit}
use Rattle.heap_class.specs.declared.ClassLimits.{ClassLimits}
use Rattle.heap_class.specs.declared.Field.{Field}
use Rattle.heap_class.specs.declared.Refusal.{Refusal}
use Rattle.heap_class.specs.declared.Refusal.TheVariants.{NoClass, ClassLimit, BadName, DuplicateName, FieldLimit}
use Rattle.heap_class.specs.Refusals.{first_refusal}
use Rattle.heap_class.specs.Classes.{Class, is_instance_class, is_name, names_in, all_distinct, slots_under, slot_table_after, slots_of, class_refusal}

module _ (limits : ClassLimits) (classes : List Class) (c : Class) where
  tested : (a b d e f : Bool)
      → a ≡ option_map_or (is_instance_class classes) c.sup true
      → b ≡ nat_le limits.classes (length classes)
      → d ≡ list_all (is_name limits) (names_in c)
      → e ≡ (list_any (λ (x : Class). bytes_eq x.name c.name) classes || not (all_distinct (map (λ (g : Field). g.name) c.fields)))
      → f ≡ nat_lt slot_limit (length (slots_under (slot_table_after [] classes) c))
      → cond {A = Option Refusal} (not a) (Some NoClass) (cond b (Some ClassLimit) (cond (not d) (Some BadName) (cond e (Some DuplicateName) (cond f (Some FieldLimit) None))))
      ≡ class_refusal limits classes c
  unfolding class_refusal first_refusal
  tested a b d e f ha hb hd he hf i =
      cond (not (ha i)) (Some NoClass) (cond (hb i) (Some ClassLimit) (cond (not (hd i)) (Some BadName) (cond (he i) (Some DuplicateName) (cond (hf i) (Some FieldLimit) None))))

  pub no_class : false ≡ option_map_or (is_instance_class classes) c.sup true → ◌≡◌ {A = Option Refusal} (Some NoClass) (class_refusal limits classes c)
  no_class h = tested false _ _ _ _ h refl refl refl refl

  module _ (super_is : true ≡ option_map_or (is_instance_class classes) c.sup true) where
    pub class_limited : true ≡ nat_le limits.classes (length classes) → ◌≡◌ {A = Option Refusal} (Some ClassLimit) (class_refusal limits classes c)
    class_limited h = tested true true _ _ _ super_is h refl refl refl

    module _ (room : false ≡ nat_le limits.classes (length classes)) where
      pub bad_name : false ≡ list_all (is_name limits) (names_in c) → ◌≡◌ {A = Option Refusal} (Some BadName) (class_refusal limits classes c)
      bad_name h = tested true false false _ _ super_is room h refl refl

      module _ (names : true ≡ list_all (is_name limits) (names_in c)) where
        pub duplicate_name : true ≡ (list_any (λ (x : Class). bytes_eq x.name c.name) classes || not (all_distinct (map (λ (g : Field). g.name) c.fields))) → ◌≡◌ {A = Option Refusal} (Some DuplicateName) (class_refusal limits classes c)
        duplicate_name h = tested true false true true _ super_is room names h refl

        module _ (apart : false ≡ (list_any (λ (x : Class). bytes_eq x.name c.name) classes || not (all_distinct (map (λ (g : Field). g.name) c.fields)))) where
          pub field_limited : true ≡ nat_lt slot_limit (length (slots_under (slot_table_after [] classes) c)) → ◌≡◌ {A = Option Refusal} (Some FieldLimit) (class_refusal limits classes c)
          field_limited h = tested true false true false true super_is room names apart h

          pub accepted : false ≡ nat_lt slot_limit (length (slots_under (slot_table_after [] classes) c)) → ◌≡◌ {A = Option Refusal} None (class_refusal limits classes c)
          accepted h = tested true false true false false super_is room names apart h

-- the slots of a class over these of its super
pub slots_are : (classes : List Class) (c : Class) (above : List Kind) → above ≡ option_map_or (slots_of classes) c.sup [] → slots_under (slot_table_after [] classes) c ≡ map (λ (g : Field). g.kind) c.fields ++ above
unfolding slots_under slots_of
slots_are classes c above e = λ i. map (λ (g : Field). g.kind) c.fields ++ sym e i

pub slot_count : (classes : List Class) (c : Class) (above : List Kind) → above ≡ option_map_or (slots_of classes) c.sup [] → length (slots_under (slot_table_after [] classes) c) ≡ length c.fields + length above
slot_count classes c above e =
    ap length (slots_are classes c above e)
    ∙ length-append (map (λ (g : Field). g.kind) c.fields) above
    ∙ ap (λ n. n + length above) (length-map c.fields (λ (g : Field). g.kind))
