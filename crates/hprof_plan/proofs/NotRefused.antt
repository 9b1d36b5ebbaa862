-- Why a heap refuses none of the classes of a session.
use Rattle.std.proofs.Common.{◌≡◌, ◌⊎◌, inl, inr, ℕ, ◌+◌, ◌<◌, ◌≤◌, ◌^◌, Bool, true, false, not, ◌||◌, List, [], ◌∷◌, ◌++◌, length, map, Option, Some, None, refl, sym, ap, ap₂, subst, ◌∙◌, arith}
use Rattle.std.specs.Prelude.{fold}
use Rattle.std.specs.List.{list_any, list_all}
use Rattle.std.specs.Option.{option_map_or}
use Rattle.std.specs.Str.{bytes_eq}
use Rattle.std.proofs.lemmas.Bool.{and_parts, and_from, not-true, not_from_false, not_from_true, or_from, or_parts, lt-leb, le-ltb}
use Rattle.std.proofs.lemmas.List.{length-append}
use Rattle.std.proofs.lemmas.List.Folds.{list_all-append, list_any-append}
use Rattle.heap_class.specs.declared.ClassLimits.{ClassLimits}
use Rattle.heap_class.specs.declared.Field.{Field}
use Rattle.heap_class.specs.declared.Kind.{Kind}
use Rattle.heap_class.specs.declared.Refusal.{Refusal}
use Rattle.heap_class.specs.declared.Refusal.TheVariants.{NoMemory}
use Rattle.heap_class.specs.Classes.{Class, all_distinct, class_refusal, is_instance_class, is_name, names_in, slots_of, slots_under, slot_table_after}
use Rattle.heap_class.specs.Limits.{slot_limit}
use Rattle.heap_class.proofs.Acceptance.{accepted, slot_count}
use Rattle.heap_class.proofs.FirstUses.{bytes_flip}
use Rattle.hprof_reader.specs.declared.fields.OwnField.{OwnField}
use Rattle.hprof_reader.specs.Fields.{StaticTold}
use Rattle.hprof_plan.specs.Accepted.{class_names, next_name}
use Rattle.hprof_plan.specs.ClassFields.{add_field, name_at, own_named, static_named}
use Rattle.hprof_plan.specs.Names.{AreGiven, given_name}
use Rattle.hprof_plan.specs.Right.{AreRight}
use Rattle.hprof_plan.proofs.FieldLoops.{map_and}
use Rattle.hprof_plan.proofs.GivenNames.{given_name_is_new, given_taken, one_given}

-- ---- classes

any_flip : (classes : List Class) (n : List ℕ) → list_any (λ (d : Class). bytes_eq d.name n) classes ≡ list_any (bytes_eq n) (class_names classes)
any_flip [] n = refl
any_flip (d ∷ classes) n = ap₂ (λ (a b : Bool). a || b) (bytes_flip d.name n) (any_flip classes n)

all_taken : (limits : ClassLimits) (c : Class) → is_name limits c.name ≡ true → AreRight limits c.fields → list_all (is_name limits) (names_in c) ≡ true
unfolding names_in
all_taken limits c name right = and_from _ _ name right.taken

named_taken : (limits : ClassLimits) (classes : List Class) (c : Class) (x : List ℕ) → 22 ≤ limits.name_bytes → length classes < 2 ^ 64 → c.name ≡ next_name limits classes x
    → is_name limits c.name ≡ true
named_taken limits classes c x long few is =
    subst (λ (n : List ℕ). is_name limits n ≡ true) (sym is) (given_taken limits (length classes) x (class_names classes) few long)

named_fresh : (limits : ClassLimits) (classes : List Class) (c : Class) (x : List ℕ) → length classes < 2 ^ 64 → AreGiven limits (length classes) (class_names classes)
    → c.name ≡ next_name limits classes x → list_any (λ (d : Class). bytes_eq d.name c.name) classes ≡ false
named_fresh limits classes c x few given is =
    any_flip classes c.name
    ∙ ap (λ (n : List ℕ). list_any (bytes_eq n) (class_names classes)) is
    ∙ given_name_is_new limits (length classes) x (class_names classes) few given

pub not_refused : (limits : ClassLimits) (classes : List Class) (c : Class) (x : List ℕ) → 22 ≤ limits.name_bytes → length classes < 2 ^ 64 → length classes < limits.classes
    → AreGiven limits (length classes) (class_names classes) → c.name ≡ next_name limits classes x → option_map_or (is_instance_class classes) c.sup true ≡ true
    → AreRight limits c.fields → length c.fields + length (option_map_or (slots_of classes) c.sup []) ≤ slot_limit → class_refusal limits classes c ≡ None
not_refused limits classes c x long few room given is super right slots =
    sym (accepted limits classes c (sym super) (sym (lt-leb limits.classes (length classes) room))
    (sym (all_taken limits c (named_taken limits classes c x long few is) right))
    (sym (or_from _ _ (named_fresh limits classes c x few given is) (not_from_true _ right.distinct)))
    (sym (le-ltb slot_limit (length (slots_under (slot_table_after [] classes) c)) (omega (arith, slot_count classes c (option_map_or (slots_of classes) c.sup []) refl, slots)))))

pub none_right : (limits : ClassLimits) → AreRight limits []
unfolding all_distinct
none_right limits = record { taken = refl; distinct = refl }

-- ---- fields

abbrev field_names : List Field → List (List ℕ)
field_names fields = map (λ (f : Field). f.name) fields

distinct_and : (xs : List (List ℕ)) (y : List ℕ) → all_distinct xs ≡ true → list_any (bytes_eq y) xs ≡ false → all_distinct (xs ++ y ∷ []) ≡ true
unfolding all_distinct
distinct_and [] y all none = refl
distinct_and (x ∷ xs) y all none =
    let both = and_parts (not (list_any (bytes_eq x) xs)) (all_distinct xs) all in
    let apart = or_parts (bytes_eq y x) (list_any (bytes_eq y) xs) none in
    and_from _ _
    (not_from_false _ (list_any-append (bytes_eq x) xs (y ∷ []) ∙ or_from _ _ (not-true _ both.0) (or_from _ _ (bytes_flip x y ∙ apart.0) refl)))
    (distinct_and xs y both.1 apart.1)

-- fields, each with a name that was given
pub record AreFieldsGiven (limits : ClassLimits) (fields : List Field) : Type 0 where
  pub given : AreGiven limits (length fields) (field_names fields)
  pub right : AreRight limits fields

none_given : (limits : ClassLimits) → AreFieldsGiven limits []
none_given limits = record { given = tt; right = none_right limits }

names_and : (limits : ClassLimits) (names : List (List ℕ)) (n : ℕ) (x : List ℕ) → 22 ≤ limits.name_bytes → n < 2 ^ 64 → AreGiven limits n names → list_all (is_name limits) names ≡ true
    → all_distinct names ≡ true → (list_all (is_name limits) (names ++ given_name limits names n x ∷ []) ≡ true) × (all_distinct (names ++ given_name limits names n x ∷ []) ≡ true)
names_and limits names n x long few given taken distinct = (
  list_all-append (is_name limits) names (given_name limits names n x ∷ []) ∙ and_from _ _ taken (and_from _ _ (given_taken limits n x names few long) refl),
  distinct_and names (given_name limits names n x) distinct (given_name_is_new limits n x names few given),
)

field_and : (limits : ClassLimits) (done : List Field) (x : List ℕ) (kind : Kind) → 22 ≤ limits.name_bytes → length done < 2 ^ 64 → AreFieldsGiven limits done
    → AreFieldsGiven limits (add_field limits done x kind)
unfolding add_field
field_and limits done x kind long few all =
    let n = given_name limits (field_names done) (length done) x in
    let f : Field = record { name = n; kind = kind } in
    let names : field_names (done ++ f ∷ []) ≡ field_names done ++ n ∷ [] = map_and (λ (g : Field). g.name) done f in
    let both = names_and limits (field_names done) (length done) x long few all.given all.right.taken all.right.distinct in
    record {
      given =
          subst (λ (m : ℕ). AreGiven limits m (field_names (done ++ f ∷ []))) (sym (length-append done (f ∷ [])))
          (subst (λ (l : List (List ℕ)). AreGiven limits (length done + 1) l) (sym names) (one_given limits (length done) x (field_names done) all.given));
      right = record {
        taken = ap (list_all (is_name limits)) names ∙ both.0;
        distinct = ap all_distinct names ∙ both.1;
      };
    }

field_longer : (limits : ClassLimits) (done : List Field) (x : List ℕ) (kind : Kind) → length (add_field limits done x kind) ≡ length done + 1
unfolding add_field
field_longer limits done x kind = length-append done _

own_from : (limits : ClassLimits) (names : List (ℕ × List ℕ)) (done : List Field) (own : List OwnField) → 22 ≤ limits.name_bytes → length done + length own < 2 ^ 64 → AreFieldsGiven limits done
    → AreFieldsGiven limits (fold (λ (d : List Field) (f : OwnField). add_field limits d (name_at names f.name) f.kind) done own)
own_from limits names done [] long few all = all
own_from limits names done (f ∷ own) long few all =
    own_from limits names (add_field limits done (name_at names f.name) f.kind) own long (omega (arith, few, field_longer limits done (name_at names f.name) f.kind))
    (field_and limits done (name_at names f.name) f.kind long (omega (arith, few)) all)

own_length : (limits : ClassLimits) (names : List (ℕ × List ℕ)) (done : List Field) (own : List OwnField)
    → length (fold (λ (d : List Field) (f : OwnField). add_field limits d (name_at names f.name) f.kind) done own) ≡ length done + length own
own_length limits names done [] = omega arith
own_length limits names done (f ∷ own) =
    own_length limits names (add_field limits done (name_at names f.name) f.kind) own ∙ omega (arith, field_longer limits done (name_at names f.name) f.kind)

pub own_right : (limits : ClassLimits) (names : List (ℕ × List ℕ)) (own : List OwnField) → 22 ≤ limits.name_bytes → length own < 2 ^ 64 → AreRight limits (own_named limits names own)
own_right limits names own long few = let all = own_from limits names [] own long (omega (arith, few)) (none_given limits) in all.right

pub length-own_named : (limits : ClassLimits) (names : List (ℕ × List ℕ)) (own : List OwnField) → length (own_named limits names own) ≡ length own
length-own_named limits names own = own_length limits names [] own ∙ omega arith

static_from : (limits : ClassLimits) (names : List (ℕ × List ℕ)) (done : List Field) (statics : List StaticTold) → 22 ≤ limits.name_bytes → length done + length statics < 2 ^ 64
    → AreFieldsGiven limits done → AreFieldsGiven limits (fold (λ (d : List Field) (f : StaticTold). add_field limits d (name_at names f.name) f.kind) done statics)
static_from limits names done [] long few all = all
static_from limits names done (f ∷ statics) long few all =
    static_from limits names (add_field limits done (name_at names f.name) f.kind) statics long (omega (arith, few, field_longer limits done (name_at names f.name) f.kind))
    (field_and limits done (name_at names f.name) f.kind long (omega (arith, few)) all)

static_length : (limits : ClassLimits) (names : List (ℕ × List ℕ)) (done : List Field) (statics : List StaticTold)
    → length (fold (λ (d : List Field) (f : StaticTold). add_field limits d (name_at names f.name) f.kind) done statics) ≡ length done + length statics
static_length limits names done [] = omega arith
static_length limits names done (f ∷ statics) =
    static_length limits names (add_field limits done (name_at names f.name) f.kind) statics ∙ omega (arith, field_longer limits done (name_at names f.name) f.kind)

pub static_right : (limits : ClassLimits) (names : List (ℕ × List ℕ)) (statics : List StaticTold) → 22 ≤ limits.name_bytes → length statics < 2 ^ 64
    → AreRight limits (static_named limits names statics)
static_right limits names statics long few = let all = static_from limits names [] statics long (omega (arith, few)) (none_given limits) in all.right

pub length-static_named : (limits : ClassLimits) (names : List (ℕ × List ℕ)) (statics : List StaticTold) → length (static_named limits names statics) ≡ length statics
length-static_named limits names statics = static_length limits names [] statics ∙ omega arith

-- ---- refusals

pub memory_only : (r : Option Refusal) (e : Refusal) → r ≡ None → (r ≡ Some e) ⊎ ((r ≡ None) × (true ≡ true) × (e ≡ NoMemory)) → e ≡ NoMemory
memory_only r e none (inl same) = absurd (cc (none, same))
memory_only r e none (inr memory) = memory.2
