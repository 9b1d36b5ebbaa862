-- The names of fields.
use Rattle.std.proofs.Common.{◌≡◌, ℕ, Bool, true, false, not, ◌&&◌, ◌||◌, cond, List, [], ◌∷◌, ◌++◌, length, map, Option, Some, None, refl, sym, ap, ◌∙◌}
use Rattle.std.specs.Prelude.{nat_eq, unwrap_or}
use Rattle.std.specs.Borrow.{Bor}
use Rattle.std.specs.List.{list_any}
use Rattle.std.specs.Map.{lookup}
use Rattle.std.specs.Option.{option_map}
use Rattle.std.specs.Str.{bytes_eq}
use Rattle.heap_class.specs.declared.ClassLimits.{ClassLimits}
use Rattle.heap_class.specs.declared.Field.{Field}
use Rattle.heap_class.specs.declared.Kind.{Kind}
use Rattle.hprof_plan.specs.ClassFields.{add_field, name_at}
use Rattle.hprof_plan.specs.Names.{given_name, is_clean, other_name}
use Rattle.hprof_plan.specs.Tables.{names_told}

-- ---- a name, by its id

lookup_told : (test : ℕ → Bool) (es : List (ℕ × Bor (List ℕ))) → lookup test (names_told es) ≡ option_map (λ (b : Bor (List ℕ)). b.now) (lookup test es)
lookup_told test [] = refl
lookup_told test (e ∷ es) = by (test e.0) (lookup_told test es)
  where
    by : (b : Bool) → lookup test (names_told es) ≡ option_map (λ (b : Bor (List ℕ)). b.now) (lookup test es)
        → cond b (Some e.1.now) (lookup test (names_told es)) ≡ option_map (λ (b : Bor (List ℕ)). b.now) (cond b (Some e.1) (lookup test es))
    by true rest = refl
    by false rest = rest

pub name_there : (es : List (ℕ × Bor (List ℕ))) (id : ℕ) (v : Bor (List ℕ)) → Some v ≡ lookup (nat_eq id) es → v.now ≡ name_at (names_told es) id
name_there es id v h =
    ap (λ (o : Option (Bor (List ℕ))). unwrap_or (option_map (λ (b : Bor (List ℕ)). b.now) o) []) h
    ∙ ap (λ (o : Option (List ℕ)). unwrap_or o []) (sym (lookup_told (nat_eq id) es))

pub name_lacking : (es : List (ℕ × Bor (List ℕ))) (id : ℕ) → None ≡ lookup (nat_eq id) es → [] ≡ name_at (names_told es) id
name_lacking es id h =
    ap (λ (o : Option (Bor (List ℕ))). unwrap_or (option_map (λ (b : Bor (List ℕ)). b.now) o) []) h
    ∙ ap (λ (o : Option (List ℕ)). unwrap_or o []) (sym (lookup_told (nat_eq id) es))

-- ---- a field more

any_named : (name : List ℕ) (done : List Field) → list_any (λ (f : Field). bytes_eq name f.name) done ≡ list_any (bytes_eq name) (map (λ (f : Field). f.name) done)
any_named name [] = refl
any_named name (f ∷ done) = ap (λ b. bytes_eq name f.name || b) (any_named name done)

pub field_added : (limits : ClassLimits) (done : List Field) (name : List ℕ) (kind : Kind) (is_given : Bool) (n : ℕ) (given : List ℕ) (new : List Field)
    → is_given ≡ list_any (λ (f : Field). bytes_eq name f.name) done → n ≡ length done → given ≡ cond (is_clean limits name && not is_given) name (other_name limits n name)
    → new ≡ done ++ record { name = given; kind = kind } ∷ [] → new ≡ add_field limits done name kind
unfolding add_field given_name
field_added limits done name kind is_given n given new any count is e =
    e ∙ ap (λ (x : List ℕ). done ++ record { name = x; kind = kind } ∷ [])
    (is ∙ ap (λ (v : Bool). cond (is_clean limits name && not v) name (other_name limits n name)) (any ∙ any_named name done)
    ∙ ap (λ (m : ℕ). cond (is_clean limits name && not (list_any (bytes_eq name) (map (λ (f : Field). f.name) done))) name (other_name limits m name)) count)
