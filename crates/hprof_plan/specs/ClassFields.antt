-- The fields of the classes of a session.
use Rattle.std.specs.Prelude.{ℕ, nat_eq, List, [], ◌∷◌, ◌++◌, length, map, fold, unwrap_or}
use Rattle.std.specs.Option.{option_map_or}
use Rattle.std.specs.Map.{lookup}
use Rattle.heap_class.specs.declared.ClassLimits.{ClassLimits}
use Rattle.heap_class.specs.declared.Field.{Field}
use Rattle.heap_class.specs.declared.Kind.{Kind}
use Rattle.hprof_reader.specs.declared.fields.OwnField.{OwnField}
use Rattle.hprof_reader.specs.Fields.{StaticTold}
use Rattle.hprof_plan.specs.Names.{given_name}

-- the name with this id, or no bytes
abbrev pub name_at : List (ℕ × List ℕ) → ℕ → List ℕ
name_at names id = unwrap_or (lookup (nat_eq id) names) []

-- the name of a class, or no bytes
abbrev pub class_name_at : List (ℕ × List ℕ) → List (ℕ × ℕ) → ℕ → List ℕ
class_name_at names loads id = option_map_or (name_at names) (lookup (nat_eq id) loads) []

-- the fields after one is added with this name, or with another in its place
unfoldable pub add_field : ClassLimits → List Field → List ℕ → Kind → List Field
add_field limits done name kind =
    done
    ++ record {
      name = given_name limits (map (λ (f : Field). f.name) done) (length done) name;
      kind = kind;
    }
    ∷ []

-- own fields with their names
abbrev pub own_named : ClassLimits → List (ℕ × List ℕ) → List OwnField → List Field
own_named limits names own =
    fold (λ (done : List Field) (f : OwnField). add_field limits done (name_at names f.name) f.kind) [] own

-- static fields with their names
abbrev pub static_named : ClassLimits → List (ℕ × List ℕ) → List StaticTold → List Field
static_named limits names statics =
    fold (λ (done : List Field) (f : StaticTold). add_field limits done (name_at names f.name) f.kind) [] statics
