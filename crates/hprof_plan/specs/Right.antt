-- Fields that a class may have.
use Rattle.std.specs.Prelude.{◌≡◌, true, List, map}
use Rattle.std.specs.List.{list_all}
use Rattle.heap_class.specs.declared.ClassLimits.{ClassLimits}
use Rattle.heap_class.specs.declared.Field.{Field}
use Rattle.heap_class.specs.Classes.{all_distinct, is_name}

-- a heap with these limits takes the names of the fields, and no two are alike
pub record AreRight (limits : ClassLimits) (fields : List Field) : Type 0 where
  pub taken : list_all (is_name limits) (map (λ (f : Field). f.name) fields) ≡ true
  pub distinct : all_distinct (map (λ (f : Field). f.name) fields) ≡ true
