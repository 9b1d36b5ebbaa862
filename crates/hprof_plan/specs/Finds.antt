-- What a walk over a dump finds.
use Rattle.std.specs.Prelude.{◌≡◌, ◌+◌, ◌≤◌, ◌++◌, nat_eq, List, [], length, None}
use Rattle.std.specs.List.{filter_map}
use Rattle.std.specs.Option.{option_to_list}
use Rattle.heap_class.specs.declared.IdSize.{IdSize}
use Rattle.indexmap.specs.IndexMap.{insert_all as insert_entries}
use Rattle.indexmap.specs.IndexSet.{insert_all as insert_keys}
use Rattle.hprof_session.specs.Surveys.{bytes_left, EndsAt}
use Rattle.hprof_session.specs.Walks.{Left, ItemTold, AreNext}
use Rattle.hprof_plan.specs.Items.{array_class_of, class_entry, load_of, name_of, object_of, root_of}
use Rattle.hprof_plan.specs.Tables.{classes_told, names_told}
use Rattle.hprof_plan.specs.declared.dump.Found.{Found}

-- the tables are those of these items. Where entries have one id, the last is found, at the place of the first
pub record HasTables (size : IdSize) (list : List ItemTold) (f : Found) : Type 0 where
  pub ids : f.ids ≡ size
  pub names : names_told f.names.entries ≡ insert_entries nat_eq [] (filter_map (name_of size) list)
  pub loads : f.loads.entries ≡ insert_entries nat_eq [] (filter_map (load_of size) list)
  pub classes : classes_told f.classes.entries ≡ insert_entries nat_eq [] (filter_map class_entry list)
  pub array_classes : f.array_classes.keys ≡ insert_keys nat_eq [] (filter_map array_class_of list)
  pub objects : f.objects.keys ≡ insert_keys nat_eq [] (filter_map object_of list)
  pub again : length f.objects.keys + f.again ≡ length (filter_map object_of list)
  pub roots : f.roots.items ≡ filter_map root_of list

-- the walk comes to these items, one after another, and then to its end or the first fault; the tables are theirs
pub record Finds (w : Left) (f : Found) : Type 0 where
  pub list : List ItemTold
  pub end : Left
  pub walked : AreNext w list end
  pub ended : EndsAt end f.fault
  pub left : f.left ≡ bytes_left end
  pub tables : HasTables w.ids list f

-- nothing is found
pub record IsEmptyFound (ids : IdSize) (f : Found) : Type 0 where
  pub tables : HasTables ids [] f
  pub again : f.again ≡ 0
  pub fault : f.fault ≡ None
  pub left : f.left ≡ 0

-- the tables go on with what this item tells
pub record Notes (i : ItemTold) (old new : Found) : Type 0 where
  pub ids : new.ids ≡ old.ids
  pub names : names_told new.names.entries
      ≡ insert_entries nat_eq (names_told old.names.entries) (option_to_list (name_of old.ids i))
  pub loads : new.loads.entries ≡ insert_entries nat_eq old.loads.entries (option_to_list (load_of old.ids i))
  pub classes : classes_told new.classes.entries
      ≡ insert_entries nat_eq (classes_told old.classes.entries) (option_to_list (class_entry i))
  pub array_classes : new.array_classes.keys
      ≡ insert_keys nat_eq old.array_classes.keys (option_to_list (array_class_of i))
  pub objects : new.objects.keys ≡ insert_keys nat_eq old.objects.keys (option_to_list (object_of i))
  pub again : length new.objects.keys + new.again
      ≡ length old.objects.keys + old.again + length (option_to_list (object_of i))
  pub few : new.again ≤ old.again + 1
  pub roots : new.roots.items ≡ old.roots.items ++ option_to_list (root_of i)
  pub fault : new.fault ≡ old.fault
  pub left : new.left ≡ old.left
